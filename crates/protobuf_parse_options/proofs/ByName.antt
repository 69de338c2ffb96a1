-- The first of what stands under a name, as this is gone through.
use Rattle.std.proofs.Common.{◌≡◌, Bool, true, false, List, [], ◌∷◌, ◌++◌, map, Option, Some, None}
use Rattle.std.proofs.Common.{option_map, is_some, refl, sym, ap, ◌∙◌, bytes_eq}
use Rattle.std.specs.Prelude.{option_to_list}
use Rattle.std.specs.Bool.{one_answer}
use Rattle.std.specs.List.{list_any}
use Rattle.std.specs.Option.{option_or}
use Rattle.std.specs.Borrow.{Bor}
use Rattle.protobuf_parse_model.specs.declared.descriptor.FieldDescriptorProto.{FieldDescriptorProto}
use Rattle.std.proofs.lemmas.Grind.{flat_map-append}
use Rattle.std.proofs.lemmas.List.{map-append}
use Rattle.std.proofs.lemmas.List.Folds.{find-append}
use Rattle.std.proofs.lemmas.Slice.Eq.{bytes_eq-Decides}
use Rattle.protobuf_parse_model.specs.Declarations.{Declared}
use Rattle.protobuf_parse_model.specs.Descriptors.{Text, FieldDescriptor, EnumDescriptor}
use Rattle.protobuf_parse_model.specs.Descriptors.{MessageDescriptor, parts_seen}
use Rattle.protobuf_parse_model.specs.Lookup.{declared}
use Rattle.protobuf_parse_options.specs.ByName.{fields_of_all, first, named, values_of_all}
use Rattle.protobuf_parse_wire.specs.Declarations.{Declaration, messages_named}
use Rattle.protobuf_parse_options.specs.Views.{extension_under_name, field_among, field_seen}
use Rattle.protobuf_parse_options.specs.Views.{number_among}
use Rattle.protobuf_parse_options.specs.Views.{values_among}
use Rattle.protobuf_parse_options.proofs.Found.{number_split}

pub is_some_mapped : {A B : Type 0} (f : A → B) (o : Option A) → is_some (option_map f o)
    ≡ is_some o
is_some_mapped f None = refl
is_some_mapped f (Some x) = refl

-- what may stand at a place, and what stands at further ones

pub first_more : {A : Type 0} (o : Option A) (xs : List A)
    → first (option_to_list o ++ xs) ≡ option_or o (first xs)
first_more None xs = refl
first_more (Some x) xs = refl

abbrev pub fields_of : List MessageDescriptor → List FieldDescriptor
fields_of ms = fields_of_all (map parts_seen ms)

pub fields_more : (name : Text) (ms ns : List MessageDescriptor)
    → field_among (fields_of (ms ++ ns)) name
    ≡ option_or (field_among (fields_of ms) name) (field_among (fields_of ns) name)
fields_more name ms ns =
    ap (λ ps. field_among (fields_of_all ps) name) (map-append parts_seen ms ns)
    ∙ ap (λ fs. field_among fs name) (flat_map-append _ (map parts_seen ms) (map parts_seen ns))
    ∙ find-append (λ (f : FieldDescriptor). bytes_eq f.name name) (fields_of ms) (fields_of ns)

pub values_more : (name : Text) (es fs : List EnumDescriptor)
    → number_among (values_of_all (es ++ fs)) name
    ≡ option_or (number_among (values_of_all es) name) (number_among (values_of_all fs) name)
values_more name es fs = ap (λ vs. number_among vs name) (flat_map-append _ es fs)
    ∙ number_split name (values_of_all es) (values_of_all fs)

-- ---- what has the name

abbrev is_named : Text → List Declaration → Bool
is_named name ds = list_any (λ (d : Declaration). bytes_eq name d.name) ds

-- whether any has the name
pub any_named : (name : Text) (ds : List Declaration)
    → is_named name ds ≡ is_some (first (messages_named name ds))
any_named name [] = refl
any_named name (d ∷ ds) = by_test (any_named name ds) (bytes_eq name d.name) refl
  where
    by_test : is_named name ds ≡ is_some (first (messages_named name ds))
        → (b : Bool) → bytes_eq name d.name ≡ b
        → is_named name (d ∷ ds) ≡ is_some (first (messages_named name (d ∷ ds)))
    by_test rest true e = rw e refl
    by_test rest false e = rw e rest

pub first_mapped : {A B : Type 0} (f : A → B) (xs : List A)
    → is_some (first (map f xs)) ≡ is_some (first xs)
first_mapped f [] = refl
first_mapped f (x ∷ xs) = refl

flipped : (a b : Text) → bytes_eq a b ≡ bytes_eq b a
flipped a b =
    let d = bytes_eq-Decides b a in
    one_answer {P = a ≡ b} (bytes_eq a b) (bytes_eq b a) (bytes_eq-Decides a b)
    (λ t. sym (d.0 t), λ q. d.1 (sym q))

-- the values in the enums of a name
pub values_named : (name : Text) (es : List (Declared EnumDescriptor))
    → values_of_all (named name es) ≡ values_among name es
values_named name [] = refl
values_named name (e ∷ es) = by_test (values_named name es) (bytes_eq name e.name) refl
  where
    by_test : values_of_all (named name es) ≡ values_among name es
        → (b : Bool) → bytes_eq name e.name ≡ b
        → values_of_all (named name (e ∷ es)) ≡ values_among name (e ∷ es)
    by_test rest true h = rw (flipped e.name name, h) (ap (λ vs. e.what.value ++ vs) rest)
    by_test rest false h = rw (flipped e.name name, h) rest

abbrev pub with_name : {T : Type 0} → Text → T → Declared T
with_name name x = record { name = name; what = x }

-- the first that has the name, by the name
pub first_named : {T : Type 0} (name : Text) (ds : List (Declared T))
    → option_map (λ (x : T). with_name name x) (first (named name ds)) ≡ declared ds name
first_named name [] = refl
first_named {T = T} name (d ∷ ds) = by_test (bytes_eq name d.name) refl (first_named name ds)
  where
    by_test : (b : Bool) → bytes_eq name d.name ≡ b
        → option_map (λ (x : T). with_name name x) (first (named name ds)) ≡ declared ds name
        → option_map (λ (x : T). with_name name x) (first (named name (d ∷ ds)))
        ≡ declared (d ∷ ds) name
    by_test true h rest = rw (flipped d.name name, h)
        (ap (λ n. Some (with_name n d.what)) ((bytes_eq-Decides name d.name).0 h))
    by_test false h rest = rw (flipped d.name name, h) rest

pub named_twice : (name : Text) (o : Option (Bor FieldDescriptorProto))
    → option_map (extension_under_name name) o
    ≡ option_map (with_name name) (option_map field_seen o)
named_twice name None = refl
named_twice name (Some f) = refl
