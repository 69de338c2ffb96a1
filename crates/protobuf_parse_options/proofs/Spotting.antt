-- What stands at the spots of what a file declares, and that without them it is what the file
-- declares.
use Rattle.std.proofs.Common.{◌≡◌, ℕ, suc, ◌+◌, List, [], ◌∷◌, ◌++◌, map, flat_map, Option, Some}
use Rattle.std.proofs.Common.{None, option_map, refl, sym, ap, ◌∙◌, arith, slice_get, zero-add}
use Rattle.std.proofs.Common.{append_assoc}
use Rattle.std.specs.List.{AllByRecursion}
use Rattle.std.proofs.lemmas.List.{map-append}
use Rattle.protobuf_parse_model.specs.Declarations.{Declared}
use Rattle.protobuf_parse_model.specs.Descriptors.{Text, FileDescriptor, MessageParts, parts_seen}
use Rattle.protobuf_parse_model.specs.Descriptors.{MessageDescriptor, MessageDescriptors, a_message}
use Rattle.protobuf_parse_model.specs.Descriptors.{no_messages, messages, messages_of_list}
use Rattle.protobuf_parse_model.specs.Descriptors.{messages_list}
use Rattle.protobuf_parse_model.specs.Descriptors.{message_view}
use Rattle.protobuf_parse_model.specs.MessageParts.{message_parts}
use Rattle.protobuf_parse_model.proofs.Levels.{list_of_is}
use Rattle.protobuf_parse_model.proofs.Levels.{message_view_is}
use Rattle.protobuf_parse_model.specs.declared.descriptor.DescriptorProto.{DescriptorProto}
use Rattle.protobuf_parse_model.specs.declared.descriptor.DescriptorProto.{out-DescriptorProto}
use Rattle.protobuf_parse_wire.specs.Declarations.{Declaration, declared_extensions}
use Rattle.protobuf_parse_wire.specs.Declarations.{messages_declared_in}
use Rattle.protobuf_parse_wire.specs.Declarations.{declared_message, declared_messages}
use Rattle.protobuf_parse_wire.specs.Declarations.{package_scope, name_within}
use Rattle.protobuf_parse_options.specs.OptionFields.{declared_enums}
use Rattle.protobuf_parse_options.specs.Spots.{Inside, SpottedView, enum_name, enums_inside}
use Rattle.protobuf_parse_options.specs.SpotsInside.{down}
use Rattle.protobuf_parse_options.specs.Spots.{extensions_inside, field_name, inside_file}
use Rattle.protobuf_parse_options.specs.Spots.{inside_message}
use Rattle.protobuf_parse_options.specs.SpotsInside.{messages_inside, next_inside}
use Rattle.protobuf_parse_options.specs.SpotsInside.{one_inside}
use Rattle.protobuf_parse_options.specs.Spots.{path_to, spotted_each, spotted_enums}
use Rattle.protobuf_parse_options.specs.Spots.{spotted_extensions}
use Rattle.protobuf_parse_options.specs.Spots.{spotted_in, spotted_inside, spotted_list}
use Rattle.protobuf_parse_options.specs.Spots.{spotted_message}
use Rattle.protobuf_parse_options.specs.Spots.{spotted_messages, spotted_nested}
use Rattle.protobuf_parse_options.proofs.SoundSets.{both, flat}

-- ---- the way down

pub down-push : (inside : Option Inside) (path : List ℕ) (index : ℕ)
    → down inside (path ++ index ∷ []) ≡ next_inside (down inside path) index
down-push inside [] index = refl
down-push inside (i ∷ path) index = down-push (next_inside inside i) path index

-- the message with this number is the way to what stands in it
next_is : (inside : Option Inside) (index : ℕ) (m : MessageDescriptor)
    → one_inside messages_inside inside index ≡ Some m
    → next_inside inside index ≡ Some (inside_message m)
next_is None index m e = absurd cc
next_is (Some inside) index m e = ap (option_map inside_message) e

pub inside_is : (m : DescriptorProto) → inside_message (message_view m) ≡ record {
  messages = map message_view (out-DescriptorProto m).nested_type.items;
  enums = (message_parts m).enum_type;
  extensions = (message_parts m).extension;
}
inside_is m = ap inside_message (message_view_is m) ∙ ap with_messages
    (list_of_is (map message_view (out-DescriptorProto m).nested_type.items))
  where
    with_messages : List MessageDescriptor → Inside
    with_messages ms = record {
      messages = ms;
      enums = (message_parts m).enum_type;
      extensions = (message_parts m).extension;
    }

-- a rest of a list that begins at the number n
abbrev pub Rest : {T : Type 0} → List T → ℕ → List T → Type 0
Rest all n rest = (i : ℕ) → slice_get all (n + i) ≡ slice_get rest i

pub rest_next : {T : Type 0} (all : List T) (n : ℕ) (x : T) (rest : List T) → Rest all n (x ∷ rest)
    → Rest all (suc n) rest
rest_next all n x rest h i = let e : suc n + i ≡ n + suc i = omega arith in
    ap (slice_get all) e ∙ h (suc i)

pub rest_first : {T : Type 0} (all : List T) (n : ℕ) (x : T) (rest : List T) → Rest all n (x ∷ rest)
    → slice_get all n ≡ Some x
rest_first all n x rest h = let e : n ≡ n + 0 = omega arith in ap (slice_get all) e ∙ h 0

pub all_rest : {T : Type 0} (all : List T) → Rest all 0 all
all_rest all i = ap (slice_get all) (zero-add i)

module _ (start : Option Inside) where
  -- it stands at its spot
  abbrev Stands : {T : Type 0} → (Inside → List T) → SpottedView T → Type 0
  Stands list p = one_inside list (down start p.path) p.index ≡ Some p.what

  at_rest : {T : Type 0} (list : Inside → List T) (path : List ℕ) (inside : Inside)
      → down start path ≡ Some inside → (n : ℕ) (x : T) → slice_get (list inside) n ≡ Some x
      → one_inside list (down start path) n ≡ Some x
  at_rest list path inside e n x is = ap (λ o. one_inside list o n) e ∙ is

  mutual
    message_stands : (scope : Text) (path : List ℕ) (index : ℕ) (m : MessageDescriptor)
        → one_inside messages_inside (down start path) index ≡ Some m
        → AllByRecursion (Stands messages_inside) (spotted_message scope path index m)
    message_stands scope path index (a_message parts nested) e =
        let inside = inside_message (a_message parts nested) in (
          e,
          nested_stand (name_within scope parts.name) (path ++ index ∷ []) inside
              (down-push start path index
              ∙ next_is (down start path) index (a_message parts nested) e)
              0 nested (all_rest (messages_list nested)),
        )

    nested_stand : (scope : Text) (path : List ℕ) (inside : Inside) → down start path ≡ Some inside
        → (n : ℕ) (ms : MessageDescriptors) → Rest inside.messages n (messages_list ms)
        → AllByRecursion (Stands messages_inside) (spotted_nested scope path n ms)
    nested_stand scope path inside e n no_messages h = tt
    nested_stand scope path inside e n (messages m ms) h =
        both (Stands messages_inside) (spotted_message scope path n m)
        (spotted_nested scope path (suc n) ms)
        (message_stands scope path n m
        (at_rest messages_inside path inside e n m
        (rest_first inside.messages n m (messages_list ms) h)))
        (nested_stand scope path inside e (suc n) ms
        (rest_next inside.messages n m (messages_list ms) h))

  list_stands : (scope : Text) (path : List ℕ) (inside : Inside) → down start path ≡ Some inside
      → (n : ℕ) (ms : List MessageDescriptor) → Rest inside.messages n ms
      → AllByRecursion (Stands messages_inside) (spotted_list scope path n ms)
  list_stands scope path inside e n [] h = tt
  list_stands scope path inside e n (m ∷ ms) h =
      both (Stands messages_inside) (spotted_message scope path n m)
      (spotted_list scope path (suc n) ms)
      (message_stands scope path n m
      (at_rest messages_inside path inside e n m (rest_first inside.messages n m ms h)))
      (list_stands scope path inside e (suc n) ms (rest_next inside.messages n m ms h))

  each_stands : {T : Type 0} (name_of : T → Text) (list : Inside → List T) (scope : Text)
      (path : List ℕ) (inside : Inside) → down start path ≡ Some inside → (n : ℕ) (xs : List T)
      → Rest (list inside) n xs
      → AllByRecursion (Stands list) (spotted_each name_of scope path n xs)
  each_stands name_of list scope path inside e n [] h = tt
  each_stands name_of list scope path inside e n (x ∷ xs) h = (
    at_rest list path inside e n x (rest_first (list inside) n x xs h),
    each_stands name_of list scope path inside e (suc n) xs (rest_next (list inside) n x xs h),
  )

  inside_stands : {T : Type 0} (name_of : T → Text) (list : Inside → List T)
      (ms : List (SpottedView MessageDescriptor)) → AllByRecursion (Stands messages_inside) ms
      → AllByRecursion (Stands list) (spotted_inside name_of list ms)
  inside_stands name_of list ms all =
      flat (λ (m : SpottedView MessageDescriptor). spotted_each name_of m.name (path_to m) 0
      (list (inside_message m.what))) (Stands list) (Stands messages_inside) one ms all
    where
      one : (m : SpottedView MessageDescriptor) → Stands messages_inside m
          → AllByRecursion (Stands list) (spotted_each name_of m.name (path_to m) 0
          (list (inside_message m.what)))
      one m e = each_stands name_of list m.name (path_to m) (inside_message m.what)
          (down-push start m.path m.index ∙ next_is (down start m.path) m.index m.what e) 0
          (list (inside_message m.what)) (all_rest (list (inside_message m.what)))

-- it stands in the file at its spot
abbrev pub StandsIn : {T : Type 0} → (Inside → List T) → FileDescriptor → SpottedView T → Type 0
StandsIn list file p = Stands (Some (inside_file file)) list p

pub messages_stand : (file : FileDescriptor)
    → AllByRecursion (StandsIn messages_inside file) (spotted_messages file)
messages_stand file = list_stands (Some (inside_file file)) (package_scope file.«package») []
    (inside_file file) refl 0 file.message_type (all_rest file.message_type)

pub placed_stand : {T : Type 0} (name_of : T → Text) (list : Inside → List T)
    (file : FileDescriptor)
    → AllByRecursion (StandsIn list file) (spotted_in name_of list file)
placed_stand name_of list file =
    let start = Some (inside_file file) in
    let scope = package_scope file.«package» in
    both (StandsIn list file) (spotted_inside name_of list (spotted_messages file))
    (spotted_each name_of scope [] 0 (list (inside_file file)))
    (inside_stands start name_of list (spotted_messages file) (messages_stand file))
    (each_stands start name_of list scope [] (inside_file file) refl 0 (list (inside_file file))
    (all_rest (list (inside_file file))))

-- ---- without spots

abbrev pub message_of : SpottedView MessageDescriptor → Declaration
message_of p = record { name = p.name; parts = parts_seen p.what }

abbrev pub declared_of : {T : Type 0} → SpottedView T → Declared T
declared_of p = record { name = p.name; what = p.what }

mutual
  message_without : (scope : Text) (path : List ℕ) (index : ℕ) (m : MessageDescriptor)
      → map message_of (spotted_message scope path index m) ≡ declared_message scope m
  message_without scope path index (a_message parts nested) =
      ap (λ ds. record { name = name_within scope parts.name; parts = parts } ∷ ds)
      (nested_without (name_within scope parts.name) (path ++ index ∷ []) 0 nested)

  nested_without : (scope : Text) (path : List ℕ) (n : ℕ) (ms : MessageDescriptors)
      → map message_of (spotted_nested scope path n ms) ≡ declared_messages scope ms
  nested_without scope path n no_messages = refl
  nested_without scope path n (messages m ms) =
      map-append message_of (spotted_message scope path n m) (spotted_nested scope path (suc n) ms)
      ∙ ap (λ ds. ds ++ map message_of (spotted_nested scope path (suc n) ms))
      (message_without scope path n m)
      ∙ ap (λ ds. declared_message scope m ++ ds) (nested_without scope path (suc n) ms)

list_without : (scope : Text) (path : List ℕ) (n : ℕ) (ms : List MessageDescriptor)
    → map message_of (spotted_list scope path n ms) ≡ flat_map (declared_message scope) ms
list_without scope path n [] = refl
list_without scope path n (m ∷ ms) =
    map-append message_of (spotted_message scope path n m) (spotted_list scope path (suc n) ms)
    ∙ ap (λ ds. ds ++ map message_of (spotted_list scope path (suc n) ms))
    (message_without scope path n m)
    ∙ ap (λ ds. declared_message scope m ++ ds) (list_without scope path (suc n) ms)

pub messages_without : (file : FileDescriptor)
    → map message_of (spotted_messages file) ≡ messages_declared_in file
messages_without file = list_without (package_scope file.«package») [] 0 file.message_type

module _ {T : Type 0} (name_of : T → Text) where
  abbrev whole : Text → T → Declared T
  whole scope x = record { name = name_within scope (name_of x); what = x }

  each_without : (scope : Text) (path : List ℕ) (n : ℕ) (xs : List T)
      → map declared_of (spotted_each name_of scope path n xs) ≡ map (whole scope) xs
  each_without scope path n [] = refl
  each_without scope path n (x ∷ xs) = ap (λ ds. whole scope x ∷ ds)
      (each_without scope path (suc n) xs)

  module _ (list : Inside → List T) (list_in : MessageParts → List T)
      (same : (m : MessageDescriptor) → list (inside_message m) ≡ list_in (parts_seen m)) where
    inside_without : (ms : List (SpottedView MessageDescriptor))
        → map declared_of (spotted_inside name_of list ms)
        ≡ flat_map (λ (d : Declaration). map (whole d.name) (list_in d.parts)) (map message_of ms)
    inside_without [] = refl
    inside_without (m ∷ ms) =
        map-append declared_of
        (spotted_each name_of m.name (path_to m) 0 (list (inside_message m.what)))
        (spotted_inside name_of list ms)
        ∙ ap (λ ds. ds ++ map declared_of (spotted_inside name_of list ms))
        (each_without m.name (path_to m) 0 (list (inside_message m.what))
        ∙ ap (map (whole m.name)) (same m.what))
        ∙ ap (λ ds. map (whole m.name) (list_in (parts_seen m.what)) ++ ds) (inside_without ms)

    placed_without : (file : FileDescriptor) → map declared_of (spotted_in name_of list file)
        ≡ flat_map (λ (d : Declaration). map (whole d.name) (list_in d.parts))
        (messages_declared_in file)
        ++ map (whole (package_scope file.«package»)) (list (inside_file file))
    placed_without file =
        let scope = package_scope file.«package» in
        let own = spotted_each name_of scope [] 0 (list (inside_file file)) in
        let each = λ (d : Declaration). map (whole d.name) (list_in d.parts) in
        map-append declared_of (spotted_inside name_of list (spotted_messages file)) own
        ∙ ap (λ ds. ds ++ map declared_of own)
        (inside_without (spotted_messages file) ∙ ap (flat_map each) (messages_without file))
        ∙ ap (λ ds. flat_map each (messages_declared_in file) ++ ds)
        (each_without scope [] 0 (list (inside_file file)))

enums_same : (m : MessageDescriptor) → enums_inside (inside_message m) ≡ (parts_seen m).enum_type
enums_same (a_message parts nested) = refl

extensions_same : (m : MessageDescriptor)
    → extensions_inside (inside_message m) ≡ (parts_seen m).extension
extensions_same (a_message parts nested) = refl

pub enums_without : (file : FileDescriptor)
    → map declared_of (spotted_enums file) ≡ declared_enums file
enums_without file = placed_without enum_name enums_inside (λ (p : MessageParts). p.enum_type)
    enums_same file

pub extensions_without : (file : FileDescriptor)
    → map declared_of (spotted_extensions file) ≡ declared_extensions file
extensions_without file = placed_without field_name extensions_inside
    (λ (p : MessageParts). p.extension) extensions_same file

-- ---- as lists grow

nested_is : (scope : Text) (path : List ℕ) (n : ℕ) (ms : List MessageDescriptor)
    → spotted_nested scope path n (messages_of_list ms) ≡ spotted_list scope path n ms
nested_is scope path n [] = refl
nested_is scope path n (m ∷ ms) = ap (λ ps. spotted_message scope path n m ++ ps)
    (nested_is scope path (suc n) ms)

-- a message, then those inside it
parts_listed : (scope name : Text) (path : List ℕ) (index : ℕ) (m : MessageDescriptor)
    (parts : MessageParts) (ms : List MessageDescriptor)
    (old new : List (SpottedView MessageDescriptor))
    → m ≡ a_message parts (messages_of_list ms) → name ≡ name_within scope parts.name
    → new ≡ (old ++ record { name = name; path = path; index = index; what = m } ∷ [])
    ++ spotted_list name (path ++ index ∷ []) 0 ms
    → new ≡ old ++ spotted_message scope path index m
parts_listed scope name path index m parts ms old new apart named is =
    is ∙ append_assoc old (head name m ∷ []) (spotted_list name inner 0 ms)
    ∙ ap (λ ps. old ++ head name m ∷ ps) (sym (nested_is name inner 0 ms))
    ∙ ap (λ (x : MessageDescriptor). old ++ head name x ∷ spotted_nested name inner 0
    (messages_of_list ms)) apart
    ∙ ap (λ (n : Text). old ++ head n (a_message parts (messages_of_list ms))
    ∷ spotted_nested n inner 0 (messages_of_list ms)) named
    ∙ ap (λ (x : MessageDescriptor). old ++ spotted_message scope path index x) (sym apart)
  where
    inner : List ℕ
    inner = path ++ index ∷ []

    head : Text → MessageDescriptor → SpottedView MessageDescriptor
    head n x = record { name = n; path = path; index = index; what = x }

pub message_listed : (scope name : Text) (path : List ℕ) (index : ℕ) (m : DescriptorProto)
    (old new : List (SpottedView MessageDescriptor)) → name
    ≡ name_within scope (message_parts m).name
    → new ≡ (old ++ record {
      name = name;
      path = path;
      index = index;
      what = message_view m;
    } ∷ []) ++ spotted_list name (path ++ index ∷ []) 0
    (map message_view (out-DescriptorProto m).nested_type.items)
    → new ≡ old ++ spotted_message scope path index (message_view m)
message_listed scope name path index m old new named is =
    parts_listed scope name path index (message_view m) (message_parts m)
    (map message_view (out-DescriptorProto m).nested_type.items) old new
    (message_view_is m) named is
