-- Sets of which nothing is told.
use Rattle.std.proofs.Common.{◌≡◌, ℕ, zero, suc, ◌+◌, ◌≤◌, ◌<◌, List, [], ◌∷◌, ◌++◌, refl}
use Rattle.std.proofs.Common.{subst, arith, Bool, true, false, not, ◌||◌, Some, None}
use Rattle.std.proofs.Common.{length, get_or, inl, inr, ◌⊎◌, ⊎_elim}
use Rattle.std.specs.List.{All, flat_map, list_any}
use Rattle.std.specs.Prelude.{Option, if◌then◌else◌, nat_eq, slice_get}
use Rattle.std.proofs.lemmas.Bool.{eqb-true}
use Rattle.std.proofs.lemmas.List.Elements.{All-append}
use Rattle.protobuf_parse_model.specs.Descriptors.{FieldDescriptor, FileDescriptor}
use Rattle.protobuf_parse_model.specs.Descriptors.{MessageDescriptor, MessageDescriptors, Text}
use Rattle.protobuf_parse_model.specs.Descriptors.{a_message, messages, no_messages}
use Rattle.protobuf_parse_model.specs.declared.descriptor.FieldType.{FieldType}
use Rattle.protobuf_parse_model.specs.declared.descriptor.FieldType.TheVariants as type
use Rattle.protobuf_parse_model.specs.declared.scope.seen.TypeKind.{TypeKind}
use Rattle.protobuf_parse_model.specs.declared.scope.seen.TypeKind.TheVariants as kind
use Rattle.protobuf_parse_set_rules.specs.Breaches.{Site, breach_if}
use Rattle.protobuf_parse_set_rules.specs.Law.{IsDeclared, NamesOne, TypesAreDeclared}
use Rattle.protobuf_parse_set_rules.specs.Law.{fields_around, fields_inside, fields_of}
use Rattle.protobuf_parse_set_rules.specs.Names.{package_scope, within}
use Rattle.protobuf_parse_set_rules.specs.Positions.{by_position}
use Rattle.protobuf_parse_set_rules.specs.Rules.{both_breaches, declared_breaches, enum_breaches}
use Rattle.protobuf_parse_set_rules.specs.Rules.{extendee_breaches, extension_breaches}
use Rattle.protobuf_parse_set_rules.specs.Rules.{field_breaches, file_breaches, file_site}
use Rattle.protobuf_parse_set_rules.specs.Rules.{is_enum, is_message, meaning, message_breaches}
use Rattle.protobuf_parse_set_rules.specs.Rules.{name_breaches, named, nested_breaches}
use Rattle.protobuf_parse_set_rules.specs.Rules.{oneof_breaches, oneof_name_breaches}
use Rattle.protobuf_parse_set_rules.specs.Rules.{own_breaches, own_extendee_breaches}
use Rattle.protobuf_parse_set_rules.specs.Rules.{parts_breaches, service_breaches}
use Rattle.protobuf_parse_set_rules.specs.Rules.{type_breaches, type_stands}
use Rattle.protobuf_parse_set_rules.specs.Sights.{Known, Sight, files_before, hands_on, kind_seen}
use Rattle.protobuf_parse_set_rules.specs.Sights.{known_of, path_of, publics_at, sees, sees_file}
use Rattle.protobuf_parse_set_rules.specs.Sights.{sight_of}
use Rattle.protobuf_parse_set_rules.specs.Steps.{GoBack, IsBelow}
use Rattle.protobuf_parse_set_rules.specs.Types.{DeclaredType}
use Rattle.protobuf_parse_set_rules.specs.declared.rule.SetRule.{SetRule}
use Rattle.protobuf_parse_set_rules.proofs.Ways.{all_before, below_head, below_tail, publics_back}

-- ---- lists of which nothing is left

nothing_left : {X : Type 0} (xs ys : List X) → xs ++ ys ≡ [] → xs ≡ []
nothing_left [] ys e = refl
nothing_left (x ∷ xs) ys e = absurd cc

nothing_right : {X : Type 0} (xs ys : List X) → xs ++ ys ≡ [] → ys ≡ []
nothing_right [] ys e = e
nothing_right (x ∷ xs) ys e = absurd cc

none_at : {X : Type 0} (P : X → Type 0) → All P []
none_at P = λ k d lt. absurd (omega (arith, lt))

one_more_at : {X : Type 0} (P : X → Type 0) (x : X) (xs : List X) → P x → All P xs → All P (x ∷ xs)
one_more_at P x xs first all = λ k d lt. at P x xs first all k d lt
  where
    at : {X : Type 0} (P : X → Type 0) (x : X) (xs : List X) → P x → All P xs → (k : ℕ) (d : X)
        → k < length (x ∷ xs) → P (get_or (x ∷ xs) k d)
    at P x xs first all zero d lt = first
    at P x xs first all (suc k) d lt = all k d (omega (arith, lt))

each_nothing : {X Y : Type 0} (g : X → List Y) (P : X → Type 0) (xs : List X)
    → ((x : X) → g x ≡ [] → P x) → flat_map g xs ≡ [] → All P xs
each_nothing g P [] holds e = none_at P
each_nothing g P (x ∷ xs) holds e =
    one_more_at P x xs (holds x (nothing_left (g x) (flat_map g xs) e))
    (each_nothing g P xs holds (nothing_right (g x) (flat_map g xs) e))

positions_nothing : {X Y : Type 0} (g : ℕ → X → List Y) (first n : ℕ) (xs : List X) (x : X)
    → by_position g first xs ≡ [] → slice_get xs n ≡ Some x → g (first + n) x ≡ []
positions_nothing g first n [] x e is = absurd cc
positions_nothing g first zero (y ∷ ys) x e is =
    let same : y ≡ x = cc in
    subst (λ m. g m x ≡ []) (none_more first) (subst (λ z. g first z ≡ []) same
    (nothing_left (g first y) (by_position g (first + 1) ys) e))
  where
    none_more : (m : ℕ) → m ≡ m + 0
    none_more m = omega arith
positions_nothing g first (suc n) (y ∷ ys) x e is =
    subst (λ m. g m x ≡ []) (one_more first n) (positions_nothing g (first + 1) n ys x
    (nothing_right (g first y) (by_position g (first + 1) ys) e) is)
  where
    one_more : (m k : ℕ) → (m + 1) + k ≡ m + suc k
    one_more m k = omega arith

-- ---- fields

not_told : (b : Bool) (at : Site) (rule : SetRule) (name : Text)
    → breach_if (not b) at rule name ≡ [] → b ≡ true
not_told true at rule name e = refl
not_told false at rule name e = absurd cc

module _ (sees : Sight) (file : Text) where
  -- a field's type stands as it says
  abbrev Stands : FieldDescriptor → Type 0
  Stands d = type_stands sees d.type_ d.type_name ≡ true

  both_stand : (at : Site) (oneofs : ℕ) (d : FieldDescriptor) → both_breaches sees at oneofs d ≡ []
      → Stands d
  both_stand at oneofs d e =
      not_told (type_stands sees d.type_ d.type_name) at _ _
      (nothing_left (type_breaches sees at d.type_ d.type_name)
      (oneof_breaches at oneofs d.oneof_index)
      (nothing_right (name_breaches at d.name) (type_breaches sees at d.type_ d.type_name
      ++ oneof_breaches at oneofs d.oneof_index) e))

  field_stands : (scope : Text) (oneofs : ℕ) (d : FieldDescriptor)
      → field_breaches sees file scope oneofs d ≡ [] → Stands d
  field_stands scope oneofs d e =
      both_stand (named file scope d.name) oneofs d
      (nothing_left (both_breaches sees (named file scope d.name) oneofs d)
      (own_extendee_breaches (named file scope d.name) d.extendee) e)

  extension_stands : (scope : Text) (d : FieldDescriptor)
      → extension_breaches sees file scope d ≡ [] → Stands d
  extension_stands scope d e =
      both_stand (named file scope d.name) 0 d
      (nothing_left (both_breaches sees (named file scope d.name) 0 d)
      (extendee_breaches sees (named file scope d.name) d.extendee) e)

  all_extensions : (scope : Text) (ds : List FieldDescriptor)
      → flat_map (extension_breaches sees file scope) ds ≡ [] → All Stands ds
  all_extensions scope ds e =
      each_nothing (extension_breaches sees file scope) Stands ds (extension_stands scope) e

  -- ---- messages

  mutual
    around : (scope : Text) (m : MessageDescriptor) → message_breaches sees file scope m ≡ []
        → All Stands (fields_around m)
    around scope (a_message parts nested) e =
        let name = within scope parts.name in
        let own = name_breaches (named file scope parts.name) parts.name in
        let told = parts_breaches sees file name parts in
        let inner = nested_breaches sees file name nested in
        let fields = flat_map (field_breaches sees file name (length parts.oneof_decl)) parts.field
        in
        let oneofs = flat_map (oneof_name_breaches file name) parts.oneof_decl in
        let enums = flat_map (enum_breaches file name) parts.enum_type in
        let extensions = flat_map (extension_breaches sees file name) parts.extension in
        let rest = nothing_right own (told ++ inner) e in
        let ours = nothing_left told inner rest in
        All-append Stands parts.field (parts.extension ++ fields_inside nested)
        (each_nothing (field_breaches sees file name (length parts.oneof_decl)) Stands parts.field
        (field_stands name (length parts.oneof_decl))
        (nothing_left fields (oneofs ++ (enums ++ extensions)) ours))
        (All-append Stands parts.extension (fields_inside nested)
        (all_extensions name parts.extension
        (nothing_right enums extensions (nothing_right oneofs (enums ++ extensions)
        (nothing_right fields (oneofs ++ (enums ++ extensions)) ours))))
        (inside name nested (nothing_right told inner rest)))

    inside : (scope : Text) (ms : MessageDescriptors) → nested_breaches sees file scope ms ≡ []
        → All Stands (fields_inside ms)
    inside scope no_messages e = none_at Stands
    inside scope (messages m ms) e =
        All-append Stands (fields_around m) (fields_inside ms)
        (around scope m
        (nothing_left (message_breaches sees file scope m) (nested_breaches sees file scope ms) e))
        (inside scope ms
        (nothing_right (message_breaches sees file scope m) (nested_breaches sees file scope ms) e))

  all_around : (scope : Text) (ms : List MessageDescriptor)
      → flat_map (message_breaches sees file scope) ms ≡ []
      → All Stands (flat_map fields_around ms)
  all_around scope [] e = none_at Stands
  all_around scope (m ∷ ms) e =
      All-append Stands (fields_around m) (flat_map fields_around ms)
      (around scope m (nothing_left (message_breaches sees file scope m)
      (flat_map (message_breaches sees file scope) ms) e))
      (all_around scope ms (nothing_right (message_breaches sees file scope m)
      (flat_map (message_breaches sees file scope) ms) e))

  file_stands : (scope : Text) (f : FileDescriptor) → declared_breaches sees file scope f ≡ []
      → All Stands (fields_of f)
  file_stands scope f e =
      let ms = flat_map (message_breaches sees file scope) f.message_type in
      let es = flat_map (enum_breaches file scope) f.enum_type in
      let ss = flat_map (service_breaches sees file scope) f.service in
      let xs = flat_map (extension_breaches sees file scope) f.extension in
      All-append Stands (flat_map fields_around f.message_type) f.extension
      (all_around scope f.message_type (nothing_left ms (es ++ (ss ++ xs)) e))
      (all_extensions scope f.extension
      (nothing_right ss xs (nothing_right es (ss ++ xs) (nothing_right ms (es ++ (ss ++ xs)) e))))

-- ---- where types are declared

one_or_others : (a b : Bool) → (a || b) ≡ true → (a ≡ true) ⊎ (b ≡ true)
one_or_others true b e = inl refl
one_or_others false b e = inr e

any_of : (p : ℕ → Bool) (n to : ℕ) (xs : List ℕ) → IsBelow n xs
    → ((x : ℕ) → p x ≡ true → to ≤ x) → list_any p xs ≡ true → to ≤ n
any_of p n to [] all goes e = absurd cc
any_of p n to (x ∷ xs) all goes e = ⊎_elim
    (λ here. up_to to x n (goes x here) (below_head n x xs all))
    (λ there. any_of p n to xs (below_tail n x xs all) goes there)
    (one_or_others (p x) (list_any p xs) e)
  where
    up_to : (to x n : ℕ) → to ≤ x → x < n → to ≤ n
    up_to to x n le lt = omega (arith, le, lt)

itself : (from to : ℕ) → nat_eq from to ≡ true → to ≤ from
itself from to e = same from to (eqb-true from to e)
  where
    same : (from to : ℕ) → from ≡ to → to ≤ from
    same from to e = omega (arith, e)

goes_back : (publics : List (List ℕ)) (back : GoBack publics) (most from to : ℕ)
    → hands_on publics most from to ≡ true → to ≤ from
goes_back publics back zero from to e = itself from to e
goes_back publics back (suc most) from to e = ⊎_elim
    (λ here. itself from to here)
    (λ there. any_of (λ via. hands_on publics most via to) from to (publics_at publics from)
    (back from) (λ via. goes_back publics back most via to) there)
    (one_or_others (nat_eq from to)
    (list_any (λ via. hands_on publics most via to) (publics_at publics from)) e)

sees_back : (publics : List (List ℕ)) (back : GoBack publics) (own to : ℕ) (imports : List ℕ)
    → IsBelow own imports → sees_file publics own imports to ≡ true → to ≤ own
sees_back publics back own to imports below e = ⊎_elim
    (λ here. itself own to here)
    (λ there. any_of (λ via. hands_on publics (length publics) via to) own to imports below
    (λ via. goes_back publics back (length publics) via to) there)
    (one_or_others (nat_eq own to)
    (list_any (λ via. hands_on publics (length publics) via to) imports) e)

module _ (files : List FileDescriptor) (n : ℕ) (f : FileDescriptor) where
  abbrev known : Known
  known = known_of files

  stands_before : (to : ℕ) → sees known n f to ≡ true → to ≤ n
  stands_before to e =
      sees_back known.publics (publics_back known.paths files) n to
      (files_before known.paths n f.dependency) (all_before known.paths n f.dependency) e

  one_seen : (k : TypeKind) (o : Option DeclaredType)
      → kind_seen (sees known n f) o ≡ Some k
      → (t : DeclaredType) × (o ≡ Some t) × (t.kind ≡ k) × (t.file ≤ n)
  one_seen k None e = absurd cc
  one_seen k (Some t) e = by_test (sees known n f t.file) refl e
    where
      by_test : (b : Bool) → sees known n f t.file ≡ b
          → (if b then Some t.kind else None) ≡ Some k
          → (s : DeclaredType) × (Some t ≡ Some s) × (s.kind ≡ k) × (s.file ≤ n)
      by_test true is e = (t, refl, cc, stands_before t.file is)
      by_test false is e = absurd cc

  means_message : (o : Option TypeKind) → is_message o ≡ true → o ≡ Some kind.Message
  means_message None e = absurd cc
  means_message (Some kind.Message) e = refl
  means_message (Some kind.Enum) e = absurd cc

  means_enum : (o : Option TypeKind) → is_enum o ≡ true → o ≡ Some kind.Enum
  means_enum None e = absurd cc
  means_enum (Some kind.Message) e = absurd cc
  means_enum (Some kind.Enum) e = refl

  declared_as : (k : TypeKind) (name : Option Text)
      → meaning (sight_of known n f) name ≡ Some k → IsDeclared files n k name
  declared_as k None e = absurd cc
  declared_as k (Some name) e = one_seen k (known.types name) e

  names_one : (type : FieldType) (name : Option Text)
      → type_stands (sight_of known n f) type name ≡ true → NamesOne files n type name
  names_one type.Message name e =
      declared_as kind.Message name (means_message (meaning (sight_of known n f) name) e)
  names_one type.Group name e =
      declared_as kind.Message name (means_message (meaning (sight_of known n f) name) e)
  names_one type.Enum name e =
      declared_as kind.Enum name (means_enum (meaning (sight_of known n f) name) e)
  names_one type.Int32 name e = tt
  names_one type.Int64 name e = tt
  names_one type.Uint32 name e = tt
  names_one type.Uint64 name e = tt
  names_one type.Sint32 name e = tt
  names_one type.Sint64 name e = tt
  names_one type.Fixed32 name e = tt
  names_one type.Sfixed32 name e = tt
  names_one type.Fixed64 name e = tt
  names_one type.Sfixed64 name e = tt
  names_one type.Bool name e = tt
  names_one type.String name e = tt
  names_one type.Bytes name e = tt
  names_one type.Float name e = tt
  names_one type.Double name e = tt

-- Where nothing is told each field names a type that is declared.
pub all_declared : TypesAreDeclared
all_declared files none n f is =
    let known : Known = known_of files in
    let scope : Text = package_scope f.«package» in
    let told : file_breaches known n f ≡ [] = subst (λ m. file_breaches known m f ≡ []) (no_more n)
    (positions_nothing (file_breaches known) 0 n files f none is) in
    let stand = file_stands (sight_of known n f) (path_of f) scope f
    (nothing_right (own_breaches known.paths n (file_site f) f)
    (declared_breaches (sight_of known n f) (path_of f) scope f) told) in
    λ k d lt. names_one files n f _ _ (stand k d lt)
  where
    no_more : (m : ℕ) → 0 + m ≡ m
    no_more m = omega arith
