-- In files without faults each message that is declared is entered, and so is each that a field
-- holds.
use Rattle.std.proofs.Common.{◌≡◌, ℕ, suc, ◌+◌, ◌<◌, ◌≤◌, ◌⊎◌, inl, inr, Bool, true, false, cond}
use Rattle.std.proofs.Common.{List, [], ◌∷◌, ◌++◌, map, filter, flat_map, length, Option, Some}
use Rattle.std.proofs.Common.{None, is_some, option_to_list, refl, sym, ap, subst, ◌∙◌, arith}
use Rattle.std.proofs.Common.{bytes_eq}
use Rattle.std.proofs.lemmas.Bool.{or_cases, or_right}
use Rattle.std.proofs.lemmas.Grind.{flat_map-append}
use Rattle.std.proofs.lemmas.List.{append-nil, map-append}
use Rattle.std.proofs.lemmas.Slice.Eq.{bytes_eq-Decides}
use Rattle.protobuf_parse_syntax.specs.Trees.{FileSyntax}
use Rattle.protobuf_parse_model.specs.declared.descriptor.FieldType.TheVariants as types
use Rattle.protobuf_parse_model.specs.Descriptors.{Text, FieldDescriptor, MessageParts}
use Rattle.protobuf_parse_model.specs.Descriptors.{MessageDescriptor, MessageDescriptors, a_message}
use Rattle.protobuf_parse_model.specs.Descriptors.{no_messages, messages, FileDescriptor}
use Rattle.protobuf_parse_model.specs.Faults.{Among, here, there}
use Rattle.protobuf_parse_model.specs.Declarations.{Declared, file_scope, file_types}
use Rattle.protobuf_parse_model.specs.Declarations.{file_generated}
use Rattle.protobuf_parse_model.specs.Environment.{no_customs}
use Rattle.protobuf_parse_model.specs.Linking.{type_names, occurrences}
use Rattle.protobuf_parse_elaboration.specs.FileDescriptor.{types_of_files}
use Rattle.protobuf_parse_elaboration.specs.NamedTypes as model
use Rattle.protobuf_parse_elaboration.specs.NamedTypes.{down_from, down_from_all}
use Rattle.protobuf_parse_elaboration.specs.NamedTypes.{declared_message_name, messages_declared}
use Rattle.protobuf_parse_elaboration.specs.NamedTypes.{has_name}
use Rattle.protobuf_parse_elaboration.specs.FilesByPath.{Trees, among, trees_at}
use Rattle.protobuf_parse_elaboration.proofs.NamedTypes.{types_are_named, messages_are_named}
use Rattle.protobuf_parse_elaboration.proofs.Orders.{same-text, first-among, counted-from}
use Rattle.protobuf_parse_elaboration.proofs.Orders.{count-append, type-once}
use Rattle.protobuf_parse_wire.specs.Declarations as wire
use Rattle.protobuf_parse_wire.specs.Declarations.{Declaration, name_within, package_scope}
use Rattle.protobuf_parse_wire.specs.Declarations.{declared_message, declared_messages}
use Rattle.protobuf_parse_wire.specs.Declarations.{messages_declared_in, extensions_within}
use Rattle.protobuf_parse_wire.specs.Declarations.{messages_named, messages_with_name}
use Rattle.protobuf_parse_wire.specs.Declarations.{extensions_extending, extends}
use Rattle.protobuf_parse_options.specs.NamesAlike.{HasPackageName}
use Rattle.protobuf_parse_options.specs.CountedAlike.{message_names, enum_names}
use Rattle.protobuf_parse_options.specs.OptionFields.{fields_of_message}
use Rattle.protobuf_parse_options.specs.OptionLaw.{IsEntered, fields_at}
use Rattle.protobuf_parse_options.specs.DescriptorsByPath.{Environments, described_at}
use Rattle.protobuf_parse_options.specs.DescriptorsByPath.{descriptors_at}
use Rattle.protobuf_parse_options.specs.Recovery.{plainly, plain_at, AreReachedFiles}
use Rattle.protobuf_parse_options.proofs.MessagesAlike.{messages_are_counted_alike}
use Rattle.protobuf_parse_options.proofs.NamesAlike.{types_are_counted_alike}
use Rattle.protobuf_parse_options.proofs.Options.{among_left, among_right, SplitAmong, left, right}
use Rattle.protobuf_parse_options.proofs.Options.{split_among, among_joined}

-- ---- lists

-- what stands in a joined list stands in that of one of the elements
pub record FromOne {A B : Type 0} (g : A → List B) (xs : List A) (y : B) : Type 0 where
  pub one : A
  pub stands : Among xs one
  pub inside : Among (g one) y

pub from_one : {A B : Type 0} (g : A → List B) (xs : List A) (y : B) → Among (flat_map g xs) y
    → FromOne g xs y
from_one g [] y h = elim h [ ]
from_one g (x ∷ xs) y h = at (split_among (g x) (flat_map g xs) y h) (from_one g xs y)
  where
    at : SplitAmong (g x) (flat_map g xs) y → (Among (flat_map g xs) y → FromOne g xs y)
        → FromOne g (x ∷ xs) y
    at (left k) rest = record { one = x; stands = here; inside = k }
    at (right k) rest = let r = rest k in
        record { one = r.one; stands = there r.stands; inside = r.inside }

-- what stands in a mapped list comes from one of the elements
pub record MappedFrom {A B : Type 0} (f : A → B) (xs : List A) (y : B) : Type 0 where
  pub one : A
  pub stands : Among xs one
  pub is : f one ≡ y

pub mapped_from : {A B : Type 0} (f : A → B) (xs : List A) (y : B) → Among (map f xs) y
    → MappedFrom f xs y
mapped_from f [] y h = elim h [ ]
mapped_from f (x ∷ xs) _ here = record { one = x; stands = here; is = refl }
mapped_from f (x ∷ xs) y (there h) = let r = mapped_from f xs y h in
    record { one = r.one; stands = there r.stands; is = r.is }

-- what a test keeps stands in the list
kept_stands : {A : Type 0} (test : A → Bool) (xs : List A) (x : A) → Among (filter test xs) x
    → Among xs x
kept_stands test [] x h = elim h [ ]
kept_stands test (y ∷ xs) x h = at (test y) h (kept_stands test xs x)
  where
    at : (b : Bool) → Among (cond b (y ∷ filter test xs) (filter test xs)) x
        → (Among (filter test xs) x → Among xs x) → Among (y ∷ xs) x
    at true k rest = first k
      where
        first : Among (y ∷ filter test xs) x → Among (y ∷ xs) x
        first k = elim (split_among (y ∷ []) (filter test xs) x k)
            [ left i ↦ among_left xs i | right i ↦ there (rest i) ]
    at false k rest = there (rest k)

-- a list of at most one in which something stands
one_alone : {A : Type 0} (xs : List A) (x : A) → Among xs x → (1 < length xs → ⊥) → xs ≡ x ∷ []
one_alone [] x h few = elim h [ ]
one_alone (y ∷ []) _ here few = refl
one_alone (y ∷ []) x (there h) few = elim h [ ]
one_alone (y ∷ z ∷ xs) x h few = absurd (few (omega arith))

-- a name that is counted stands among the names
counted_stands : (n : Text) (names : List Text) → 0 < occurrences n names → Among names n
counted_stands n [] h = absurd (omega (arith, h))
counted_stands n (x ∷ names) h = at (bytes_eq n x) refl h (counted_stands n names)
  where
    at : (b : Bool) → bytes_eq n x ≡ b
        → 0 < length (cond b (x ∷ filter (bytes_eq n) names) (filter (bytes_eq n) names))
        → (0 < occurrences n names → Among names n) → Among (x ∷ names) n
    at true e k rest = subst (λ (z : Text). Among (x ∷ names) z) (sym (same-text n x e)) here
    at false e k rest = there (rest k)

-- ---- messages by name

-- as many messages as the name stands for
named_length : (n : Text) (ds : List Declaration)
    → length (messages_named n ds) ≡ occurrences n (map (λ (d : Declaration). d.name) ds)
named_length n [] = refl
named_length n (d ∷ ds) = at (bytes_eq n d.name) (named_length n ds)
  where
    at : (b : Bool) → length (messages_named n ds)
        ≡ occurrences n (map (λ (x : Declaration). x.name) ds)
        → length
        (map (λ (x : Declaration). x.parts)
        (cond b (d ∷ filter (λ (x : Declaration). bytes_eq n x.name) ds)
        (filter (λ (x : Declaration). bytes_eq n x.name) ds)))
        ≡ length
        (cond b (d.name ∷ filter (bytes_eq n) (map (λ (x : Declaration). x.name) ds))
        (filter (bytes_eq n) (map (λ (x : Declaration). x.name) ds)))
    at true e = ap (λ (k : ℕ). suc k) e
    at false e = e

-- a message of the name is one of them
named_among : (n : Text) (ds : List Declaration) (d : Declaration) → Among ds d → d.name ≡ n
    → Among (messages_named n ds) d.parts
named_among n [] d h e = elim h [ ]
named_among n (d ∷ ds) _ here e = own (bytes_eq n d.name) ((bytes_eq-Decides n d.name).1 (sym e))
  where
    own : (b : Bool) → b ≡ true
        → Among (map (λ (x : Declaration). x.parts)
        (cond b (d ∷ filter (λ (x : Declaration). bytes_eq n x.name) ds)
        (filter (λ (x : Declaration). bytes_eq n x.name) ds))) d.parts
    own true i = here
    own false i = absurd cc
named_among n (x ∷ ds) d (there h) e = later (bytes_eq n x.name) (named_among n ds d h e)
  where
    later : (b : Bool) → Among (messages_named n ds) d.parts
        → Among (map (λ (y : Declaration). y.parts)
        (cond b (x ∷ filter (λ (y : Declaration). bytes_eq n y.name) ds)
        (filter (λ (y : Declaration). bytes_eq n y.name) ds))) d.parts
    later true k = there k
    later false k = k

-- ---- the fields of a descriptor

mutual
  -- of a message and those inside it
  listed_in : (list : MessageParts → List FieldDescriptor) (scope : Text) (m : MessageDescriptor)
      → flat_map (λ (d : Declaration). list d.parts) (declared_message scope m) ≡ down_from list m
  listed_in list scope (a_message parts inside) =
      ap (λ fs. list parts ++ fs) (listed_all list (name_within scope parts.name) inside)

  listed_all : (list : MessageParts → List FieldDescriptor) (scope : Text) (ms : MessageDescriptors)
      → flat_map (λ (d : Declaration). list d.parts) (declared_messages scope ms)
      ≡ down_from_all list ms
  listed_all list scope no_messages = refl
  listed_all list scope (messages m ms) =
      flat_map-append (λ (d : Declaration). list d.parts) (declared_message scope m)
      (declared_messages scope ms)
      ∙ ap (λ fs. fs ++ flat_map (λ (d : Declaration). list d.parts) (declared_messages scope ms))
      (listed_in list scope m)
      ∙ ap (λ fs. down_from list m ++ fs) (listed_all list scope ms)

-- of several
listed_each : (list : MessageParts → List FieldDescriptor) (scope : Text)
    (ms : List MessageDescriptor)
    → flat_map (λ (d : Declaration). list d.parts) (flat_map (declared_message scope) ms)
    ≡ flat_map (down_from list) ms
listed_each list scope [] = refl
listed_each list scope (m ∷ ms) =
    flat_map-append (λ (d : Declaration). list d.parts) (declared_message scope m)
    (flat_map (declared_message scope) ms)
    ∙ ap (λ fs. fs ++ flat_map (λ (d : Declaration). list d.parts)
    (flat_map (declared_message scope) ms)) (listed_in list scope m)
    ∙ ap (λ fs. down_from list m ++ fs) (listed_each list scope ms)

-- a field of a message of the file is one of the file
field_of_file : (file : FileDescriptor) (d : Declaration) (f : FieldDescriptor)
    → Among (messages_declared_in file) d → Among d.parts.field f → Among (model.fields_in file) f
field_of_file file d f h k =
    subst (λ fs. Among fs f)
    (listed_each (λ (m : MessageParts). m.field)
    (package_scope file.«package») file.message_type)
    (among_joined (λ (x : Declaration). x.parts.field) (messages_declared_in file) d f h k)

-- extensions in a scope, without their names
unnamed : (scope : Text) (fs : List FieldDescriptor)
    → map (λ (e : Declared FieldDescriptor). e.what) (extensions_within scope fs) ≡ fs
unnamed scope [] = refl
unnamed scope (f ∷ fs) = ap (λ gs. f ∷ gs) (unnamed scope fs)

unnamed_all : (ds : List Declaration)
    → map (λ (e : Declared FieldDescriptor). e.what)
    (flat_map (λ (d : Declaration). extensions_within d.name d.parts.extension) ds)
    ≡ flat_map (λ (d : Declaration). d.parts.extension) ds
unnamed_all [] = refl
unnamed_all (d ∷ ds) =
    map-append (λ (e : Declared FieldDescriptor). e.what)
    (extensions_within d.name d.parts.extension)
    (flat_map (λ (x : Declaration). extensions_within x.name x.parts.extension) ds)
    ∙ ap (λ fs. fs ++ map (λ (e : Declared FieldDescriptor). e.what)
    (flat_map (λ (x : Declaration). extensions_within x.name x.parts.extension) ds)) (unnamed d.name
    d.parts.extension)
    ∙ ap (λ fs. d.parts.extension ++ fs) (unnamed_all ds)

-- the extensions of a file are those that its descriptor has
extensions_are : (file : FileDescriptor) → wire.extensions_declared_in file
    ≡ model.extended_in file
extensions_are file =
    let inner : List (Declared FieldDescriptor) =
    flat_map (λ (d : Declaration). extensions_within d.name d.parts.extension)
    (messages_declared_in file) in
    let scope : Text = package_scope file.«package» in
    map-append (λ (e : Declared FieldDescriptor). e.what) inner
    (extensions_within scope file.extension)
    ∙ ap (λ fs. fs ++ map (λ (e : Declared FieldDescriptor). e.what)
    (extensions_within scope file.extension)) (unnamed_all (messages_declared_in file)
    ∙ listed_each (λ (m : MessageParts). m.extension) scope file.message_type)
    ∙ ap (λ fs. flat_map (down_from (λ (m : MessageParts). m.extension)) file.message_type ++ fs)
    (unnamed scope file.extension)

-- ---- files by their paths

-- the tree of one of the paths, and its descriptor
pub record IsDescribed (trees : Trees) (env : Environments) (paths : List Text)
    (file : FileDescriptor) : Type 0 where
  pub path : Text
  pub tree : FileSyntax
  pub listed : among path paths ≡ true
  pub has_tree : trees path ≡ Some tree
  pub is : described_at env path tree ≡ file

-- a list of one
only_one : {A : Type 0} (x y : A) → Among (x ∷ []) y → x ≡ y
only_one x _ here = refl
only_one x y (there k) = elim k [ ]

module _ (trees : Trees) (env : Environments) where
  -- each descriptor is that of a path
  pub described : (paths : List Text) (file : FileDescriptor)
      → Among (descriptors_at trees env paths) file → IsDescribed trees env paths file
  described [] file h = elim h [ ]
  described (p ∷ paths) file h =
      at (split_among (map (described_at env p) (option_to_list (trees p)))
      (descriptors_at trees env paths) file h) (described paths file)
    where
      own : (o : Option FileSyntax) → trees p ≡ o
          → Among (map (described_at env p) (option_to_list o)) file
          → IsDescribed trees env (p ∷ paths) file
      own None e k = elim k [ ]
      own (Some t) e k =
          record {
            path = p;
            tree = t;
            listed = first-among p paths;
            has_tree = e;
            is =
                only_one (described_at env p t) file k;
          }

      at : SplitAmong (map (described_at env p) (option_to_list (trees p)))
          (descriptors_at trees env paths) file
          → (Among (descriptors_at trees env paths) file → IsDescribed trees env paths file)
          → IsDescribed trees env (p ∷ paths) file
      at (left k) rest = own (trees p) refl k
      at (right k) rest = let r = rest k in
          record {
            path = r.path;
            tree = r.tree;
            listed =
                or_right (bytes_eq r.path p) (among r.path paths) r.listed;
            has_tree = r.has_tree;
            is =
                r.is;
          }

  -- each path that has a tree has a descriptor
  pub describes : (paths : List Text) (p : Text) (t : FileSyntax) → among p paths ≡ true
      → trees p ≡ Some t → Among (descriptors_at trees env paths) (described_at env p t)
  describes [] p t h e = absurd cc
  describes (q ∷ paths) p t h e =
      at (or_cases (bytes_eq p q) (among p paths) h) (λ k. describes paths p t k e)
    where
      at : (bytes_eq p q ≡ true) ⊎ (among p paths ≡ true)
          → (among p paths ≡ true → Among (descriptors_at trees env paths) (described_at env p t))
          → Among (descriptors_at trees env (q ∷ paths)) (described_at env p t)
      at (inl i) rest =
          among_left (descriptors_at trees env paths)
          (subst (λ (z : Text). Among (map (described_at env z) (option_to_list (trees z)))
          (described_at env p t)) (same-text p q i)
          (subst (λ (o : Option FileSyntax). Among (map (described_at env p) (option_to_list o))
          (described_at env p t)) (sym e) here))
      at (inr k) rest = among_right (map (described_at env q) (option_to_list (trees q))) (rest k)

  -- ---- how often names stand

  -- Each package that is named has a name, and each environment is that of its file.
  abbrev AreScoped : List Text → Type 0
  AreScoped paths = (p : Text) (t : FileSyntax) → among p paths ≡ true → trees p ≡ Some t
      → ((env p t).scope ≡ file_scope t) × HasPackageName t

  -- the messages of a file are among its types
  messages_few : (p : Text) (t : FileSyntax) (n : Text) → (env p t).scope ≡ file_scope t
      → HasPackageName t → occurrences n (message_names (described_at env p t))
      ≤ occurrences n (type_names t)
  messages_few p t n scoped has_name =
      few _ _ _ _
      (count-append n (message_names (described_at env p t))
      (enum_names (described_at env p t))) (types_are_counted_alike
      (env p t) p t n scoped has_name)
    where
      few : (m e d t : ℕ) → d ≡ m + e → d ≡ t → m ≤ t
      few m e d t h k = omega arith

  -- and those of several among theirs
  all_few : (paths : List Text) (n : Text) → AreScoped paths
      → occurrences n
      (map (λ (d : Declaration). d.name)
      (flat_map messages_declared_in (descriptors_at trees env paths)))
      ≤ occurrences n (flat_map type_names (trees_at trees paths))
  all_few [] n scoped = omega arith
  all_few (p ∷ paths) n scoped =
      sums _ _ _ _ _ _
      (ap (occurrences n)
      (ap (map (λ (d : Declaration). d.name))
      (flat_map-append messages_declared_in (map (described_at env p) (option_to_list (trees p)))
      (descriptors_at trees env paths))
      ∙ map-append (λ (d : Declaration). d.name)
      (flat_map messages_declared_in (map (described_at env p) (option_to_list (trees p))))
      (flat_map messages_declared_in (descriptors_at trees env paths)))
      ∙ count-append n
      (map (λ (d : Declaration). d.name)
      (flat_map messages_declared_in (map (described_at env p) (option_to_list (trees p))))) (map
      (λ (d : Declaration). d.name)
      (flat_map messages_declared_in (descriptors_at trees env paths))))
      (ap (occurrences n)
      (flat_map-append type_names (option_to_list (trees p)) (trees_at trees paths))
      ∙ count-append n (flat_map type_names (option_to_list (trees p)))
      (flat_map type_names (trees_at trees paths)))
      (own (trees p) refl)
      (all_few paths n (λ q u h e. scoped q u (or_right (bytes_eq q p) (among q paths) h) e))
    where
      sums : (a b a1 a2 b1 b2 : ℕ) → a ≡ a1 + a2 → b ≡ b1 + b2 → a1 ≤ b1 → a2 ≤ b2 → a ≤ b
      sums a b a1 a2 b1 b2 h k i j = omega arith

      own : (o : Option FileSyntax) → trees p ≡ o
          → occurrences n
          (map (λ (d : Declaration). d.name)
          (flat_map messages_declared_in (map (described_at env p) (option_to_list o))))
          ≤ occurrences n (flat_map type_names (option_to_list o))
      own None e = omega arith
      own (Some t) e =
          let s = scoped p t (first-among p paths) e in
          let few = messages_few p t n s.0 s.1 in
          subst (λ (ns : List Text). occurrences n ns ≤ occurrences n (type_names t ++ []))
          (sym (ap (map (λ (d : Declaration). d.name))
          (append-nil (messages_declared_in (described_at env p t)))))
          (subst (λ (ns : List Text). occurrences n (message_names (described_at env p t))
          ≤ occurrences n ns) (sym (append-nil (type_names t))) few)

-- a tree of several stands at one of the paths
tree_listed : (trees : Trees) (paths : List Text) (t : FileSyntax) → Among (trees_at trees paths) t
    → (p : Text) × (among p paths ≡ true) × (trees p ≡ Some t)
tree_listed trees [] t h = elim h [ ]
tree_listed trees (p ∷ paths) t h =
    at (split_among (option_to_list (trees p)) (trees_at trees paths) t h)
    (tree_listed trees paths t)
  where
    own : (o : Option FileSyntax) → trees p ≡ o → Among (option_to_list o) t → trees p ≡ Some t
    own None e k = elim k [ ]
    own (Some u) e k = e ∙ ap (λ (z : FileSyntax). Some z) (only_one u t k)

    at : SplitAmong (option_to_list (trees p)) (trees_at trees paths) t
        → (Among (trees_at trees paths) t → (q : Text) × (among q paths ≡ true)
        × (trees q ≡ Some t)) → (q : Text) × (among q (p ∷ paths) ≡ true) × (trees q ≡ Some t)
    at (left k) rest = (p, first-among p paths, own (trees p) refl k)
    at (right k) rest =
        let r = rest k in (r.0, or_right (bytes_eq r.0 p) (among r.0 paths) r.1, r.2)

module _ (trees : Trees) (sees : Text → List Text) (reached : List Text)
    (r : AreReachedFiles trees sees reached)
    (named : (p : Text) (t : FileSyntax) → among p reached ≡ true → trees p ≡ Some t
    → HasPackageName t) where
  abbrev files : List FileDescriptor
  files = plain_at trees sees reached

  abbrev declared : List Declaration
  declared = flat_map messages_declared_in files

  -- ---- messages that are declared

  -- a name is that of one message at most
  few_named : (n : Text) → 1 < length (messages_with_name files n) → ⊥
  few_named n more =
      type-once trees reached n r.once
      (most _ _ _ (named_length n declared)
      (all_few trees (plainly trees sees) reached n (λ p t h e. (refl, named p t h e))) more)
    where
      most : (l o t : ℕ) → l ≡ o → o ≤ t → 1 < l → 1 < t
      most l o t h k i = omega arith

  -- a message that is declared is entered
  pub declared_entered : (d : Declaration) → Among declared d → IsEntered files d.name
  declared_entered d h = record {
    parts = d.parts;
    once = one_alone (messages_with_name files d.name) d.parts
        (named_among d.name declared d h refl)
        (few_named d.name);
    distinct = r.numbers d h;
  }

  -- so is the message of a name that messages have
  name_entered : (p : Text) (t : FileSyntax) (n : Text) → among p reached ≡ true → trees p ≡ Some t
      → 0 < occurrences n (message_names (described_at (plainly trees sees) p t))
      → IsEntered files n
  name_entered p t n h e some =
      let file : FileDescriptor = described_at (plainly trees sees) p t in
      let m = mapped_from (λ (d : Declaration). d.name) (messages_declared_in file) n
      (counted_stands n (message_names file) some) in
      subst (λ (z : Text). IsEntered files z) m.is
      (declared_entered m.one
      (among_joined messages_declared_in files file m.one
      (describes trees (plainly trees sees) reached p t h e) m.stands))

  -- a message that a file declares
  told_entered : (p : Text) (t : FileSyntax) (n : Text) → among p reached ≡ true → trees p ≡ Some t
      → (0 < occurrences n (flat_map declared_message_name (file_types t)))
      ⊎ (0 < occurrences n (file_generated t)) → IsEntered files n
  told_entered p t n h e some =
      name_entered p t n h e
      (at (messages_are_counted_alike (plainly trees sees p t) p t n refl (named p t h e)) some)
    where
      at : occurrences n (flat_map declared_message_name (file_types t))
          + occurrences n (file_generated t)
          ≡ occurrences n (message_names (described_at (plainly trees sees) p t))
          → (0 < occurrences n (flat_map declared_message_name (file_types t)))
          ⊎ (0 < occurrences n (file_generated t))
          → 0 < occurrences n (message_names (described_at (plainly trees sees) p t))
      at same (inl i) = omega (arith, same, i)
      at same (inr i) = omega (arith, same, i)

  -- a message that a file sees, or that stands behind one of its own maps and groups
  seen_entered : (p : Text) (t : FileSyntax) (n : Text) → among p reached ≡ true → trees p ≡ Some t
      → Among (messages_declared (trees_at trees (sees p)) ++ file_generated t) n
      → IsEntered files n
  seen_entered p t n h e k =
      at (split_among (messages_declared (trees_at trees (sees p))) (file_generated t) n k)
    where
      seen : Among (messages_declared (trees_at trees (sees p))) n → IsEntered files n
      seen i =
          let d = from_one declared_message_name (types_of_files (trees_at trees (sees p))) n i in
          let u = from_one file_types (trees_at trees (sees p)) d.one d.stands in
          let q = tree_listed trees (sees p) u.one u.stands in
          told_entered q.0 u.one n (r.sight p h q.0 q.1) q.2
          (inl (counted-from n (flat_map declared_message_name (file_types u.one))
          (among_joined declared_message_name (file_types u.one) d.one n u.inside d.inside)))

      at : SplitAmong (messages_declared (trees_at trees (sees p))) (file_generated t) n
          → IsEntered files n
      at (left i) = seen i
      at (right i) = told_entered p t n h e (inr (counted-from n (file_generated t) i))

  -- ---- messages that fields hold

  -- a field or an extension of a file
  record IsOfFile (f : FieldDescriptor) : Type 0 where
    path : Text
    tree : FileSyntax
    listed : among path reached ≡ true
    has_tree : trees path ≡ Some tree
    stands : Among (model.fields_in (described_at (plainly trees sees) path tree)
        ++ model.extended_in (described_at (plainly trees sees) path tree)) f

  of_file : (file : FileDescriptor) (f : FieldDescriptor) → Among files file
      → Among (model.fields_in file ++ model.extended_in file) f → IsOfFile f
  of_file file f h k =
      let d = described trees (plainly trees sees) reached file h in
      record {
        path = d.path;
        tree = d.tree;
        listed = d.listed;
        has_tree = d.has_tree;
        stands =
            subst (λ (x : FileDescriptor). Among (model.fields_in x ++ model.extended_in x) f)
            (sym d.is) k;
      }

  field_of_one : (message : Text) (f : FieldDescriptor) → Among (fields_of_message files message) f
      → IsOfFile f
  field_of_one message f h =
      let parts = from_one (λ (m : MessageParts). m.field) (messages_with_name files message) f h in
      let d = mapped_from (λ (x : Declaration). x.parts)
      (filter (λ (x : Declaration). bytes_eq message x.name) declared) parts.one parts.stands in
      let file = from_one messages_declared_in files d.one
      (kept_stands (λ (x : Declaration). bytes_eq message x.name) declared d.one d.stands) in
      let inside : Among d.one.parts.field f =
      subst (λ (m : MessageParts). Among m.field f) (sym d.is) parts.inside in
      of_file file.one f file.stands
      (among_left (model.extended_in file.one)
      (field_of_file file.one d.one f file.inside inside))

  extension_of_one : (message : Text) (f : FieldDescriptor)
      → Among (extensions_extending files message) f
      → IsOfFile f
  extension_of_one message f h =
      let file = from_one wire.extensions_declared_in files f
      (kept_stands (extends message) (flat_map wire.extensions_declared_in files) f h) in
      of_file file.one f file.stands
      (among_right (model.fields_in file.one)
      (subst (λ fs. Among fs f) (extensions_are file.one) file.inside))

  of_one : (message : Text) (f : FieldDescriptor) → Among (fields_at files message) f → IsOfFile f
  of_one message f h =
      elim (split_among
      (fields_of_message files message) (extensions_extending files message) f h) [
        | left k ↦ field_of_one message f k
        | right k ↦ extension_of_one message f k
      ]

  -- a message that a field holds is entered
  pub held_entered : (message : Text) (f : FieldDescriptor) → Among (fields_at files message) f
      → f.type_ ≡ types.Message → (name : Text) × (f.type_name ≡ Some name) × IsEntered files name
  held_entered message f h is = at f.type_name refl
    where
      one : IsOfFile f
      one = of_one message f h

      named_so : is_some f.type_name ≡ true
      named_so =
          types_are_named (trees_at trees (sees one.path)) no_customs no_customs one.path one.tree f
          (r.faultless one.path one.tree one.listed one.has_tree) one.stands ∙ ap has_name is

      at : (o : Option Text) → f.type_name ≡ o
          → (name : Text) × (f.type_name ≡ Some name) × IsEntered files name
      at None e = absurd (none (sym named_so ∙ ap (λ (o : Option Text). is_some o) e))
        where
          none : true ≡ false → ⊥
          none h = cc
      at (Some name) e = (
        name,
        e,
        seen_entered one.path one.tree name one.listed one.has_tree
            (messages_are_named (trees_at trees (sees one.path)) no_customs no_customs one.path
            one.tree f name (r.faultless one.path one.tree one.listed one.has_tree) one.stands
            is e),
      )
