-- What custom options denote suits the descriptors, so that the reader reads it back.
use Rattle.std.proofs.Common.{◌≡◌, ℕ, suc, ◌<◌, ℤ, pos, negsuc, nat_abs, Bool, true, false, not}
use Rattle.std.proofs.Common.{◌&&◌, cond, List, [], ◌∷◌, ◌++◌, map, flat_map, Option, Some, None}
use Rattle.std.proofs.Common.{unwrap_or, refl, sym, ap, subst, arith, Contains, bytes_eq}
use Rattle.std.specs.Prelude.{int_le}
use Rattle.std.specs.Option.{option_to_list}
use Rattle.std.specs.List.{filter}
use Rattle.std.specs.Str.{IsUtf8, is_utf8}
use Rattle.std.proofs.lemmas.Bool.{leb-true}
use Rattle.std.proofs.lemmas.Str.{IsUtf8-from_is_utf8}
use Rattle.std.specs.Int.{w32}
use Rattle.std.specs.Int.RustNames.{FitsSigned}
use Rattle.protobuf_parse_lexer.specs.Decoder.{decode, text_when}
use Rattle.protobuf_parse_syntax.specs.Trees.{Pieces, ConstantSyntax, integer, truth, dotted}
use Rattle.protobuf_parse_syntax.specs.Trees.{string, list, fields, ConstantNameSyntax}
use Rattle.protobuf_parse_syntax.specs.Trees.{regular_name, extension_name, url_name, ConstantList}
use Rattle.protobuf_parse_syntax.specs.Trees.{no_constants, more_constants, ConstantFieldList}
use Rattle.protobuf_parse_syntax.specs.Trees.{no_fields, more_fields, OptionPartSyntax, direct}
use Rattle.protobuf_parse_syntax.specs.Trees.{extension, OptionNameSyntax, builtin, custom}
use Rattle.protobuf_parse_syntax.specs.Trees.{OptionSyntax}
use Rattle.protobuf_parse_model.specs.declared.error.ElabErrorKind.TheVariants.{OptionFieldNumber}
use Rattle.protobuf_parse_model.specs.declared.descriptor.FieldType.{FieldType}
use Rattle.protobuf_parse_model.specs.declared.descriptor.FieldType.TheVariants as types
use Rattle.protobuf_parse_model.specs.Descriptors.{Text, FieldDescriptor, FileDescriptor}
use Rattle.protobuf_parse_model.specs.Descriptors.{MessageParts}
use Rattle.protobuf_parse_model.specs.Faults.{Wrong, Among, here, there}
use Rattle.protobuf_parse_model.specs.Declarations.{Declared}
use Rattle.protobuf_parse_model.specs.declared.customs.Construct.{Construct}
use Rattle.protobuf_parse_model.specs.Duplicates.{fault_when}
use Rattle.protobuf_parse_model.specs.BuiltinOptions.{string_faults}
use Rattle.protobuf_parse_wire.specs.declared.kind.Kind.{Kind}
use Rattle.protobuf_parse_wire.specs.declared.kind.Kind.TheVariants as kinds
use Rattle.protobuf_parse_wire.specs.Kinds.{shape_of_kind, kind_of_field_type}
use Rattle.protobuf_parse_wire.specs.Trees as trees
use Rattle.protobuf_parse_wire.specs.Trees.{EntryTree}
use Rattle.protobuf_parse_wire.specs.Views.{WireItem, entries_of_list}
use Rattle.protobuf_parse_wire.specs.Declarations.{messages_with_name, declared_extensions}
use Rattle.protobuf_parse_wire.specs.Declarations.{extensions_declared_in}
use Rattle.protobuf_parse_wire.specs.Declarations.{extensions_extending, extends}
use Rattle.protobuf_parse_wire.specs.Law.{Suit, ValueSuits, Enters}
use Rattle.protobuf_parse_options.specs.OptionFields.{OptionScope, options_message}
use Rattle.protobuf_parse_options.specs.OptionFields.{fields_of_message}
use Rattle.protobuf_parse_options.specs.OptionFields.{field_named, if_extends, names_message}
use Rattle.protobuf_parse_options.specs.OptionFields.{extension_meant, extension_named}
use Rattle.protobuf_parse_options.specs.OptionFields.{number_of_value, part_field, constant_field}
use Rattle.protobuf_parse_options.specs.OptionFields.{type_name_of, type_takes}
use Rattle.protobuf_parse_options.specs.CustomOptions.{item_of_message, value_items, list_items}
use Rattle.protobuf_parse_options.specs.CustomOptions.{field_items, path_items, named_items}
use Rattle.protobuf_parse_options.specs.CustomOptions.{items_of_option, denotes}
use Rattle.protobuf_parse_options.specs.CustomFaults.{integer_faults, truth_faults}
use Rattle.protobuf_parse_options.specs.CustomFaults.{value_name_faults}
use Rattle.protobuf_parse_options.specs.CustomFaults.{string_value_faults, message_value_faults}
use Rattle.protobuf_parse_options.specs.CustomFaults.{number_faults, constant_name_faults}
use Rattle.protobuf_parse_options.specs.CustomFaults.{constant_faults, list_faults, member_faults}
use Rattle.protobuf_parse_options.specs.CustomFaults.{part_faults, step_faults, path_faults}
use Rattle.protobuf_parse_options.specs.CustomFaults.{custom_faults, custom_name_faults}
use Rattle.protobuf_parse_options.specs.CustomFaults.{custom_statement_faults}
use Rattle.protobuf_parse_model.specs.Environment.{part_text, option_path_text}
use Rattle.protobuf_parse_options.specs.OptionLaw.{IsEntered, fields_at, IsReadable, OptionsAreRead}
use Rattle.protobuf_parse_wire.proofs.Ranges.{in_range}
use Rattle.protobuf_parse_wire.proofs.Again as again
use Rattle.protobuf_parse_elaboration.proofs.Lookups.{found_is, meaning_declared}
use Rattle.protobuf_parse_options.proofs.Writable.{no_left, no_right, number_kept}
use Rattle.protobuf_parse_options.proofs.Writable.{direct_step_has_fault}
use Rattle.protobuf_parse_options.specs.CustomFaults.{option_faults_at}
use Rattle.protobuf_parse_options.proofs.Refusing.{none_wrong}

-- ---- members

contains_later : {A : Type 0} (y : A) (xs : List A) (x : A) → Contains xs x → Contains (y ∷ xs) x
contains_later y xs x h = (suc h.0, omega (arith, h.1), h.2)

contains_from_among : {A : Type 0} (xs : List A) (x : A) → Among xs x → Contains xs x
contains_from_among [] x h = elim h [ ]
contains_from_among (x ∷ xs) _ here = (0, omega arith, refl)
contains_from_among (y ∷ xs) x (there h) = contains_later y xs x (contains_from_among xs x h)

pub among_left : {A : Type 0} {x : A} {xs : List A} (ys : List A) → Among xs x → Among (xs ++ ys) x
among_left ys here = here
among_left ys (there h) = there (among_left ys h)

pub among_right : {A : Type 0} {x : A} (xs : List A) {ys : List A} → Among ys x → Among (xs ++ ys) x
among_right [] h = h
among_right (y ∷ xs) h = there (among_right xs h)

among_filtered : {A : Type 0} (test : A → Bool) (xs : List A) (x : A) → Among xs x → test x ≡ true
    → Among (filter test xs) x
among_filtered test [] x h e = elim h [ ]
among_filtered test (x ∷ xs) _ here e = rw e here
among_filtered test (y ∷ xs) x (there h) e = at (test y) (among_filtered test xs x h e)
  where
    at : (b : Bool) → Among (filter test xs) x
        → Among (cond b (y ∷ filter test xs) (filter test xs)) x
    at true k = there k
    at false k = k

-- ---- one entry

abbrev Suits : List FileDescriptor → List FieldDescriptor → List WireItem → Type 0
Suits files fs items = Suit files fs (entries_of_list items)

suit_append : (files : List FileDescriptor) (fs : List FieldDescriptor) (xs ys : List WireItem)
    → Suits files fs xs → Suits files fs ys → Suits files fs (xs ++ ys)
suit_append files fs [] ys p q = q
suit_append files fs (x ∷ xs) ys p q = (p.0, p.1, p.2, suit_append files fs xs ys p.3 q)

-- a field of the list whose number can stand in a tag
pub record IsUsed (fs : List FieldDescriptor) (f : FieldDescriptor) : Type 0 where
  pub among : Among fs f
  pub number : f.number ≡ pos (nat_abs f.number)
  pub small : nat_abs f.number < 2147483648

abbrev item_at : ℕ → FieldType → EntryTree → List WireItem
item_at n t v = map (λ (k : Kind). record { number = n; kind = k; value = v })
    (option_to_list (kind_of_field_type t))

entry_suits : (files : List FileDescriptor) (fs : List FieldDescriptor) (f : FieldDescriptor)
    (k : Kind) (v : EntryTree) → IsUsed fs f → kind_of_field_type f.type_ ≡ Some k
    → ValueSuits files f (shape_of_kind k) v
    → Suits files fs (record { number = nat_abs f.number; kind = k; value = v } ∷ [])
entry_suits files fs f k v u e p = (
  f,
  record {
    declared = contains_from_among fs f u.among;
    number = u.number;
    small = u.small;
    kind = e;
  },
  p,
  tt,
)

-- ---- one value of one field, by the field's type

number_suits : (files : List FileDescriptor) (fs : List FieldDescriptor) (f : FieldDescriptor)
    → IsUsed fs f → (t : FieldType) → f.type_ ≡ t → (z : ℤ) → integer_faults f.name (type_takes t) z
    ≡ []
    → Suits files fs (item_at (nat_abs f.number) t (trees.number z))
number_suits files fs f u types.Int32 s z e =
    entry_suits files fs f kinds.Int32 (trees.number z) u (ap kind_of_field_type s)
    (number_kept kinds.Int32 f.name z e)
number_suits files fs f u types.Int64 s z e =
    entry_suits files fs f kinds.Int64 (trees.number z) u (ap kind_of_field_type s)
    (number_kept kinds.Int64 f.name z e)
number_suits files fs f u types.Uint32 s z e =
    entry_suits files fs f kinds.Uint32 (trees.number z) u (ap kind_of_field_type s)
    (number_kept kinds.Uint32 f.name z e)
number_suits files fs f u types.Uint64 s z e =
    entry_suits files fs f kinds.Uint64 (trees.number z) u (ap kind_of_field_type s)
    (number_kept kinds.Uint64 f.name z e)
number_suits files fs f u types.Sint32 s z e =
    entry_suits files fs f kinds.Sint32 (trees.number z) u (ap kind_of_field_type s)
    (number_kept kinds.Sint32 f.name z e)
number_suits files fs f u types.Sint64 s z e =
    entry_suits files fs f kinds.Sint64 (trees.number z) u (ap kind_of_field_type s)
    (number_kept kinds.Sint64 f.name z e)
number_suits files fs f u types.Fixed32 s z e =
    entry_suits files fs f kinds.Fixed32 (trees.number z) u (ap kind_of_field_type s)
    (number_kept kinds.Fixed32 f.name z e)
number_suits files fs f u types.Sfixed32 s z e =
    entry_suits files fs f kinds.Sfixed32 (trees.number z) u (ap kind_of_field_type s)
    (number_kept kinds.Sfixed32 f.name z e)
number_suits files fs f u types.Fixed64 s z e =
    entry_suits files fs f kinds.Fixed64 (trees.number z) u (ap kind_of_field_type s)
    (number_kept kinds.Fixed64 f.name z e)
number_suits files fs f u types.Sfixed64 s z e =
    entry_suits files fs f kinds.Sfixed64 (trees.number z) u (ap kind_of_field_type s)
    (number_kept kinds.Sfixed64 f.name z e)
number_suits files fs f u _ s z e = absurd cc

truth_suits : (files : List FileDescriptor) (fs : List FieldDescriptor) (f : FieldDescriptor)
    → IsUsed fs f → (t : FieldType) → f.type_ ≡ t → (b : Bool) → truth_faults f.name (type_takes t)
    ≡ []
    → Suits files fs (item_at (nat_abs f.number) t (trees.truth b))
truth_suits files fs f u types.Bool s b e =
    entry_suits files fs f kinds.Bool (trees.truth b) u (ap kind_of_field_type s) tt
truth_suits files fs f u _ s b e = absurd cc

text_is_utf8 : (option : Text) (o : Option (List ℕ)) → string_faults option (text_when o) ≡ []
    → IsUtf8 (unwrap_or o [])
text_is_utf8 option None e = absurd cc
text_is_utf8 option (Some v) e = at (is_utf8 v) refl e
  where
    at : (b : Bool) → is_utf8 v ≡ b → string_faults option (cond b (Some v) None) ≡ [] → IsUtf8 v
    at true h k = IsUtf8-from_is_utf8 v h
    at false h k = absurd cc

string_suits : (files : List FileDescriptor) (fs : List FieldDescriptor) (f : FieldDescriptor)
    → IsUsed fs f → (t : FieldType) → f.type_ ≡ t → (option : Text) (pieces : Pieces)
    → string_value_faults option f.name (type_takes t) pieces ≡ []
    → Suits files fs (item_at (nat_abs f.number) t (trees.bytes (unwrap_or (decode pieces) [])))
string_suits files fs f u types.String s option pieces e =
    entry_suits files fs f kinds.String (trees.bytes (unwrap_or (decode pieces) [])) u
    (ap kind_of_field_type s) (text_is_utf8 option (decode pieces) e)
string_suits files fs f u types.Bytes s option pieces e =
    entry_suits files fs f kinds.Bytes (trees.bytes (unwrap_or (decode pieces) [])) u
    (ap kind_of_field_type s) tt
string_suits files fs f u _ s option pieces e = absurd cc

abbrev numbers : ℕ → FieldType → Option ℤ → List WireItem
numbers n t o = flat_map (λ (z : ℤ). item_at n t (trees.number z)) (option_to_list o)

value_name_suits : (files : List FileDescriptor) (fs : List FieldDescriptor) (f : FieldDescriptor)
    → IsUsed fs f → (t : FieldType) → f.type_ ≡ t → (value : Text) (o : Option ℤ)
    → ((z : ℤ) → o ≡ Some z → FitsSigned w32 z) → value_name_faults f.name (type_takes t) value o
    ≡ []
    → Suits files fs (numbers (nat_abs f.number) t o)
value_name_suits files fs f u types.Enum s value (Some z) small e =
    entry_suits files fs f kinds.Enum (trees.number z) u (ap kind_of_field_type s)
    (in_range (shape_of_kind kinds.Enum) z (small z refl))
value_name_suits files fs f u types.Enum s value None small e = tt
value_name_suits files fs f u _ s value o small e = absurd cc

-- what stands in the message that a field holds
abbrev Inside : List FileDescriptor → FieldDescriptor → List WireItem → Type 0
Inside files f items = (name : Text) × (f.type_name ≡ Some name)
    × Enters files name (λ fs. Suit files fs (entries_of_list items))

message_suits : (files : List FileDescriptor) (fs : List FieldDescriptor) (f : FieldDescriptor)
    → IsUsed fs f → (t : FieldType) → f.type_ ≡ t → (inside : List Wrong) (items : List WireItem)
    → message_value_faults f.name (type_takes t) inside ≡ []
    → (f.type_ ≡ types.Message → inside ≡ [] → Inside files f items)
    → Suits files fs (item_at (nat_abs f.number) t (trees.message (entries_of_list items)))
message_suits files fs f u types.Message s inside items e g =
    entry_suits files fs f kinds.Message (trees.message (entries_of_list items)) u
    (ap kind_of_field_type s)
    (g s e)
message_suits files fs f u _ s inside items e g = absurd cc

step_suits : (files : List FileDescriptor) (fs : List FieldDescriptor) (f : FieldDescriptor)
    → IsUsed fs f → (t : FieldType) → f.type_ ≡ t
    → (part : Text) (inside : List Wrong) (items : List WireItem)
    → step_faults part (type_takes t) inside ≡ []
    → (f.type_ ≡ types.Message → inside ≡ [] → Inside files f items)
    → Suits files fs (item_at (nat_abs f.number) t (trees.message (entries_of_list items)))
step_suits files fs f u types.Message s part inside items e g =
    entry_suits files fs f kinds.Message (trees.message (entries_of_list items)) u
    (ap kind_of_field_type s)
    (g s e)
step_suits files fs f u _ s part inside items e g = absurd cc

-- ---- the message that a field holds

no_more : (xs : List FieldDescriptor) → xs ++ [] ≡ xs
no_more [] = refl
no_more (x ∷ xs) = ap (λ ys. x ∷ ys) (no_more xs)

fields_are : (files : List FileDescriptor) (name : Text) (parts : MessageParts)
    → messages_with_name files name ≡ parts ∷ []
    → fields_at files name ≡ parts.field ++ extensions_extending files name
fields_are files name parts once =
    rw once (ap (λ fs. fs ++ extensions_extending files name) (no_more parts.field))

enters : (files : List FileDescriptor) (name : Text) (items : List WireItem) → IsEntered files name
    → Suits files (fields_at files name) items
    → Enters files name (λ fs. Suit files fs (entries_of_list items))
enters files name items m h =
    record {
      parts = m.parts;
      once = m.once;
      distinct = m.distinct;
      inside =
          subst (λ fs. Suit files fs (entries_of_list items))
          (fields_are files name m.parts m.once) h;
    }

named : (f : FieldDescriptor) (name : Text) → f.type_name ≡ Some name → type_name_of f ≡ name
named f name e = ap (λ o. unwrap_or o []) e

-- the inside of a field of the message
held_inside : (at : OptionScope) → IsReadable at → (message : Text) (f : FieldDescriptor)
    → Among (fields_at at.files message) f → (items : List WireItem) → f.type_ ≡ types.Message
    → Suits at.files (fields_at at.files (type_name_of f)) items → Inside at.files f items
held_inside at r message f a items s h =
    let held = r.held message f a s in (
      held.0,
      held.1,
      enters at.files held.0 items held.2
          (subst (λ name. Suits at.files (fields_at at.files name) items)
          (named f held.0 held.1) h),
    )

-- ---- numbers

number_used : (f : FieldDescriptor) (z : ℤ) (b c : Bool) → b ≡ int_le (pos 1) z
    → c ≡ int_le z (pos 536870911) → fault_when (not (b && c)) OptionFieldNumber f.name ≡ []
    → (z ≡ pos (nat_abs z)) × (nat_abs z < 2147483648)
number_used f (pos n) true true p q e =
    let small = leb-true n 536870911 (sym q) in (refl, omega (arith, small))
number_used f (negsuc n) true true p q e = absurd cc
number_used f z true false p q e = absurd cc
number_used f z false c p q e = absurd cc

used : (fs : List FieldDescriptor) (f : FieldDescriptor) → Among fs f → number_faults f ≡ []
    → IsUsed fs f
used fs f a e =
    let n = number_used f f.number (int_le (pos 1) f.number)
    (int_le f.number (pos 536870911)) refl refl e in
    record { among = a; number = n.0; small = n.1 }

-- ---- constants

-- of the field that is found, if one is
suit_found : (files : List FileDescriptor) (fs : List FieldDescriptor)
    (faults : FieldDescriptor → List Wrong) (items : FieldDescriptor → List WireItem)
    (o : Option FieldDescriptor)
    → ((f : FieldDescriptor) → o ≡ Some f → faults f ≡ [] → Suits files fs (items f))
    → flat_map faults (option_to_list o) ≡ [] → Suits files fs (flat_map items (option_to_list o))
suit_found files fs faults items None each e = tt
suit_found files fs faults items (Some f) each e =
    suit_append files fs (items f) [] (each f refl (no_left (faults f) [] e)) tt

field_among : (files : List FileDescriptor) (message name : Text) (f : FieldDescriptor)
    → field_named files message name ≡ Some f → Among (fields_at files message) f
field_among files message name f e =
    among_left (extensions_extending files message)
    (found_is (λ (g : FieldDescriptor). bytes_eq g.name name)
    (fields_of_message files message) f e).0

if_extends_is : (files : List FileDescriptor) (message : Text)
    (o : Option (Declared FieldDescriptor)) (f : FieldDescriptor)
    → if_extends files message o ≡ Some f
    → (d : Declared FieldDescriptor) × (o ≡ Some d) × (d.what ≡ f) × (extends message d.what ≡ true)
if_extends_is files message None f e = absurd cc
if_extends_is files message (Some d) f e =
    at (extends message d.what) (names_message files message) refl e
  where
    at : (b c : Bool) → extends message d.what ≡ b → cond (b && c) (Some d.what) None ≡ Some f
        → (x : Declared FieldDescriptor) × (Some d ≡ Some x) × (x.what ≡ f)
        × (extends message x.what ≡ true)
    at true true h k = (d, refl, cc, h)
    at true false h k = absurd cc
    at false c h k = absurd cc

-- an extension of a file is one of the files that have it
among_mapped : {A B : Type 0} (g : A → B) (xs : List A) (x : A) → Among xs x
    → Among (map g xs) (g x)
among_mapped g [] x h = elim h [ ]
among_mapped g (x ∷ xs) _ here = here
among_mapped g (y ∷ xs) x (there h) = there (among_mapped g xs x h)

-- what stands in one of the lists stands in all of them joined
pub among_joined : {A B : Type 0} (g : A → List B) (xs : List A) (x : A) (y : B) → Among xs x
    → Among (g x) y → Among (flat_map g xs) y
among_joined g [] x y h k = elim h [ ]
among_joined g (x ∷ xs) _ y here k = among_left (flat_map g xs) k
among_joined g (z ∷ xs) x y (there h) k = among_right (g z) (among_joined g xs x y h k)

pub data SplitAmong {A : Type 0} (xs ys : List A) (x : A) : Type 0 where
  left : Among xs x → SplitAmong xs ys x
  right : Among ys x → SplitAmong xs ys x

pub split_among : {A : Type 0} (xs ys : List A) (x : A) → Among (xs ++ ys) x → SplitAmong xs ys x
split_among [] ys x h = right h
split_among (x ∷ xs) ys _ here = left here
split_among (y ∷ xs) ys x (there h) = later (split_among xs ys x h)
  where
    later : SplitAmong xs ys x → SplitAmong (y ∷ xs) ys x
    later (left k) = left (there k)
    later (right k) = right k

-- the extensions of files that are seen stand in all that are reached
seen_stand : (visible files : List FileDescriptor)
    → ((file : FileDescriptor) → Among visible file → Among files file)
    → (d : Declared FieldDescriptor) → Among (flat_map declared_extensions visible) d
    → Among (flat_map extensions_declared_in files) d.what
seen_stand [] files seen d h = elim h [ ]
seen_stand (file ∷ visible) files seen d h =
    at (split_among (declared_extensions file) (flat_map declared_extensions visible) d h)
    (λ k. seen_stand visible files (λ other o. seen other (there o)) d k)
  where
    at : SplitAmong (declared_extensions file) (flat_map declared_extensions visible) d
        → (Among (flat_map declared_extensions visible) d
        → Among (flat_map extensions_declared_in files) d.what)
        → Among (flat_map extensions_declared_in files) d.what
    at (left k) others =
        among_joined extensions_declared_in files file d.what (seen file here)
        (among_mapped (λ (e : Declared FieldDescriptor). e.what) (declared_extensions file) d k)
    at (right k) others = others k

extension_among : (at : OptionScope) → IsReadable at → (message name : Text) (f : FieldDescriptor)
    → extension_named at message name ≡ Some f → Among (fields_at at.files message) f
extension_among at r message name f e =
    let x = if_extends_is at.files message (extension_meant at name) f e in
    let a = meaning_declared (flat_map declared_extensions at.visible) at.scope name x.0 x.1 in
    subst (λ g. Among (fields_at at.files message) g) x.2
    (among_right (fields_of_message at.files message)
    (among_filtered (extends message) (flat_map extensions_declared_in at.files) x.0.what
    (seen_stand at.visible at.files r.seen x.0 a) x.3))

-- the field that a name in a message constant means
constant_among : (at : OptionScope) → IsReadable at
    → (message : Text) (name : ConstantNameSyntax) (f : FieldDescriptor)
    → constant_field at message name ≡ Some f → Among (fields_at at.files message) f
constant_among at r message (regular_name name) f e = field_among at.files message name f e
constant_among at r message (extension_name name) f e = extension_among at r message name f e
constant_among at r message (url_name name) f e = absurd cc

mutual
  value_suits : (at : OptionScope) → IsReadable at → (option message : Text) (f : FieldDescriptor)
      → Among (fields_at at.files message) f → number_faults f ≡ [] → (c : ConstantSyntax)
      → constant_faults at option f c ≡ []
      → Suits at.files (fields_at at.files message) (value_items at f c)
  value_suits at r option message f a n (integer z) e =
      number_suits at.files (fields_at at.files message) f
      (used (fields_at at.files message) f a n) f.type_ refl z e
  value_suits at r option message f a n (truth b) e =
      truth_suits at.files (fields_at at.files message) f
      (used (fields_at at.files message) f a n) f.type_ refl b e
  value_suits at r option message f a n (dotted name) e =
      value_name_suits at.files (fields_at at.files message) f
      (used (fields_at at.files message) f a n) f.type_ refl name
      (number_of_value at.files (type_name_of f) name) (r.small (type_name_of f) name) e
  value_suits at r option message f a n (string pieces) e =
      string_suits at.files (fields_at at.files message) f
      (used (fields_at at.files message) f a n) f.type_ refl option pieces e
  value_suits at r option message f a n (list cs) e = list_suits at r option message f a n cs e
  value_suits at r option message f a n (fields fs) e =
      message_suits at.files (fields_at at.files message) f
      (used (fields_at at.files message) f a n) f.type_ refl
      (member_faults at option (type_name_of f) fs) (field_items at (type_name_of f) fs) e
      (λ s h. held_inside at r message f a (field_items at (type_name_of f) fs) s
      (field_suits at r option (type_name_of f) fs h))

  list_suits : (at : OptionScope) → IsReadable at → (option message : Text) (f : FieldDescriptor)
      → Among (fields_at at.files message) f → number_faults f ≡ [] → (cs : ConstantList)
      → list_faults at option f cs ≡ []
      → Suits at.files (fields_at at.files message) (list_items at f cs)
  list_suits at r option message f a n no_constants e = tt
  list_suits at r option message f a n (more_constants c cs) e =
      suit_append at.files (fields_at at.files message) (value_items at f c) (list_items at f cs)
      (value_suits at r option message f a n c
      (no_left (constant_faults at option f c) (list_faults at option f cs) e))
      (list_suits at r option message f a n cs
      (no_right (constant_faults at option f c) (list_faults at option f cs) e))

  field_suits : (at : OptionScope) → IsReadable at
      → (option message : Text) (fs : ConstantFieldList) → member_faults at option message fs ≡ []
      → Suits at.files (fields_at at.files message) (field_items at message fs)
  field_suits at r option message no_fields e = tt
  field_suits at r option message (more_fields name c fs) e =
      suit_append at.files (fields_at at.files message)
      (flat_map (λ (g : FieldDescriptor). value_items at g c)
      (option_to_list (constant_field at message name))) (field_items at message fs)
      (suit_found at.files (fields_at at.files message)
      (λ (g : FieldDescriptor). number_faults g ++ constant_faults at option g c)
      (λ (g : FieldDescriptor). value_items at g c) (constant_field at message name)
      (λ g h k. value_suits at r option message g (constant_among at r message name g h)
      (no_left (number_faults g) (constant_faults at option g c) k) c
      (no_right (number_faults g) (constant_faults at option g c) k))
      (no_right (constant_name_faults at message name)
      (flat_map (λ (g : FieldDescriptor). number_faults g ++ constant_faults at option g c)
      (option_to_list (constant_field at message name))) (no_left
      (constant_name_faults at message name
      ++ flat_map (λ (g : FieldDescriptor). number_faults g ++ constant_faults at option g c)
      (option_to_list (constant_field at message name))) (member_faults at option message fs)
      e)))
      (field_suits at r option message fs
      (no_right (constant_name_faults at message name
      ++ flat_map (λ (g : FieldDescriptor). number_faults g ++ constant_faults at option g c)
      (option_to_list (constant_field at message name))) (member_faults at option message fs) e))

-- ---- names

part_among : (at : OptionScope) → IsReadable at
    → (message : Text) (p : OptionPartSyntax) (f : FieldDescriptor)
    → part_field at message p ≡ Some f → Among (fields_at at.files message) f
part_among at r message (direct name) f e = field_among at.files message name f e
part_among at r message (extension name) f e = extension_among at r message name f e

path_suits : (at : OptionScope) → IsReadable at
    → (option : Text) (value : ConstantSyntax) (message : Text) (parts : List OptionPartSyntax)
    → path_faults at option value message parts ≡ []
    → Suits at.files (fields_at at.files message) (path_items at value message parts)
path_suits at r option value message [] e = tt
path_suits at r option value message (p ∷ []) e =
    suit_found at.files (fields_at at.files message)
    (λ (g : FieldDescriptor). number_faults g ++ constant_faults at option g value)
    (λ (g : FieldDescriptor). value_items at g value) (part_field at message p)
    (λ g h k. value_suits at r option message g (part_among at r message p g h)
    (no_left (number_faults g) (constant_faults at option g value) k) value
    (no_right (number_faults g) (constant_faults at option g value) k))
    (no_right (part_faults at message p) _ e)
path_suits at r option value message (p ∷ q ∷ ps) e =
    suit_found at.files (fields_at at.files message)
    (λ (g : FieldDescriptor). number_faults g
    ++ step_faults (part_text p) (type_takes g.type_)
    (path_faults at option value (type_name_of g) (q ∷ ps))) (λ
    (g : FieldDescriptor). item_of_message g
    (path_items at value (type_name_of g) (q ∷ ps))) (part_field at message p)
    (λ g h k. step_suits at.files (fields_at at.files message) g
    (used (fields_at at.files message) g (part_among at r message p g h)
    (no_left (number_faults g) _ k)) g.type_
    refl (part_text p) (path_faults at option value (type_name_of g) (q ∷ ps))
    (path_items at value (type_name_of g) (q ∷ ps)) (no_right (number_faults g) _ k)
    (λ s i. held_inside at r message g (part_among at r message p g h)
    (path_items at value (type_name_of g) (q ∷ ps)) s
    (path_suits at r option value (type_name_of g) (q ∷ ps) i)))
    (no_right (part_faults at message p) _ e)

custom_suits : (at : OptionScope) → IsReadable at
    → (construct : Construct) (value : ConstantSyntax) (parts : List OptionPartSyntax)
    → custom_faults at construct value parts ≡ []
    → Suits at.files (fields_at at.files (options_message construct))
    (path_items at value (options_message construct) parts)
custom_suits at r construct value [] e = tt
custom_suits at r construct value (direct name ∷ ps) e =
    absurd (direct_step_has_fault construct name e)
custom_suits at r construct value (extension name ∷ ps) e =
    path_suits at r (option_path_text (extension name ∷ ps)) value (options_message construct)
    (extension name ∷ ps) e

named_suits : (at : OptionScope) → IsReadable at
    → (construct : Construct) (value : ConstantSyntax) (name : OptionNameSyntax)
    → custom_name_faults at construct value name ≡ []
    → Suits at.files (fields_at at.files (options_message construct))
    (named_items at (options_message construct) value name)
named_suits at r construct value (builtin name) e = tt
named_suits at r construct value (custom parts) e = custom_suits at r construct value parts e

all_suit : (at : OptionScope) → IsReadable at → (construct : Construct) (os : List OptionSyntax)
    → custom_statement_faults at construct os ≡ []
    → Suits at.files (fields_at at.files (options_message construct))
    (flat_map (items_of_option at construct) os)
all_suit at r construct [] e = tt
all_suit at r construct (o ∷ os) e =
    suit_append at.files (fields_at at.files (options_message construct))
    (items_of_option at construct o) (flat_map (items_of_option at construct) os)
    (named_suits at r construct o.value o.name
    (none_wrong o.place (custom_name_faults at construct o.value o.name)
    (no_left (option_faults_at at construct o) (custom_statement_faults at construct os) e)))
    (all_suit at r construct os
    (no_right (option_faults_at at construct o) (custom_statement_faults at construct os) e))

-- ---- the law

pub options_are_read : OptionsAreRead
options_are_read at construct os bs r m none shallow short spelled =
    again.spelled_is_read at.files (options_message construct) (denotes at construct os) bs short
    (enters at.files (options_message construct) (flat_map (items_of_option at construct) os) m
    (all_suit at r construct os none)) shallow spelled
