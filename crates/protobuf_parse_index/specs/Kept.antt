-- What the parts of an index say, which callers do not see: its invariant rests on these.
use Rattle.std.specs.Prelude.{◌≡◌, ℕ, suc, ℤ, Bool, ◌&&◌, List, [], ◌∷◌, map}
use Rattle.std.specs.Prelude.{Option, Some, None, String, option_map, bytes_eq, if◌then◌else◌}
use Rattle.std.specs.Option.{option_and_then}
use Rattle.std.specs.Ordering.{int_cmp, int_eq}
use Rattle.std.specs.Borrow.{Bor}
use Rattle.std.specs.BTreeMap.{BTreeMap, get, get_by_text}
use Rattle.std.specs.Global.{Global}
use Rattle.protobuf_parse_model.specs.Descriptors.{Text, FileDescriptor, FieldDescriptor}
use Rattle.protobuf_parse_model.specs.Descriptors.{EnumDescriptor, EnumValueDescriptor}
use Rattle.protobuf_parse_model.specs.Descriptors.{MessageDescriptor, parts_seen, field_view}
use Rattle.protobuf_parse_model.specs.Descriptors.{enum_value_view}
use Rattle.protobuf_parse_model.specs.declared.descriptor.FieldDescriptorProto.{FieldDescriptorProto}
use Rattle.protobuf_parse_model.specs.declared.descriptor.EnumValueDescriptorProto.{EnumValueDescriptorProto}
use Rattle.protobuf_parse_wire.specs.Declarations.{extends}
use Rattle.protobuf_parse_index.specs.Lookups.{field_with, value_with}
use Rattle.protobuf_parse_index.specs.Views.{standing_enum, standing_extension, standing_message}
use Rattle.protobuf_parse_index.specs.Walk.{Standing, all_enums, all_extensions, all_messages}
use Rattle.protobuf_parse_index.specs.Walk.{path_of}
use Rattle.protobuf_parse_index.specs.declared.walk.Walk.{Walk}

-- ---- the walk

-- The walk has what the files declare.
pub record Walks (files : List FileDescriptor) (walk : Walk) : Type 0 where
  pub messages : map standing_message walk.messages.items ≡ all_messages files
  pub enums : map standing_enum walk.enums.items ≡ all_enums files
  pub extensions : map standing_extension walk.extensions.items ≡ all_extensions files

-- ---- positions

-- the position of the first element that passes
abbrev pub first_at : {X : Type 0} → (X → Bool) → List X → Option ℕ
first_at test [] = None
first_at test (x ∷ xs) = if test x then Some 0 else option_map suc (first_at test xs)

-- the position of the first declaration of the name
abbrev pub position_named : {X : Type 0} → Text → List (Standing X) → Option ℕ
position_named {X} name xs = first_at (λ (x : Standing X). bytes_eq name x.name) xs

-- The map has of each name the position of its first declaration.
pub record HasPositions {X : Type 0} (positions : BTreeMap (String Global) ℕ)
    (xs : List (Standing X)) : Type 0 where
  pub at : (name : Text) → get_by_text positions name ≡ position_named name xs

-- The map has of each path the position of the first file that is known by it.
pub record HasPaths (positions : BTreeMap (String Global) ℕ) (files : List FileDescriptor) : Type 0
  where
    pub at : (path : Text) → get_by_text positions path
        ≡ first_at (λ (f : FileDescriptor). bytes_eq path (path_of f)) files

-- ---- numbers

-- what a map has by numbers
abbrev pub at_number : {T X : Type 0} → (T → X) → BTreeMap ℤ (Bor T) → ℤ → Option X
at_number {T} view m n = option_map (λ (t : Bor T). view t.now) (get int_cmp m n)

-- a field that a map has
abbrev pub field_at : BTreeMap ℤ (Bor FieldDescriptorProto) → ℤ → Option FieldDescriptor
field_at m n = at_number field_view m n

-- a value of an enum that a map has
abbrev pub value_at : BTreeMap ℤ (Bor EnumValueDescriptorProto) → ℤ → Option EnumValueDescriptor
value_at m n = at_number enum_value_view m n

-- the fields of a message by their numbers
abbrev pub own_fields : Standing MessageDescriptor → ℤ → Option FieldDescriptor
own_fields m n = field_with n (parts_seen m.what).field

-- the values of an enum by their numbers
abbrev pub own_values : Standing EnumDescriptor → ℤ → Option EnumValueDescriptor
own_values e n = value_with n e.what.value

-- ---- extensions by what they extend

-- the positions of extensions, by what they extend and by their numbers
abbrev pub Extended : Type 0
Extended = BTreeMap (String Global) (BTreeMap ℤ ℕ)

-- what such a map has
abbrev pub extended_at : Extended → Text → ℤ → Option ℕ
extended_at m extendee n =
    option_and_then (λ (inside : BTreeMap ℤ ℕ). get int_cmp inside n) (get_by_text m extendee)

-- whether it is an extension of that message with that number
abbrev pub is_extension : Text → ℤ → Standing FieldDescriptor → Bool
is_extension extendee n e = extends extendee e.what && int_eq n e.what.number

-- The map has of each message and number the position of the first such extension.
pub record HasExtensions (m : Extended) (xs : List (Standing FieldDescriptor)) : Type 0 where
  pub at : (extendee : Text) (n : ℤ)
      → extended_at m extendee n ≡ first_at (is_extension extendee n) xs
