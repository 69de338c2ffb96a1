-- No public clause rests on this file.
-- What one more makes of the maps that an index keeps.
use Rattle.std.specs.Prelude.{◌≡◌, ℕ, ℤ, ◌&&◌, List, flat_map, Some, None, String, bytes_eq}
use Rattle.std.specs.Prelude.{if◌then◌else◌, ◌++◌, map}
use Rattle.std.specs.Option.{option_or}
use Rattle.std.specs.Ordering.{int_cmp, int_eq}
use Rattle.std.specs.BTreeMap.{BTreeMap, get, get_by_text}
use Rattle.std.specs.Global.{Global}
use Rattle.protobuf_parse_model.specs.Descriptors.{Text, FieldDescriptor, MessageDescriptor}
use Rattle.protobuf_parse_model.specs.Descriptors.{EnumDescriptor}
use Rattle.protobuf_parse_wire.specs.Declarations.{extends}
use Rattle.protobuf_parse_index.specs.Walk.{Standing, enums_inside, extensions_inside}
use Rattle.protobuf_parse_index.specs.declared.walk.Walk.{Walk}
use Rattle.protobuf_parse_index.specs.Kept.{Extended, extended_at}
use Rattle.protobuf_parse_index.specs.Views.{standing_enum, standing_extension, standing_message}

-- The walk has these in addition.
pub record WalkAdds (old new : Walk) (ms : List (Standing MessageDescriptor))
    (es : List (Standing EnumDescriptor)) (xs : List (Standing FieldDescriptor)) : Type 0 where
  pub messages : map standing_message new.messages.items
      ≡ map standing_message old.messages.items ++ ms
  pub enums : map standing_enum new.enums.items ≡ map standing_enum old.enums.items ++ es
  pub extensions : map standing_extension new.extensions.items
      ≡ map standing_extension old.extensions.items ++ xs

-- The walk has these messages in addition, and what stands in them.
abbrev pub WalkAddsMessages : Walk → Walk → List (Standing MessageDescriptor) → Type 0
WalkAddsMessages old new ms =
    WalkAdds old new ms (flat_map enums_inside ms) (flat_map extensions_inside ms)

-- The map has one more position, unless there was one.
abbrev pub PutsPosition : BTreeMap (String Global) ℕ → BTreeMap (String Global) ℕ → Text → ℕ
    → Type 0
PutsPosition old new name at = (q : Text)
    → get_by_text new q
    ≡ option_or (get_by_text old q) (if bytes_eq q name then Some at else None)

-- The map has one more, unless there was one of that number.
abbrev pub PutsNumber : {V : Type 0} → BTreeMap ℤ V → BTreeMap ℤ V → ℤ → V → Type 0
PutsNumber old new number what = (q : ℤ)
    → get int_cmp new q
    ≡ option_or (get int_cmp old q) (if int_eq q number then Some what else None)

-- The map has one more, unless there was one of that number.
abbrev pub PutsExtended : Extended → Extended → Text → ℤ → ℕ → Type 0
PutsExtended old new extendee number at = (q : Text) (n : ℤ)
    → extended_at new q n ≡ option_or (extended_at old q n)
    (if bytes_eq q extendee && int_eq n number then Some at else None)

-- The map has the extension's position, unless there was one of its number, or it extends nothing.
abbrev pub PutsExtension : Extended → Extended → Text → ℤ → FieldDescriptor → ℕ → Type 0
PutsExtension old new q n field at =
    extended_at new q n
    ≡ option_or (extended_at old q n)
    (if extends q field && int_eq n field.number then Some at else None)
