-- Which types the keys of maps have: those of integers, `bool` and `string`. Protocol Buffers
-- Language Guide (proto3), "Maps" (https://protobuf.dev). The message behind a map says so by an
-- option, and its field of number 1 is the key.
use Rattle.std.specs.Prelude.{pos, Bool, true, false, ◌&&◌, Option, option_and_then, unwrap_or}
use Rattle.std.specs.Ordering.{int_eq}
use Rattle.protobuf_parse_model.specs.declared.descriptor.FieldType.{FieldType}
use Rattle.protobuf_parse_model.specs.declared.descriptor.FieldType.TheVariants as kind
use Rattle.protobuf_parse_model.specs.Descriptors.{FieldDescriptor}
use Rattle.protobuf_parse_model.specs.Options.{MessageOptionValues}
use Rattle.protobuf_parse_rules.specs.Bodies.{Content, of_message, of_file}
use Rattle.protobuf_parse_rules.specs.Rules.{Broken, broken_if}
use Rattle.protobuf_parse_rules.specs.declared.rule.Rule.TheVariants as rule

-- whether a message stands behind a map
abbrev pub is_entry : Content → Bool
is_entry (of_message m) =
    unwrap_or (option_and_then (λ (o : MessageOptionValues). o.map_entry) m.options) false
is_entry (of_file f) = false

-- whether keys can't have the type
abbrev pub is_no_key : FieldType → Bool
is_no_key kind.Float = true
is_no_key kind.Double = true
is_no_key kind.Bytes = true
is_no_key kind.Message = true
is_no_key kind.Group = true
is_no_key kind.Enum = true
is_no_key _ = false

-- C25 for a field of the message that is a key, which it is if the message stands behind a map
abbrev pub key_type : Content → FieldDescriptor → Option Broken
key_type content f =
    broken_if (is_entry content && (int_eq f.number (pos 1) && is_no_key f.type_)) rule.MapKey
