-- Messages with the wire format of message sets: they have extensions alone. The comment of
-- `message_set_wire_format` in google/protobuf/descriptor.proto.
use Rattle.std.specs.Prelude.{Bool, false, Option, option_and_then, unwrap_or}
use Rattle.protobuf_parse_model.specs.Options.{MessageOptionValues}
use Rattle.protobuf_parse_rules.specs.Bodies.{Content, of_message, of_file}
use Rattle.protobuf_parse_rules.specs.Rules.{Broken, broken_if}
use Rattle.protobuf_parse_rules.specs.declared.rule.Rule.TheVariants as rule

-- whether a message has that format
abbrev pub is_message_set : Content → Bool
is_message_set (of_message m) =
    unwrap_or (option_and_then (λ (o : MessageOptionValues). o.message_set_wire_format) m.options)
    false
is_message_set (of_file f) = false

-- C17 for a field of such a message
abbrev pub field_of_set : Content → Option Broken
field_of_set content = broken_if (is_message_set content) rule.FieldInMessageSet
