-- Extensions: none is required, each has a number that the message keeps for extensions, and those
-- of a message set are optional messages. Protocol Buffers Language Guide (proto2), "Extensions"
-- (https://protobuf.dev). Nothing is told where no message has the name.
use Rattle.std.specs.Prelude.{ℤ, Bool, true, false, not, ◌&&◌, if◌then◌else◌, List, Option, Some}
use Rattle.std.specs.Prelude.{None, option_and_then}
use Rattle.protobuf_parse_syntax.specs.declared.tree.field.Label.{Label}
use Rattle.protobuf_parse_syntax.specs.declared.tree.field.Label.TheVariants as label
use Rattle.protobuf_parse_model.specs.Descriptors.{FieldDescriptor, Text}
use Rattle.protobuf_parse_rules.specs.FieldOptions.{is_message}
use Rattle.protobuf_parse_rules.specs.Lookups.{NamedMessage, message_named}
use Rattle.protobuf_parse_rules.specs.MessageSets.{is_message_set}
use Rattle.protobuf_parse_rules.specs.Methods.{is_enum_alone}
use Rattle.protobuf_parse_rules.specs.Bodies.{BodyParts}
use Rattle.protobuf_parse_rules.specs.Proto3.{is_required}
use Rattle.protobuf_parse_rules.specs.Ranges.{in_ranges, ranges_for_extensions}
use Rattle.protobuf_parse_rules.specs.Rules.{Broken, broken_by, broken_if}
use Rattle.protobuf_parse_rules.specs.declared.rule.Rule.TheVariants as rule

-- C18 for the label `required`
abbrev pub required_extension : Label → Option Broken
required_extension l = broken_if (is_required l) rule.RequiredExtension

-- whether a label is `optional`
abbrev pub is_optional : Label → Bool
is_optional label.Optional = true
is_optional _ = false

-- the message that an extension extends
abbrev pub extendee_of : List BodyParts → FieldDescriptor → Option NamedMessage
extendee_of all e = option_and_then (message_named all) e.extendee

-- what a rule says of an extension of that message
abbrev pub of_extendee : List BodyParts → (NamedMessage → Option Broken) → FieldDescriptor
    → Option Broken
of_extendee all r e = option_and_then r (extendee_of all e)

-- C32 for a number outside of the ranges of the message
abbrev pub outside_ranges : ℤ → NamedMessage → Option Broken
outside_ranges n m = if in_ranges n (ranges_for_extensions m.what) then None
    else Some (broken_by (rule.NumberNotForExtensions n) m.name)

-- C54 for an extension of an enum
abbrev pub of_enum_extended : List BodyParts → FieldDescriptor → Option Broken
of_enum_extended all e = option_and_then (λ (name : Text).
    if is_enum_alone all name then Some (broken_by rule.ExtendeeNotMessage name) else None)
    e.extendee

-- C33 for any other than an optional message, where the message is a message set
abbrev pub of_message_set : FieldDescriptor → NamedMessage → Option Broken
of_message_set e m =
    if is_message_set m.what && not (is_optional e.label && is_message e.type_)
    then Some (broken_by rule.ExtensionOfMessageSet m.name) else None
