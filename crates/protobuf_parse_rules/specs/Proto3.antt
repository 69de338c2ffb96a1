-- What proto3 leaves out: required fields, groups, defaults, extensions of other messages than
-- those of options, and message sets. Protocol Buffers Language Guide (proto3), "Specifying Field
-- Labels", "Default Values", "Custom Options" (https://protobuf.dev); Protocol Buffers Language
-- Specification (proto3) has no extension ranges and no groups.
use Rattle.std.specs.Prelude.{Bool, true, false, not, ◌&&◌, ◌||◌, Option, Some, None, is_some}
use Rattle.std.specs.Prelude.{codes, if◌then◌else◌, bytes_eq, slice_get}
use Rattle.protobuf_parse_syntax.specs.declared.tree.field.Label.{Label}
use Rattle.protobuf_parse_syntax.specs.declared.tree.field.Label.TheVariants as label
use Rattle.protobuf_parse_model.specs.declared.descriptor.FieldType.{FieldType}
use Rattle.protobuf_parse_model.specs.declared.descriptor.FieldType.TheVariants as kind
use Rattle.protobuf_parse_model.specs.Descriptors.{Text}
use Rattle.protobuf_parse_rules.specs.MessageSets.{is_message_set}
use Rattle.protobuf_parse_rules.specs.Bodies.{Content, of_message, of_file}
use Rattle.protobuf_parse_rules.specs.Rules.{Broken, broken_by, broken_if}
use Rattle.protobuf_parse_rules.specs.declared.rule.Rule.TheVariants as rule

-- whether a label is `required`
abbrev pub is_required : Label → Bool
is_required label.Required = true
is_required _ = false

-- whether a type is a group
abbrev pub is_group : FieldType → Bool
is_group kind.Group = true
is_group _ = false

-- C11 for a required field
abbrev pub required_field : (proto3 : Bool) → Label → Option Broken
required_field proto3 l = broken_if (proto3 && is_required l) rule.RequiredInProto3

-- C12 for a group
abbrev pub group_field : (proto3 : Bool) → FieldType → Option Broken
group_field proto3 type_ = broken_if (proto3 && is_group type_) rule.GroupInProto3

-- C13 for a field with a default
abbrev pub default_field : (proto3 : Bool) → Option Text → Option Broken
default_field proto3 default = broken_if (proto3 && is_some default) rule.DefaultInProto3

-- whether a message keeps numbers for extensions
abbrev pub keeps_numbers : Content → Bool
keeps_numbers (of_message m) = is_some (slice_get m.extension_range 0)
keeps_numbers (of_file f) = false

-- C14 for a message that does
abbrev pub ranges_kept : (proto3 : Bool) → Content → Option Broken
ranges_kept proto3 content =
    broken_if (proto3 && keeps_numbers content) rule.ExtensionRangeInProto3

-- C16 for a message set
abbrev pub set_in_proto3 : (proto3 : Bool) → Content → Option Broken
set_in_proto3 proto3 content =
    broken_if (proto3 && is_message_set content) rule.MessageSetInProto3

-- the messages of options
abbrev pub is_of_options : Text → Bool
is_of_options name =
    bytes_eq name (codes ".google.protobuf.FileOptions")
    || (bytes_eq name (codes ".google.protobuf.MessageOptions")
    || (bytes_eq name (codes ".google.protobuf.FieldOptions")
    || (bytes_eq name (codes ".google.protobuf.OneofOptions")
    || (bytes_eq name (codes ".google.protobuf.EnumOptions")
    || (bytes_eq name (codes ".google.protobuf.EnumValueOptions")
    || (bytes_eq name (codes ".google.protobuf.ServiceOptions")
    || (bytes_eq name (codes ".google.protobuf.MethodOptions")
    || bytes_eq name (codes ".google.protobuf.ExtensionRangeOptions"))))))))

-- C15 for an extension of any other message than those of options
abbrev pub extended : (proto3 : Bool) → (extendee : Option Text) → Option Broken
extended proto3 None = None
extended proto3 (Some name) =
    if proto3 && not (is_of_options name) then Some (broken_by rule.ExtensionInProto3 name)
    else None
