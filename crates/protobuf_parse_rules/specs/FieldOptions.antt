-- Options of fields that can't stand at every field. The comments of `packed`, `lazy` and `jstype`
-- in google/protobuf/descriptor.proto.
use Rattle.std.specs.Prelude.{Bool, true, false, not, ◌&&◌, ◌||◌, Option, Some, None}
use Rattle.std.specs.Prelude.{option_and_then, unwrap_or}
use Rattle.protobuf_parse_syntax.specs.declared.tree.field.Label.{Label}
use Rattle.protobuf_parse_syntax.specs.declared.tree.field.Label.TheVariants as label
use Rattle.protobuf_parse_model.specs.declared.descriptor.FieldType.{FieldType}
use Rattle.protobuf_parse_model.specs.declared.descriptor.FieldType.TheVariants as kind
use Rattle.protobuf_parse_model.specs.declared.descriptor.options.JSType.{JSType}
use Rattle.protobuf_parse_model.specs.declared.descriptor.options.JSType.TheVariants.{JsNormal}
use Rattle.protobuf_parse_model.specs.Descriptors.{FieldDescriptor}
use Rattle.protobuf_parse_model.specs.Options.{FieldOptionValues}
use Rattle.protobuf_parse_rules.specs.Rules.{Broken, broken_if}
use Rattle.protobuf_parse_rules.specs.declared.rule.Rule.TheVariants as rule

-- whether a label is `repeated`
abbrev pub is_repeated : Label → Bool
is_repeated label.Repeated = true
is_repeated _ = false

-- numbers, truth values and enums
abbrev pub is_packable : FieldType → Bool
is_packable kind.String = false
is_packable kind.Bytes = false
is_packable kind.Message = false
is_packable kind.Group = false
is_packable _ = true

-- whether a type is a message
abbrev pub is_message : FieldType → Bool
is_message kind.Message = true
is_message _ = false

-- whether a type is one of integers of 64 bits
abbrev pub is_64_bits : FieldType → Bool
is_64_bits kind.Int64 = true
is_64_bits kind.Uint64 = true
is_64_bits kind.Sint64 = true
is_64_bits kind.Fixed64 = true
is_64_bits kind.Sfixed64 = true
is_64_bits _ = false

-- `packed` is set to true
abbrev pub says_packed : FieldOptionValues → Bool
says_packed o = unwrap_or o.packed false

-- `lazy` or `unverified_lazy` is set to true
abbrev pub says_lazy : FieldOptionValues → Bool
says_lazy o = unwrap_or o.lazy false || unwrap_or o.unverified_lazy false

-- another one than the usual
abbrev pub is_js_type : Option JSType → Bool
is_js_type None = false
is_js_type (Some JsNormal) = false
is_js_type (Some _) = true

-- C19 for `packed` at a field that isn't repeated, or whose type can't be packed
abbrev pub packed_option : Label → FieldType → FieldOptionValues → Option Broken
packed_option l type_ o =
    broken_if (says_packed o && not (is_repeated l && is_packable type_)) rule.PackedNotPackable

-- C20 for `lazy` at a field that is no message
abbrev pub lazy_option : FieldType → FieldOptionValues → Option Broken
lazy_option type_ o = broken_if (says_lazy o && not (is_message type_)) rule.LazyNotMessage

-- C21 for `jstype` at a field of another type than integers of 64 bits
abbrev pub js_type_option : FieldType → FieldOptionValues → Option Broken
js_type_option type_ o =
    broken_if (is_js_type o.jstype && not (is_64_bits type_)) rule.JsTypeNotLarge

-- those of a field, if it has any
abbrev pub option_of : (FieldOptionValues → Option Broken) → FieldDescriptor → Option Broken
option_of r f = option_and_then r f.options
