-- No public clause rests on this file.
-- Fields of which no rule of fields speaks.
use Rattle.std.specs.Prelude.{pos, Bool, true, false, not, ◌&&◌, ◌||◌, is_none, is_some, List, []}
use Rattle.std.specs.Prelude.{◌∷◌}
use Rattle.std.specs.Ordering.{int_eq}
use Rattle.protobuf_parse_model.specs.Descriptors.{FieldDescriptor}
use Rattle.protobuf_parse_model.specs.declared.descriptor.FieldType.{FieldType}
use Rattle.protobuf_parse_model.specs.declared.descriptor.FieldType.TheVariants as kind
use Rattle.protobuf_parse_rules.specs.Defaults.{default_of}
use Rattle.protobuf_parse_rules.specs.EnumUses.{is_enum}
use Rattle.protobuf_parse_rules.specs.FieldOptions.{js_type_option, lazy_option, option_of}
use Rattle.protobuf_parse_rules.specs.FieldOptions.{packed_option}
use Rattle.protobuf_parse_rules.specs.Maps.{is_entry, is_no_key}
use Rattle.protobuf_parse_rules.specs.MessageSets.{is_message_set}
use Rattle.protobuf_parse_rules.specs.Bodies.{Content, extension_ranges, reserved_names}
use Rattle.protobuf_parse_rules.specs.Bodies.{reserved_ranges}
use Rattle.protobuf_parse_rules.specs.Proto3.{is_required}
use Rattle.protobuf_parse_rules.specs.Ranges.{in_ranges, is_among}

abbrev pub is_nil : {X : Type 0} → List X → Bool
is_nil [] = true
is_nil (x ∷ xs) = false

-- a message with no ranges and no reserved names
abbrev pub keeps_nothing : Content → Bool
keeps_nothing content = (is_nil (reserved_ranges content) && is_nil (extension_ranges content))
    && is_nil (reserved_names content)

-- which moreover is neither a message set nor behind a map
abbrev pub bars_nothing : Content → Bool
bars_nothing content =
    (keeps_nothing content && not (is_message_set content)) && not (is_entry content)

abbrev pub is_group_or_enum : FieldType → Bool
is_group_or_enum kind.Group = true
is_group_or_enum kind.Enum = true
is_group_or_enum _ = false

-- not required, no group, of no enum, with no options and no default
abbrev pub is_ordinary : FieldDescriptor → Bool
is_ordinary f = ((is_none f.options && is_none f.default_value) && not (is_required f.label))
    && not (is_group_or_enum f.type_)

-- a field of a message, of a number and a name that this bars not
abbrev pub is_free : Content → FieldDescriptor → Bool
is_free content f = (not (in_ranges f.number (reserved_ranges content))
    && not (in_ranges f.number (extension_ranges content)))
    && not (is_among f.name (reserved_names content))

-- a key of a wrong type, or of an enum
abbrev pub is_odd_in_map : FieldDescriptor → Bool
is_odd_in_map f = is_enum f.type_ || (int_eq f.number (pos 1) && is_no_key f.type_)

abbrev pub allows : Content → FieldDescriptor → Bool
allows content f = (is_free content f && not (is_message_set content))
    && not (is_entry content && is_odd_in_map f)

-- a rule of proto3 may speak of it
abbrev pub is_noted : FieldDescriptor → Bool
is_noted f = (is_required f.label || is_group_or_enum f.type_) || is_some f.default_value

abbrev pub has_common_options : FieldDescriptor → Bool
has_common_options f = (is_none (option_of (packed_option f.label f.type_) f)
    && is_none (option_of (lazy_option f.type_) f))
    && is_none (option_of (js_type_option f.type_) f)

-- its options and its default break no rule, and none needs its enum
abbrev pub is_common : (proto3 : Bool) → FieldDescriptor → Bool
is_common proto3 f = ((not (proto3 && is_noted f) && not
    (is_some f.default_value && is_enum f.type_))
    && is_none (default_of f f.default_value)) && has_common_options f
