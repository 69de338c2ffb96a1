-- No public clause rests on this file.
-- What stands at a position that is kept, or else is found by its name.
use Rattle.std.specs.Prelude.{ℕ, ℤ, List, length, nat_lt, Option, Some, None, option_map, slice_get}
use Rattle.std.specs.Prelude.{if◌then◌else◌}
use Rattle.protobuf_parse_model.specs.Descriptors.{Text, FieldDescriptor, EnumDescriptor}
use Rattle.protobuf_parse_model.specs.Descriptors.{EnumValueDescriptor, MessageDescriptor}
use Rattle.protobuf_parse_model.specs.Descriptors.{parts_seen}
use Rattle.protobuf_parse_options.specs.Views.{field_among, number_among}
use Rattle.protobuf_parse_options.specs.Positions.{most_walked}

abbrev pub value_number : EnumValueDescriptor → ℤ
value_number v = v.number

abbrev pub part_in : {T : Type 0} → List T → Option ℕ → Option T
part_in parts None = None
part_in parts (Some n) = slice_get parts n

-- the first field of the name, by its position where they are more than a few
abbrev pub field_by : (Text → Option ℕ) → List FieldDescriptor → Text → Option FieldDescriptor
field_by position fields name = if nat_lt most_walked (length fields)
    then part_in fields (position name) else field_among fields name

-- the number of the first value of the name
abbrev pub number_by : (Text → Option ℕ) → List EnumValueDescriptor → Text → Option ℤ
number_by position values name = if nat_lt most_walked (length values)
    then option_map value_number (part_in values (position name)) else number_among values name

-- where there is a message
abbrev pub field_inside : (Text → Option ℕ) → Option MessageDescriptor → Text
    → Option FieldDescriptor
field_inside position None name = None
field_inside position (Some m) name = field_by position (parts_seen m).field name

-- where there is an enum
abbrev pub number_inside : (Text → Option ℕ) → Option EnumDescriptor → Text → Option ℤ
number_inside position None name = None
number_inside position (Some e) name = number_by position e.value name
