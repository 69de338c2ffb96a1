-- Where the parts of a message or an enum stand, by their names: the fields of a message, the
-- values of an enum.
use Rattle.std.specs.Prelude.{ℕ, suc, List, [], ◌∷◌, length, map, bytes_eq, nat_lt, Option, Some}
use Rattle.std.specs.Prelude.{None, if◌then◌else◌}
use Rattle.protobuf_parse_model.specs.Descriptors.{Text, FieldDescriptor, EnumDescriptor}
use Rattle.protobuf_parse_model.specs.Descriptors.{EnumValueDescriptor, MessageDescriptor}
use Rattle.protobuf_parse_model.specs.Descriptors.{parts_seen}
use Rattle.protobuf_parse_options.specs.Spots.{field_name}

-- the position of the first that has the name, where the first of all has this position
abbrev pub position_from : ℕ → List Text → Text → Option ℕ
position_from at [] name = None
position_from at (n ∷ ns) name =
    if bytes_eq n name then Some at else position_from (suc at) ns name

-- Of up to so many parts no positions are kept: they are gone through.
abbrev pub most_walked : ℕ
most_walked = 16

-- the position of the first that has the name, of more than a few
abbrev pub kept_position : List Text → Text → Option ℕ
kept_position names name =
    if nat_lt most_walked (length names) then position_from 0 names name else None

-- the name of an enum's value
abbrev pub name_of_value : EnumValueDescriptor → Text
name_of_value v = v.name

-- the names of a message's fields
abbrev pub field_names : MessageDescriptor → List Text
field_names m = map field_name (parts_seen m).field

-- the names of an enum's values
abbrev pub value_names : EnumDescriptor → List Text
value_names e = map name_of_value e.value

-- An extension has no parts.
abbrev pub extension_parts : FieldDescriptor → List Text
extension_parts f = []
