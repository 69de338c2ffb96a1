-- No public clause rests on this file.
-- Bodies where what is wrong depends on others.
use Rattle.std.specs.Prelude.{Bool, ◌&&◌, ◌||◌, is_some}
use Rattle.std.specs.List.{list_any}
use Rattle.protobuf_parse_model.specs.Descriptors.{FieldDescriptor}
use Rattle.protobuf_parse_rules.specs.Customs.{are_any}
use Rattle.protobuf_parse_rules.specs.EnumUses.{is_enum}
use Rattle.protobuf_parse_rules.specs.Maps.{is_entry}
use Rattle.protobuf_parse_rules.specs.Bodies.{Content, BodyParts, extensions_of, fields_of}
use Rattle.protobuf_parse_rules.specs.Bodies.{imports_of, services_of}

-- on the enum of a field: in proto3, where it has a default, and behind a map
abbrev pub field_asks : (proto3 : Bool) → Content → FieldDescriptor → Bool
field_asks proto3 content f =
    is_enum f.type_ && ((proto3 || is_some f.default_value) || is_entry content)

-- or on files that are imported, or on messages that are extended, or on what methods take and give
abbrev pub asks : BodyParts → Bool
asks p = (are_any (imports_of p.content)
    || (are_any (extensions_of p.content) || are_any (services_of p.content)))
    || list_any (field_asks p.proto3 p.content) (fields_of p.content)
