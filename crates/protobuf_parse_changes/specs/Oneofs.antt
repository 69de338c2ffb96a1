-- The oneofs of messages, by their names. That of a field with the label `optional` in proto3 was
-- made for it, and counts as none.
use Rattle.std.specs.Prelude.{Bool, false, Option, Some, None, option_map, if◌then◌else◌}
use Rattle.std.specs.List.{list_any}
use Rattle.protobuf_parse_model.specs.Descriptors.{Text, FieldDescriptor, MessageDescriptor}
use Rattle.protobuf_parse_model.specs.Descriptors.{OneofDescriptor, parts_seen}
use Rattle.protobuf_parse_index.specs.Lookups.{oneof_of}
use Rattle.protobuf_parse_changes.specs.Same.{same_text}

-- the name of the oneof that the field of the message stands in
abbrev pub oneof_name : MessageDescriptor → FieldDescriptor → Option Text
oneof_name m f =
    if f.proto3_optional then None
    else option_map (λ (o : OneofDescriptor). o.name) (oneof_of m f)

-- whether the field of the message stands in a oneof of that name
abbrev pub stands_in : MessageDescriptor → Text → FieldDescriptor → Bool
stands_in m name f = same_text (oneof_name m f) (Some name)

-- whether a field of the message does
abbrev pub has_oneof : MessageDescriptor → Text → Bool
has_oneof m name = list_any (stands_in m name) (parts_seen m).field

-- whether the message has the oneof, if there is one
abbrev pub still_has : MessageDescriptor → Option Text → Bool
still_has m None = false
still_has m (Some name) = has_oneof m name
