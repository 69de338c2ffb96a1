use Rattle.std.proofs.Common.{◌≡◌, ◌++◌, map, take, flat_map}
use Rattle.std.specs.Prelude.{string_bytes}
use Rattle.protobuf_parse_model.specs.Descriptors.{file_view}
use Rattle.protobuf_parse_model.specs.Descriptors.{enum_value_view}
use Rattle.protobuf_parse_proto_text.specs.ProtoText.{value_line}
use Rattle.protobuf_parse_proto_text.proofs.declarations.put_enum_values.Given as goal

abbrev pub invariant-loop-value : goal.invariant-loop-value
invariant-loop-value l =
    string_bytes l.text ≡ string_bytes l.fn.text
    ++ flat_map (value_line (map file_view l.index) l.level)
    (map enum_value_view (take l.value-index l.values))
