use Rattle.std.proofs.Common.{◌≡◌, ◌++◌, map, take, flat_map}
use Rattle.std.specs.Prelude.{string_bytes}
use Rattle.protobuf_parse_model.specs.Descriptors.{enum_range_view}
use Rattle.protobuf_parse_proto_text.specs.ProtoText.{enum_range_line}
use Rattle.protobuf_parse_proto_text.proofs.declarations.put_enum_ranges.Given as goal

abbrev pub invariant-loop-range : goal.invariant-loop-range
invariant-loop-range l =
    string_bytes l.text ≡ string_bytes l.fn.text
    ++ flat_map (enum_range_line l.level)
    (map enum_range_view (take l.range-index l.ranges))
