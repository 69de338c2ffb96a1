use Rattle.std.proofs.Common.{◌≡◌, ◌++◌, map, take, flat_map}
use Rattle.std.specs.Prelude.{string_bytes, codes}
use Rattle.protobuf_parse_model.specs.Descriptors.{reserved_range_view}
use Rattle.protobuf_parse_proto_text.specs.ProtoText.{numbers_line}
use Rattle.protobuf_parse_proto_text.proofs.messages.put_reserved_ranges.Given as goal

abbrev pub invariant-loop-range : goal.invariant-loop-range
invariant-loop-range l =
    string_bytes l.text ≡ string_bytes l.fn.text
    ++ flat_map (numbers_line l.level (codes "reserved "))
    (map reserved_range_view (take l.range-index l.ranges))
