use Rattle.std.proofs.Common.{◌≡◌, ◌++◌, map, take, flat_map}
use Rattle.std.specs.Prelude.{string_bytes}
use Rattle.protobuf_parse_model.specs.Descriptors.{file_view}
use Rattle.protobuf_parse_proto_text.specs.Made.{inner_seen}
use Rattle.protobuf_parse_proto_text.specs.OrderViews.{part_view}
use Rattle.protobuf_parse_proto_text.specs.ProtoText.{part_text}
use Rattle.protobuf_parse_proto_text.proofs.messages.+messages.Given as goal

abbrev pub invariant-put_parts-parts : goal.invariant-put_parts-parts
invariant-put_parts-parts l =
    string_bytes l.text ≡ string_bytes l.fn.text
    ++ flat_map (part_text (map file_view l.index) l.proto3 l.level
    (inner_seen (map file_view l.index) l.proto3 l.scope l.nested))
    (map part_view (take l.part-index l.parts))
