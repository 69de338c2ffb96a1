use Rattle.std.proofs.Common.{◌≡◌, ◌++◌, map, take, flat_map}
use Rattle.std.specs.Prelude.{string_bytes}
use Rattle.protobuf_parse_model.specs.Descriptors.{file_view}
use Rattle.protobuf_parse_model.specs.Descriptors.{enum_view}
use Rattle.protobuf_parse_proto_text.specs.ProtoText.{enum_text}
use Rattle.protobuf_parse_proto_text.proofs.declarations.put_enums.Given as goal

abbrev pub invariant-loop-each : goal.invariant-loop-each
invariant-loop-each l =
    string_bytes l.text ≡ string_bytes l.fn.text
    ++ flat_map (enum_text (map file_view l.index) l.level)
    (map enum_view (take l.each-index l.enums))
