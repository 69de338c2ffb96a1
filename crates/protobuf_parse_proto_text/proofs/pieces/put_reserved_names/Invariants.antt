use Rattle.std.proofs.Common.{◌≡◌, ◌++◌, map, take, flat_map}
use Rattle.std.specs.Prelude.{string_bytes}
use Rattle.protobuf_parse_proto_text.specs.Pieces.{reserved_name_line}
use Rattle.protobuf_parse_proto_text.proofs.pieces.put_reserved_names.Given as goal

abbrev pub invariant-loop-name : goal.invariant-loop-name
invariant-loop-name l =
    string_bytes l.text ≡ string_bytes l.fn.text
    ++ flat_map (reserved_name_line l.level)
    (map string_bytes (take l.name-index l.names))
