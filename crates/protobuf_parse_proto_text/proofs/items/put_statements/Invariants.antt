use Rattle.std.proofs.Common.{◌≡◌, ◌++◌, map, take, flat_map}
use Rattle.std.specs.Prelude.{string_bytes}
use Rattle.protobuf_parse_proto_text.specs.Items.{option_line}
use Rattle.protobuf_parse_proto_text.proofs.items.put_statements.Given as goal

abbrev pub invariant-loop-item : goal.invariant-loop-item
invariant-loop-item l =
    string_bytes l.text ≡ string_bytes l.fn.text
    ++ flat_map (option_line l.level)
    (map string_bytes (take l.item-index l.items))
