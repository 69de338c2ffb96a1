use Rattle.std.proofs.Common.{◌≡◌, List, ℕ, map, take}
use Rattle.protobuf_parse_set_reader.specs.Bodies.{type_name_view, types_view}
use Rattle.protobuf_parse_set_reader.specs.TypeNames.{type_named}
use Rattle.protobuf_parse_set_reader.proofs.type_names.by_name.Given as goal

abbrev pub invariant-loop-each : goal.invariant-loop-each
invariant-loop-each l = (q : List ℕ)
    → types_view l.types q ≡ type_named (map type_name_view (take l.each-index l.names)) q
