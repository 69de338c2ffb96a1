use Rattle.std.proofs.Common.{◌≡◌, map, Ok}
use Rattle.protobuf_parse_set_reader.specs.Bodies.{types_view}
use Rattle.protobuf_parse_set_reader.specs.Values.{all_of, alone, numbered, part_in}
use Rattle.protobuf_parse_set_reader.proofs.Going.{first_ones}
use Rattle.protobuf_parse_set_reader.proofs.parts.parts.Given as goal

abbrev pub invariant-loop-record : goal.invariant-loop-record
invariant-loop-record g l =
    all_of (alone (part_in (g.P.Part.of (types_view l.types)))) (numbered l.number (first_ones l.record-items l.record-index))
    ≡ Ok (map g.P.Part.view l.all.items)
