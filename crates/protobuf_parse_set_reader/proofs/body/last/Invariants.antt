use Rattle.std.proofs.Common.{◌≡◌}
use Rattle.protobuf_parse_set_reader.specs.Bodies.{record_seen}
use Rattle.protobuf_parse_set_reader.specs.Values.{last_one, numbered}
use Rattle.protobuf_parse_set_reader.proofs.Going.{first_ones}
use Rattle.protobuf_parse_set_reader.proofs.body.last.Given as goal

abbrev pub invariant-loop-record : goal.invariant-loop-record
invariant-loop-record l =
    record_seen l.last ≡ last_one (numbered l.number (first_ones l.record-items l.record-index))
