use Rattle.std.proofs.Common.{◌≡◌, Ok}
use Rattle.protobuf_parse_set_reader.specs.Values.{all_of, bytes_inside, numbered}
use Rattle.protobuf_parse_set_reader.proofs.Going.{first_ones}
use Rattle.protobuf_parse_set_reader.proofs.source_info.bytes_together.Given as goal

abbrev pub invariant-loop-record : goal.invariant-loop-record
invariant-loop-record l =
    all_of bytes_inside (numbered l.number (first_ones l.record-items l.record-index))
    ≡ Ok l.all.items
