use Rattle.std.proofs.Common.{◌≡◌, map, Ok}
use Rattle.protobuf_parse_records.specs.Views.{record_view}
use Rattle.protobuf_parse_set_reader.specs.Values.{all_of, numbered, records_inside}
use Rattle.protobuf_parse_set_reader.proofs.Going.{first_ones}
use Rattle.protobuf_parse_set_reader.proofs.parts.together.Given as goal

abbrev pub invariant-loop-record : goal.invariant-loop-record
invariant-loop-record l =
    all_of (records_inside) (numbered l.number (first_ones l.record-items l.record-index))
    ≡ Ok (map record_view l.all.items)
