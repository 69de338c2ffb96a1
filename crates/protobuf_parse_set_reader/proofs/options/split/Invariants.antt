use Rattle.std.proofs.Common.{map}
use Rattle.protobuf_parse_records.specs.Views.{record_view}
use Rattle.protobuf_parse_set_reader.proofs.Going.{first_ones}
use Rattle.protobuf_parse_set_reader.proofs.Splitting.{IsSplit}
use Rattle.protobuf_parse_set_reader.proofs.options.split.Given as goal

abbrev pub invariant-loop-record : goal.invariant-loop-record
invariant-loop-record g l = IsSplit g.O.BuiltIn.sets (first_ones l.record-items l.record-index)
    (map record_view l.known.items) l.custom.items
