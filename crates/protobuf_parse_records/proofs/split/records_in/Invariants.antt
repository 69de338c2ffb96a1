use Rattle.std.proofs.Common.{length, map}
use Rattle.protobuf_parse_records.specs.Views.{span_view, record_view}
use Rattle.protobuf_parse_records.specs.Splitting as spec
use Rattle.protobuf_parse_records.proofs.RecordLoop.{IsLeft}
use Rattle.protobuf_parse_records.proofs.split.records_in.Given as goal

abbrev pub invariant-rest : goal.invariant-rest
invariant-rest l = IsLeft (map record_view l.found.items) (span_view l.rest)
    (spec.records_in (span_view l.span))

abbrev pub decreases-rest : goal.decreases-rest
decreases-rest l = length l.rest.bytes.now
