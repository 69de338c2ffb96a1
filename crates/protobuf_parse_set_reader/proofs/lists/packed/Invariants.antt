use Rattle.std.proofs.Common.{length}
use Rattle.protobuf_parse_records.specs.Views.{span_view}
use Rattle.protobuf_parse_set_reader.specs.Values.{packed}
use Rattle.protobuf_parse_set_reader.proofs.Packed.{Remains}
use Rattle.protobuf_parse_set_reader.proofs.lists.packed.Given as goal

abbrev pub invariant-numbers : goal.invariant-numbers
invariant-numbers l = Remains l.all.items (span_view l.rest) (packed (span_view l.span))

abbrev pub decreases-numbers : goal.decreases-numbers
decreases-numbers l = length l.rest.bytes.now
