use Rattle.std.proofs.Common.{◌+◌, ◌*◌, length, map}
use Rattle.protobuf_parse_wire.specs.Views.{read_field_view}
use Rattle.protobuf_parse_wire.specs.Reading.{records, message_at}
use Rattle.protobuf_parse_wire.specs.Indexed.{Remembers, entered_by, numbered}
use Rattle.protobuf_parse_wire.proofs.Loop.{Left}
use Rattle.protobuf_parse_wire.proofs.reader.records.+message.Given as goal

abbrev pub decreases-message_of : goal.decreases-message_of
decreases-message_of l = 5 * l.levels

abbrev pub decreases-payload_of : goal.decreases-payload_of
decreases-payload_of l = 5 * l.levels + 1

abbrev pub decreases-value_of : goal.decreases-value_of
decreases-value_of l = 5 * l.levels + 2

abbrev pub decreases-record_of : goal.decreases-record_of
decreases-record_of l = 5 * l.levels + 3

abbrev pub decreases-records_of : goal.decreases-records_of
decreases-records_of l = 5 * l.levels + 4

abbrev pub invariant-records_of-records : goal.invariant-records_of-records
invariant-records_of-records l =
    Left (message_at (entered_by l.index) l.levels) (numbered l.numbers)
    (map read_field_view l.fields.items) l.rest
    (records (message_at (entered_by l.index) l.levels) (numbered l.numbers)
    (length l.bytes) l.bytes) × Remembers l.index l.visited

abbrev pub decreases-records_of-records : goal.decreases-records_of-records
decreases-records_of-records l = length l.rest
