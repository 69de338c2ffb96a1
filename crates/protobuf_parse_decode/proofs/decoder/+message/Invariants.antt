use Rattle.std.proofs.Common.{◌+◌, ◌*◌, map, drop}
use Rattle.protobuf_parse_model.specs.Descriptors.{file_view}
use Rattle.protobuf_parse_records.specs.Views.{record_view}
use Rattle.protobuf_parse_decode.specs.Declarations.{declared_in, entered}
use Rattle.protobuf_parse_decode.specs.Decoding as spec
use Rattle.protobuf_parse_decode.specs.Decoding.{message_within}
use Rattle.protobuf_parse_decode.specs.Parts.{HaveSmallNumbers}
use Rattle.protobuf_parse_decode.specs.Views.{field_view}
use Rattle.protobuf_parse_decode.proofs.Telling.{ToTell}
use Rattle.protobuf_parse_decode.proofs.decoder.+message.Given as goal

abbrev pub decreases-message_of : goal.decreases-message_of
decreases-message_of l = 5 * l.levels

abbrev pub decreases-inside_of : goal.decreases-inside_of
decreases-inside_of l = 5 * l.levels + 1

abbrev pub decreases-group_of : goal.decreases-group_of
decreases-group_of l = 5 * l.levels + 1

abbrev pub decreases-known : goal.decreases-known
decreases-known l = 5 * l.levels + 2

abbrev pub decreases-meaning_of : goal.decreases-meaning_of
decreases-meaning_of l = 5 * l.levels + 3

abbrev pub decreases-fields_of : goal.decreases-fields_of
decreases-fields_of l = 5 * l.levels + 4

abbrev pub invariant-fields_of-records : goal.invariant-fields_of-records
invariant-fields_of-records l =
    ToTell (message_within (entered (map file_view l.index)) l.levels)
    (declared_in (map file_view l.index) l.message) (map field_view l.fields.items)
    (map record_view (drop l.record-index l.records))
    (spec.fields_of (message_within (entered (map file_view l.index)) l.levels)
    (declared_in (map file_view l.index) l.message) (map record_view l.records))
    × HaveSmallNumbers (map record_view (drop l.record-index l.records))
