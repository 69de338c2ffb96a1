use Rattle.std.proofs.Common.{◌≡◌, ◌++◌, drop, map}
use Rattle.protobuf_parse_model.specs.Descriptors.{file_view}
use Rattle.protobuf_parse_decode.specs.Inside.{values_view}
use Rattle.protobuf_parse_decode.specs.Views.{field_view}
use Rattle.protobuf_parse_merged.specs.Occurrences.{occurrences_in, strays_in}
use Rattle.protobuf_parse_merged.specs.Inside.{declared_view, occurrence_view}
use Rattle.protobuf_parse_merged.specs.Views.{unknown_view}
use Rattle.protobuf_parse_merged.proofs.occurrences.tell_values.Given as goal

abbrev pub invariant-values : goal.invariant-values
invariant-values l =
    (map occurrence_view l.occurrences.items
    ++ occurrences_in (map file_view l.index) (declared_view l.declared) (field_view l.field).number
    (field_view l.field).whole (values_view (drop l.value-index l.values))
    ≡ map occurrence_view l.initial.occurrences.items
    ++ occurrences_in (map file_view l.index) (declared_view l.declared) (field_view l.field).number
    (field_view l.field).whole (values_view l.values))
    × (map unknown_view l.unknown.items
    ++ strays_in (map file_view l.index) (declared_view l.declared) (field_view l.field).number
    (field_view l.field).whole (values_view (drop l.value-index l.values))
    ≡ map unknown_view l.initial.unknown.items
    ++ strays_in (map file_view l.index) (declared_view l.declared) (field_view l.field).number
    (field_view l.field).whole (values_view l.values))
