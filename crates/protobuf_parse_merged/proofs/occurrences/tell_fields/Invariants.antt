use Rattle.std.proofs.Common.{◌≡◌, ◌++◌, drop, map}
use Rattle.protobuf_parse_model.specs.Descriptors.{file_view}
use Rattle.protobuf_parse_decode.specs.Views.{fields_view}
use Rattle.protobuf_parse_merged.specs.Declarations.{declared_in}
use Rattle.protobuf_parse_merged.specs.Occurrences as spec
use Rattle.protobuf_parse_merged.specs.Inside.{occurrence_view}
use Rattle.protobuf_parse_merged.specs.Views.{unknown_view}
use Rattle.protobuf_parse_merged.proofs.occurrences.tell_fields.Given as goal

abbrev pub invariant-fields : goal.invariant-fields
invariant-fields l =
    (map occurrence_view l.occurrences.items
    ++ spec.occurrences (map file_view l.index) (declared_in (map file_view l.index) l.message)
    (fields_view (drop l.field-index l.fields))
    ≡ map occurrence_view l.initial.occurrences.items
    ++ spec.occurrences (map file_view l.index) (declared_in (map file_view l.index) l.message) (fields_view l.fields))
    × (map unknown_view l.unknown.items
    ++ spec.unknown_among (map file_view l.index) (declared_in (map file_view l.index) l.message)
    (fields_view (drop l.field-index l.fields))
    ≡ map unknown_view l.initial.unknown.items
    ++ spec.unknown_among (map file_view l.index) (declared_in (map file_view l.index) l.message) (fields_view l.fields))
