use Rattle.std.proofs.Common.{◌≡◌, ◌++◌, drop, map}
use Rattle.protobuf_parse_model.specs.Descriptors.{file_view}
use Rattle.protobuf_parse_merged.specs.Declarations.{declared_in}
use Rattle.protobuf_parse_merged.specs.Occurrences as spec
use Rattle.protobuf_parse_merged.specs.Merging.{joined}
use Rattle.protobuf_parse_merged.specs.Inside.{held_in, occurrence_view}
use Rattle.protobuf_parse_merged.specs.Views.{unknown_view}
use Rattle.protobuf_parse_merged.proofs.occurrences.told_of_all.Given as goal

abbrev pub invariant-run : goal.invariant-run
invariant-run l =
    (map occurrence_view l.all.items
    ++ spec.occurrences (map file_view l.index) (declared_in (map file_view l.index) l.message)
    (joined (held_in (map occurrence_view (drop l.occurrence-index l.run))))
    ≡ map occurrence_view l.initial.all.items
    ++ spec.occurrences (map file_view l.index) (declared_in (map file_view l.index) l.message)
    (joined (held_in (map occurrence_view l.run))))
    × (map unknown_view l.unknown.items
    ++ spec.unknown_among (map file_view l.index) (declared_in (map file_view l.index) l.message)
    (joined (held_in (map occurrence_view (drop l.occurrence-index l.run))))
    ≡ spec.unknown_among (map file_view l.index) (declared_in (map file_view l.index) l.message)
    (joined (held_in (map occurrence_view l.run))))
