use Rattle.std.proofs.Common.{◌+◌, ◌*◌, ◌-◌, ◌≤◌, ◌^◌, length, drop, map}
use Rattle.protobuf_parse_model.specs.Descriptors.{file_view}
use Rattle.protobuf_parse_merged.specs.Declarations.{declared_in}
use Rattle.protobuf_parse_merged.specs.Merging as spec
use Rattle.protobuf_parse_merged.specs.Merging.{merged_within}
use Rattle.protobuf_parse_merged.specs.Inside.{field_view, held_in, occurrence_view, value_view}
use Rattle.protobuf_parse_merged.proofs.Values.{ToValue}
use Rattle.protobuf_parse_merged.proofs.Grouping.{ToGroup}
use Rattle.protobuf_parse_merged.proofs.merging.+message.Given as goal

abbrev pub decreases-message_of : goal.decreases-message_of
decreases-message_of l = 8 * l.levels

abbrev pub decreases-all_as_one : goal.decreases-all_as_one
decreases-all_as_one l = 8 * l.levels

abbrev pub decreases-value_of : goal.decreases-value_of
decreases-value_of l = 8 * l.levels + 1

abbrev pub decreases-last_value : goal.decreases-last_value
decreases-last_value l = 8 * l.levels + 1

abbrev pub decreases-each_value : goal.decreases-each_value
decreases-each_value l = 8 * l.levels + 2

abbrev pub decreases-all_values : goal.decreases-all_values
decreases-all_values l = 8 * l.levels + 3

abbrev pub decreases-values_of : goal.decreases-values_of
decreases-values_of l = 8 * l.levels + 4

abbrev pub decreases-fields_of : goal.decreases-fields_of
decreases-fields_of l = 8 * l.levels + 5

abbrev pub decreases-message_told : goal.decreases-message_told
decreases-message_told l = 8 * l.levels + 6

abbrev pub invariant-each_value-run : goal.invariant-each_value-run
invariant-each_value-run l =
    ToValue (merged_within (map file_view l.index) l.levels) l.name
    (map value_view l.values.items)
    (held_in (map occurrence_view (drop l.occurrence-index l.run)))
    (spec.each_value (merged_within (map file_view l.index) l.levels) l.name
    (held_in (map occurrence_view l.run)))

abbrev pub invariant-fields_of-runs : goal.invariant-fields_of-runs
invariant-fields_of-runs l =
    (l.start ≤ length l.occurrences)
    × ToGroup (merged_within (map file_view l.index) l.levels)
    (declared_in (map file_view l.index) l.message) (map occurrence_view l.occurrences)
    (2 ^ 32) (map field_view l.fields.items) (map occurrence_view (drop l.start l.occurrences))

abbrev pub decreases-fields_of-runs : goal.decreases-fields_of-runs
decreases-fields_of-runs l = length l.occurrences - l.start
