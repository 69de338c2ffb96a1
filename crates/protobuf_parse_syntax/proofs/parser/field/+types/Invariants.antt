use Rattle.std.proofs.Common.{◌+◌, ◌*◌}
use Rattle.protobuf_parse_syntax.proofs.parser.field.+types.Given as goal

abbrev pub decreases-field_type : goal.decreases-field_type
decreases-field_type l = 3 * l.levels

abbrev pub decreases-map : goal.decreases-map
decreases-map l = 3 * l.levels + 1

abbrev pub decreases-type_of : goal.decreases-type_of
decreases-type_of l = 3 * l.levels + 2
