use Rattle.std.proofs.Common.{◌≡◌, ◌+◌, ◌*◌, map, Ok}
use Rattle.protobuf_parse_set_reader.specs.Bodies.{type_name_view}
use Rattle.protobuf_parse_set_reader.specs.Values.{all_of, numbered, part_in}
use Rattle.protobuf_parse_set_reader.specs.TypeNames.{message_names}
use Rattle.protobuf_parse_set_reader.proofs.Going.{first_ones}
use Rattle.protobuf_parse_set_reader.proofs.type_names.+message_names.Given as goal

abbrev pub decreases-message_names : goal.decreases-message_names
decreases-message_names l = 2 * l.levels

abbrev pub decreases-messages_names : goal.decreases-messages_names
decreases-messages_names l = 2 * l.levels + 1

abbrev pub invariant-messages_names-loop-record : goal.invariant-messages_names-loop-record
invariant-messages_names-loop-record l =
    all_of (part_in (message_names l.levels l.scope))
    (numbered l.number (first_ones l.record-items l.record-index))
    ≡ Ok (map type_name_view l.all.items)
