use Rattle.std.proofs.Common.{◌≡◌, ◌+◌, ◌*◌, map, Ok}
use Rattle.protobuf_parse_model.specs.Descriptors.{message_view}
use Rattle.protobuf_parse_set_reader.specs.Bodies.{types_view}
use Rattle.protobuf_parse_set_reader.specs.Values.{all_of, alone, numbered, part_in}
use Rattle.protobuf_parse_set_reader.specs.Reading.{message_of}
use Rattle.protobuf_parse_set_reader.proofs.Going.{first_ones}
use Rattle.protobuf_parse_set_reader.proofs.messages.+message.Given as goal

abbrev pub decreases-message : goal.decreases-message
decreases-message l = 2 * l.levels

abbrev pub decreases-messages : goal.decreases-messages
decreases-messages l = 2 * l.levels + 1

abbrev pub invariant-messages-loop-record : goal.invariant-messages-loop-record
invariant-messages-loop-record l =
    all_of (alone (part_in (message_of (types_view l.types) l.levels)))
    (numbered l.number (first_ones l.record-items l.record-index))
    ≡ Ok (map message_view l.all.items)
