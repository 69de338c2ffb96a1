use Rattle.std.proofs.Common.{◌≡◌, map, take}
use Rattle.protobuf_parse_index.specs.Kept.{field_at, own_fields}
use Rattle.protobuf_parse_index.specs.Views.{standing_message}
use Rattle.protobuf_parse_index.proofs.numbers.fields_of_each.Given as goal

abbrev pub invariant-messages : goal.invariant-messages
invariant-messages l = map field_at l.fields.items
    ≡ map own_fields (map standing_message (take l.message-index l.messages))
