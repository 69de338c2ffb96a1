-- Where the ranges of a message's numbers end in the set. A descriptor has 536870912 for the end of
-- `max`, behind the largest number that a field may have. The fields of a message set are not told
-- apart by tags, so there protoc takes `max` for the largest int32 ("message_set_wire_format" of
-- google/protobuf/descriptor.proto, and the comments of its ranges).
use Rattle.std.specs.Prelude.{ℤ, pos, Bool, true, false, List, map, option_and_then, unwrap_or}
use Rattle.std.specs.Prelude.{if◌then◌else◌}
use Rattle.std.specs.Ordering.{int_eq}
use Rattle.protobuf_parse_model.specs.Descriptors.{Range, MessageParts}
use Rattle.protobuf_parse_model.specs.Options.{MessageOptionValues}

-- whether a message has the wire format of message sets
abbrev pub is_message_set : MessageParts → Bool
is_message_set m =
    unwrap_or (option_and_then (λ (o : MessageOptionValues). o.message_set_wire_format) m.options)
    false

-- an end as the set has it, in a message set or in another message
abbrev pub end_in_set : (message_set : Bool) → ℤ → ℤ
end_in_set false end = end
end_in_set true end = if int_eq end (pos 536870912) then pos 2147483647 else end

-- a range as the set has it
abbrev pub range_in_set : (message_set : Bool) → Range → Range
range_in_set message_set r =
    record { start = r.start; end = end_in_set message_set r.end }

-- ranges of a message as the set has them
abbrev pub ranges_in_set : MessageParts → List Range → List Range
ranges_in_set m ranges = map (range_in_set (is_message_set m)) ranges
