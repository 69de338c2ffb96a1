use Rattle.std.proofs.Common.{◌≡◌, ◌++◌, map, take, flat_map}
use Rattle.std.specs.Prelude.{string_bytes}
use Rattle.protobuf_parse_model.specs.Descriptors.{message_view}
use Rattle.protobuf_parse_listing.specs.Listing.{message_lines}
use Rattle.protobuf_parse_listing.proofs.declarations.+message_lines.Given as goal

abbrev pub invariant-put_messages-loop-message : goal.invariant-put_messages-loop-message
invariant-put_messages-loop-message l =
    string_bytes l.text ≡ string_bytes l.fn.text
    ++ flat_map (message_lines l.level) (map message_view (take l.message-index l.messages))
