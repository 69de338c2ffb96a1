use Rattle.std.proofs.Common.{◌≡◌, map, take}
use Rattle.protobuf_parse_proto_text.specs.Order.{made_positions}
use Rattle.protobuf_parse_proto_text.specs.OrderViews.{member_view}
use Rattle.protobuf_parse_proto_text.proofs.order.made_positions.Given as goal

abbrev pub invariant-members : goal.invariant-members
invariant-members l =
    l.made.items ≡ made_positions (map member_view (take l.member-index l.members))
