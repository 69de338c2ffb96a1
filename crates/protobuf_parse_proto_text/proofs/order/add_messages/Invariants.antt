use Rattle.std.proofs.Common.{◌≡◌, ◌++◌, ◌≤◌, map, max}
use Rattle.std.specs.Ordering.{nat_cmp}
use Rattle.std.specs.BTreeSet.{contains}
use Rattle.protobuf_parse_proto_text.specs.Order.{messages_between}
use Rattle.protobuf_parse_proto_text.specs.OrderViews.{part_view}
use Rattle.protobuf_parse_proto_text.proofs.order.add_messages.Given as goal

abbrev pub invariant-loop-at : goal.invariant-loop-at
invariant-loop-at l = record {
  parts : map part_view l.parts.items ≡ map part_view l.fn.parts.items
      ++ messages_between (contains nat_cmp l.made) l.fn.from l.at-counter;
  within : l.at-counter ≤ max l.fn.from l.fn.to;
}
