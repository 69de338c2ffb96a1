use Rattle.std.proofs.Common.{◌≡◌, ◌++◌, ◌≤◌, drop, map}
use Rattle.std.specs.Ordering.{nat_cmp}
use Rattle.std.specs.BTreeSet.{contains}
use Rattle.protobuf_parse_proto_text.specs.Order.{alone, made_positions, parts_from}
use Rattle.protobuf_parse_proto_text.specs.OrderViews.{block_view, member_view, part_view}
use Rattle.protobuf_parse_proto_text.proofs.order.parts_of.Given as goal

-- the parts so far and those that are left are all of them
abbrev pub invariant-members : goal.invariant-members
invariant-members l = record {
  parts : parts_from (contains nat_cmp l.made_set) l.fn.count alone 0 (map member_view l.members)
      ≡ map part_view l.parts.items
      ++ parts_from (contains nat_cmp l.made_set) l.fn.count (block_view l.current) l.from
      (map member_view (drop l.member-index l.members));
  made : drop l.passed l.made.items
      ≡ made_positions (map member_view (drop l.member-index l.members));
  passed : l.passed ≤ l.member-index;
}
