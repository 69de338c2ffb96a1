use Rattle.std.proofs.Common.{◌≡◌, ℕ, take}
use Rattle.std.specs.Ordering.{nat_cmp}
use Rattle.std.specs.BTreeSet.{contains}
use Rattle.protobuf_parse_proto_text.specs.Order.{stands_among}
use Rattle.protobuf_parse_proto_text.proofs.order.set_of.Given as goal

abbrev pub invariant-loop-at : goal.invariant-loop-at
invariant-loop-at l = (k : ℕ)
    → contains nat_cmp l.set k ≡ stands_among (take l.at-index l.made) k
