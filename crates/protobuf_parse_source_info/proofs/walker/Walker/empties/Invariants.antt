use Rattle.std.proofs.Common.{◌≡◌, length}
use Rattle.protobuf_parse_source_info.specs.Walks.{empties}
use Rattle.protobuf_parse_source_info.specs.InnerViews.{doing, ran}
use Rattle.protobuf_parse_source_info.proofs.walker.Walker.empties.Given as goal

abbrev pub invariant-empties : goal.invariant-empties
invariant-empties l = ran empties (doing l.self) ≡ ran empties (doing l.initial.self)

abbrev pub decreases-empties : goal.decreases-empties
decreases-empties l = length (doing l.self).ahead.tokens
