use Rattle.std.proofs.Common.{◌≡◌, length}
use Rattle.protobuf_parse_source_info.specs.Walks.{dots}
use Rattle.protobuf_parse_source_info.specs.InnerViews.{doing, ran}
use Rattle.protobuf_parse_source_info.proofs.walker.Walker.take_dots.Given as goal

abbrev pub invariant-dots : goal.invariant-dots
invariant-dots l = ran dots (doing l.self) ≡ ran dots (doing l.initial.self)

abbrev pub decreases-dots : goal.decreases-dots
decreases-dots l = length (doing l.self).ahead.tokens
