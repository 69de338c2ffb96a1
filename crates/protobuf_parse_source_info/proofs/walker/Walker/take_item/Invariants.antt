use Rattle.std.proofs.Common.{◌≡◌, ◌+◌, ◌<◌, ◌^◌, length}
use Rattle.protobuf_parse_source_info.specs.Walks.{up_to_end, up_to_end_in}
use Rattle.protobuf_parse_source_info.specs.InnerViews.{doing, ran}
use Rattle.protobuf_parse_source_info.proofs.walker.Walker.take_item.Given as goal

abbrev pub invariant-tokens : goal.invariant-tokens
invariant-tokens l =
    (ran (up_to_end_in l.depth) (doing l.self) ≡ ran up_to_end (doing l.initial.self))
    × (l.depth + length (doing l.self).ahead.tokens < 2 ^ 64)

abbrev pub decreases-tokens : goal.decreases-tokens
decreases-tokens l = length (doing l.self).ahead.tokens
