use Rattle.protobuf_parse_rules.proofs.Covering.{still_apart, still_ends}
use Rattle.protobuf_parse_rules.proofs.cover.Cover.of.Goals as goal

pub invariant_of-result-clause-apart : goal.invariant_of-result-clause-apart
invariant_of-result-clause-apart c =
    still_apart _ _ _ _ c.sort_unstable.ensures.permutation c.sort_unstable-2.ensures.permutation
    c.requires

pub returns : goal.returns
returns c = λ has ranges are.
    still_ends has ranges _ _ _ _ c.sort_unstable.ensures.permutation
    c.sort_unstable-2.ensures.permutation are
