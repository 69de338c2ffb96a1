use Rattle.std.proofs.Common.{sym}
use Rattle.std.specs.Prelude.{nat_eq}
use Rattle.std.proofs.lemmas.List.Sorted.{list_any-IsPermutation}
use Rattle.protobuf_parse_rules.proofs.key_set.KeySet.of.Goals as goal

pub returns : goal.returns
returns c = λ k. sym (list_any-IsPermutation (nat_eq k) _ _ c.sort_unstable.ensures.permutation)
