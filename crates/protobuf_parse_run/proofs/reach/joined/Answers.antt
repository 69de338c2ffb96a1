use Rattle.std.proofs.Common.{ℕ, List, Contains, nat_eq, sym, subst, ◌∙◌}
use Rattle.std.proofs.lemmas.List.Filters.{dedup_is}
use Rattle.std.proofs.lemmas.List.Kept.{Contains-dedup_nat, Contains-from_dedup}
use Rattle.std.proofs.lemmas.List.Sorted.{Contains-permutation, IsPermutation-sym}
use Rattle.std.proofs.lemmas.Map.Keys.{IsStrictlyIncreasing-dedup}
use Rattle.protobuf_parse_run.proofs.reach.joined.Goals as goal

pub returns : goal.returns
returns c =
    let is = c.shrink_to_fit.ensures.items ∙ dedup_is nat_eq _ _ c.dedup.ensures.filtered in
    record {
      ascending = rw is (IsStrictlyIncreasing-dedup _ c.in_ok-sort.ensures.sorted);
      all = λ n h.
          let there = Contains-permutation _ _ n c.sort.ensures.permutation
          (subst (λ (xs : List ℕ). Contains xs n) (sym c.in_ok-numbers.ensures) h) in
          rw is (Contains-dedup_nat _ n there);
      only = λ n h.
          let kept = subst (λ (xs : List ℕ). Contains xs n) is h in
          subst (λ (xs : List ℕ). Contains xs n) c.in_ok-numbers.ensures
          (Contains-permutation _ _ n
          (IsPermutation-sym _ _ c.sort.ensures.permutation)
          (Contains-from_dedup nat_eq _ n kept));
    }
