use Rattle.std.proofs.Common.{List, ℕ, ◌+◌, take, sym, subst, ◌∙◌, ap, length}
use Rattle.std.proofs.lemmas.List.{take_more}
use Rattle.protobuf_parse_rules.specs.Crowds.{Counts}
use Rattle.protobuf_parse_rules.proofs.Crowding.{written_back}
use Rattle.protobuf_parse_rules.proofs.crowds.counts_of.Goals as goal

pub keys-preserved : goal.keys-preserved
keys-preserved c =
    let keys = c.args.keys.now in
    let spread = c.args.spread in
    let i = c.keys.key-index in
    let items = c.keys.counts.items in
    let new = c.count.new.counts in
    let len = c.count.ensures.len ∙ ap length c.deref_mut.ensures.value in
    let back = written_back items new c.keys.counts.len len
    (sym c.deref_mut.ensures.len ∙ ap length c.deref_mut.ensures.value) in
    record {
      len = ap length back ∙ len ∙ c.keys.invariant.len;
      counted =
          subst (λ (xs : List ℕ). Counts spread (take (i + 1) keys) xs) (sym back)
          (subst (λ (ks : List ℕ). Counts spread ks new)
          (sym (take_more keys i 0 c.keys-test.true))
          (c.count.ensures.counted (take i keys)
          (subst (λ (xs : List ℕ). Counts spread (take i keys) xs)
          (sym c.deref_mut.ensures.value) c.keys.invariant.counted)));
    }
