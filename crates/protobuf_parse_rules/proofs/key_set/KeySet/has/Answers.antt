use Rattle.std.proofs.Common.{◌∙◌, ap, sym, subst, IsSorted, List, ℕ}
use Rattle.std.specs.Ordering.{nat_cmp}
use Rattle.protobuf_parse_rules.specs.Wanted.{has_key}
use Rattle.protobuf_parse_rules.proofs.Searching.{searched_number}
use Rattle.protobuf_parse_rules.proofs.key_set.KeySet.has.Goals as goal

pub returns : goal.returns
returns c =
    let keys : List ℕ = c.deref.result.now in
    let up : IsSorted nat_cmp keys = subst (λ (l : List ℕ). IsSorted nat_cmp l)
    (sym c.deref.ensures.value) c.args.self.now.rises in
    c.is_ok.ensures.value
    ∙ searched_number keys c.args.key c.binary_search.result up c.binary_search.ensures.bound
    c.binary_search.ensures.position
    ∙ ap (λ (l : List ℕ). has_key l c.args.key) c.deref.ensures.value
