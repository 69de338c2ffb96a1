use Rattle.std.proofs.Common.{List, ℕ, ap, subst, sym, ◌∙◌, arith}
use Rattle.std.proofs.lemmas.Bool.Decides.{nat_tests}
use Rattle.std.specs.List.{filter}
use Rattle.protobuf_parse_rules.specs.Crowds.{HasTwice, is_crowded}
use Rattle.protobuf_parse_rules.proofs.Crowding.{crowd_has}
use Rattle.protobuf_parse_rules.proofs.crowds.crowd_of.Goals as goal

pub returns : goal.returns
returns c =
    let keys = c.args.keys.now in
    let spread = c.args.spread in
    let counts = c.in_ok-counts.counts.items in
    subst (λ (found : List ℕ). HasTwice keys found)
    (sym (c.in_ok-crowd.ensures
    ∙ ap (λ cs. filter (is_crowded spread cs) keys) c.deref.ensures.value))
    (crowd_has spread keys counts
    (grind (arith, nat_tests, c.in_ok-counts.ensures.len, c.if-slots-eq0.false))
    c.in_ok-counts.ensures.counted)
