use Rattle.std.proofs.Common.{List, ℕ, map, ap, sym, ◌∙◌, subst}
use Rattle.std.specs.List.{flat_map}
use Rattle.protobuf_parse_rules.specs.BodyViews.{body_view}
use Rattle.protobuf_parse_rules.specs.Crowds.{HasTwice}
use Rattle.protobuf_parse_rules.specs.Keys.{claim_key}
use Rattle.protobuf_parse_rules.specs.Numbers.{claims}
use Rattle.protobuf_parse_rules.proofs.Crowding.{once_of}
use Rattle.protobuf_parse_rules.proofs.Lists.{mapped_all}
use Rattle.protobuf_parse_rules.proofs.WantedNumbers.{enough}
use Rattle.protobuf_parse_rules.proofs.number_keys.doubled_claims.Goals as goal

pub returns : goal.returns
returns c =
    let ps = map body_view c.args.bodies.now in
    let keys : List ℕ = map claim_key (flat_map claims ps) in
    let found : List ℕ = c.in_ok-found.found.items in
    let twice : HasTwice keys found = subst (λ (ks : List ℕ). HasTwice ks found)
    (c.deref.ensures.value
    ∙ c.bodies.invariant
    ∙ ap (λ qs. map claim_key (flat_map claims qs))
    (mapped_all body_view c.args.bodies.now c.bodies.body-index c.bodies-test.false))
    c.in_ok-found.ensures in
    enough c.of.result.sorted.items ps
    (λ k e. once_of keys found twice k (sym (c.of.ensures k) ∙ e))
