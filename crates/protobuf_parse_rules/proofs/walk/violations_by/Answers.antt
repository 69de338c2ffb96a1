use Rattle.std.proofs.Common.{◌≡◌, [], List, ℕ, map, ap, sym, ◌∙◌, arith}
use Rattle.std.proofs.lemmas.Bool.Decides.{nat_tests}
use Rattle.std.proofs.lemmas.List.{nil_from_length}
use Rattle.std.proofs.lemmas.Result.{IfOk-weaker}
use Rattle.protobuf_parse_rules.specs.BodyViews.{body_view}
use Rattle.protobuf_parse_rules.specs.Wanted.{has_key}
use Rattle.protobuf_parse_rules.proofs.WantedNumbers.{inside_only}
use Rattle.protobuf_parse_rules.proofs.walk.violations_by.Goals as goal

pub returns-then-is_empty : goal.returns-then-is_empty
returns-then-is_empty c =
    let ps = map body_view c.args.bodies.now in
    let keys : List ℕ = c.in_ok-wanted.wanted.sorted.items in
    let none : keys ≡ [] =
    nil_from_length _ (grind (arith, nat_tests, c.is_empty.ensures, c.if-is_empty.true)) in
    IfOk-weaker c.violations_inside.result _ _
    (λ v told all knows. told all knows
    ∙ sym (inside_only keys all ps (λ k. ap (λ (ks : List ℕ). has_key ks k) none))
    ∙ c.in_ok-wanted.ensures all)
    c.violations_inside.ensures

pub returns : goal.returns
returns c =
    IfOk-weaker c.violations_in.result _ _
    (λ v told all knows. told all knows ∙ c.in_ok-wanted.ensures all)
    c.violations_in.ensures
