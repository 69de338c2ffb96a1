use Rattle.std.proofs.Common.{List, ℕ, subst, ◌∙◌}
use Rattle.std.proofs.Math.Dec.{eqb}
use Rattle.std.specs.List.{IsDistinct}
use Rattle.protobuf_parse_rules.specs.Crowds.{HasTwice}
use Rattle.protobuf_parse_rules.proofs.Crowding.{has_more, has_none}
use Rattle.protobuf_parse_rules.proofs.crowds.twice_among.Goals as goal

pub returns-then-are_apart : goal.returns-then-are_apart
returns-then-are_apart c =
    let keys = c.args.keys.now in
    let crowded : List ℕ = c.in_ok-crowded.crowded.items in
    let still : List ℕ = c.in_ok-still_crowded.still_crowded.items in
    let found : List ℕ = c.in_ok-found.found.items in
    let first : HasTwice keys still = has_more keys crowded still c.in_ok-crowded.ensures
    (subst (λ (ks : List ℕ). HasTwice ks still) c.deref.ensures.value
    c.in_ok-still_crowded.ensures) in
    let second : HasTwice keys found = has_more keys still found first
    (subst (λ (ks : List ℕ). HasTwice ks found) c.deref-2.ensures.value c.in_ok-found.ensures) in
    has_none keys found _ second
    (subst (λ (ks : List ℕ). IsDistinct eqb ks)
    (c.in_ok-from_slice.ensures.items ∙ c.deref-3.ensures.value)
    (c.are_apart.ensures c.if-are_apart.true))

pub returns : goal.returns
returns c =
    let keys = c.args.keys.now in
    let crowded : List ℕ = c.in_ok-crowded.crowded.items in
    let still : List ℕ = c.in_ok-still_crowded.still_crowded.items in
    let found : List ℕ = c.in_ok-found.found.items in
    let first : HasTwice keys still = has_more keys crowded still c.in_ok-crowded.ensures
    (subst (λ (ks : List ℕ). HasTwice ks still) c.deref.ensures.value
    c.in_ok-still_crowded.ensures) in
    has_more keys still found first
    (subst (λ (ks : List ℕ). HasTwice ks found) c.deref-2.ensures.value c.in_ok-found.ensures)
