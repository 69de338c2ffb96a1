use Rattle.std.proofs.Common.{◌≡◌, [], List, ℕ, map, ap, sym, ◌∙◌, subst, arith}
use Rattle.std.specs.List.{flat_map}
use Rattle.std.proofs.lemmas.Bool.Decides.{nat_tests}
use Rattle.std.proofs.lemmas.List.{nil_from_length}
use Rattle.protobuf_parse_rules.specs.Ascending.{message_scopes}
use Rattle.protobuf_parse_rules.specs.BodyViews.{body_view}
use Rattle.protobuf_parse_rules.specs.Crowds.{HasTwice}
use Rattle.protobuf_parse_rules.specs.Keys.{text_key}
use Rattle.protobuf_parse_rules.specs.Wanted.{has_key}
use Rattle.protobuf_parse_rules.proofs.Crowding.{distinct, once_of}
use Rattle.protobuf_parse_rules.proofs.Rising.{rising_apart}
use Rattle.protobuf_parse_rules.proofs.WantedNumbers.{none_enough}
use Rattle.protobuf_parse_rules.proofs.number_keys.doubled_numbers.Goals as goal

pub returns-then-is_empty : goal.returns-then-is_empty
returns-then-is_empty c =
    let ps = map body_view c.args.bodies.now in
    let keys : List ℕ = map text_key (flat_map message_scopes ps) in
    let found : List ℕ = c.in_ok-doubled.doubled.items in
    let none : found ≡ [] =
    nil_from_length _ (grind (arith, nat_tests, c.is_empty.ensures, c.if-is_empty.true)) in
    let twice : HasTwice keys found = subst (λ (ks : List ℕ). HasTwice ks found)
    (c.deref.ensures.value ∙ c.in_ok-keys.ensures) c.in_ok-doubled.ensures in
    let absent = λ (k : ℕ). ap (λ (ks : List ℕ). has_key ks k) none in
    none_enough c.of.result.sorted.items ps (λ k. c.of.ensures k ∙ absent k)
    (rising_apart ps (sym c.are_any_mixed.ensures ∙ c.if-are_any_mixed.false)
    (distinct keys (λ k. once_of keys found twice k (absent k))))
