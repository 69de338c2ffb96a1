use Rattle.std.proofs.Common.{◌≡◌, ◌++◌, List, ℕ, ap, sym, ◌∙◌, ◌||◌, true, false}
use Rattle.std.specs.List.{list_any}
use Rattle.std.proofs.lemmas.Result.{IfOk-weaker}
use Rattle.protobuf_parse_rules.specs.Bodies.{BodyParts}
use Rattle.protobuf_parse_rules.specs.BodyViews.{body_view}
use Rattle.protobuf_parse_rules.specs.Keys.{other_keys, packages_at}
use Rattle.protobuf_parse_rules.specs.Wanted.{has_key, is_wanted}
use Rattle.protobuf_parse_rules.proofs.WantedNames.{any_wanted}
use Rattle.protobuf_parse_rules.proofs.wanted_names.has_wanted.Goals as goal

pub returns-then-has_any : goal.returns-then-has_any
returns-then-has_any c =
    let keys : List ℕ = c.args.wanted.now.sorted.items in
    let p : BodyParts = body_view c.args.body.now in
    let there : true ≡ list_any (has_key keys) (other_keys p) =
    sym c.if-has_any.true ∙ c.has_any.ensures
    ∙ ap (list_any (has_key keys)) (c.deref.ensures.value ∙ c.in_ok-add_keys.ensures
    ∙ ap (λ ks. ks ++ other_keys p) c.clear.ensures.items) in
    ap (λ b. b || list_any (is_wanted keys) (packages_at p)) there ∙ sym (any_wanted keys p)

pub returns : goal.returns
returns c =
    let keys : List ℕ = c.args.wanted.now.sorted.items in
    let p : BodyParts = body_view c.args.body.now in
    let none : false ≡ list_any (has_key keys) (other_keys p) =
    sym c.if-has_any.false ∙ c.has_any.ensures
    ∙ ap (list_any (has_key keys)) (c.deref.ensures.value ∙ c.in_ok-add_keys.ensures
    ∙ ap (λ ks. ks ++ other_keys p) c.clear.ensures.items) in
    IfOk-weaker c.has_wanted_package.result _ _
    (λ has is. is ∙ ap (λ b. b || list_any (is_wanted keys) (packages_at p)) none
    ∙ sym (any_wanted keys p))
    c.has_wanted_package.ensures
