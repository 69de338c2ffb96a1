use Rattle.std.proofs.Common.{◌∙◌, ◌++◌, Bool, ℕ, ℤ, List, ap, length, map, subst, sym}
use Rattle.std.proofs.Common.{string_bytes}
use Rattle.std.proofs.lemmas.Result.{on_ok_weaker}
use Rattle.protobuf_parse_rules.specs.Imports.{import_breaches}
use Rattle.protobuf_parse_rules.specs.Marks.{Marks}
use Rattle.protobuf_parse_rules.specs.BodyViews.{body_view}
use Rattle.protobuf_parse_rules.specs.Positions.{by_position}
use Rattle.protobuf_parse_rules.specs.Rules.{breaches_told}
use Rattle.protobuf_parse_rules.specs.Violations.{site_of_body}
use Rattle.protobuf_parse_rules.proofs.imports.check_file.Goals as goal

pub returns : goal.returns
returns c =
    let positions = c.args.file.now.public_dependency.items in
    let marks = c.in_ok-publics.publics in
    let site = site_of_body (body_view c.args.body.now) in
    let are : Marks positions (length c.deref-3.result.now) c.deref-2.result.now =
    subst (λ (bs : List Bool). Marks positions (length c.deref-3.result.now) bs)
    (sym c.deref-2.ensures.value)
    (subst (λ (n : ℕ). Marks positions n marks.items)
    (c.len.ensures ∙ c.args.file.now.dependency.ok.0
    ∙ ap length (sym c.deref-3.ensures.value))
    (subst (λ (ns : List ℤ). Marks ns c.len.result marks.items) c.deref.ensures.value
    c.in_ok-publics.ensures)) in
    on_ok_weaker c.check_each.result
    (λ each all knows. each all positions knows are
    ∙ ap (λ ps. breaches_told c.args.told.now
    ++ by_position (import_breaches all site positions) 0 (map string_bytes ps))
    c.deref-3.ensures.value)
    c.check_each.ensures
