use Rattle.std.proofs.Common.{◌∙◌, ◌++◌, [], ◌∷◌, ap, length, sym, string_bytes}
use Rattle.protobuf_parse_model.specs.Descriptors.{oneof_view}
use Rattle.protobuf_parse_rules.specs.Oneofs.{oneof_breaches, without_fields}
use Rattle.protobuf_parse_rules.specs.BodyViews.{body_view}
use Rattle.protobuf_parse_rules.specs.Rules.{breaches_at, breaches_told}
use Rattle.protobuf_parse_rules.specs.Violations.{site_in}
use Rattle.protobuf_parse_rules.proofs.Claiming.{told_more}
use Rattle.protobuf_parse_rules.proofs.Marking.{positioned_more}
use Rattle.protobuf_parse_rules.proofs.oneofs.check_each.Goals as goal

pub oneofs-preserved : goal.oneofs-preserved
oneofs-preserved c = λ held marks.
    let oneofs = c.args.oneofs.now in
    let this = c.index-oneofs-position.result in
    let site = site_in (body_view c.args.body.now) (oneof_view this).name in
    let of = oneof_breaches c.args.body.now.file.now (string_bytes c.args.body.now.scope) held in
    told_more (breaches_told c.args.told.now) (breaches_told c.oneofs.told)
    (breaches_told c.check_one.new.told) _ _ (c.oneofs.invariant held marks)
    (c.in_ok-check_one.ensures
    ∙ ap (λ b. breaches_told c.oneofs.told ++ breaches_at site (without_fields b ∷ []))
    (c.is_marked.ensures held (length oneofs) marks c.oneofs-test.true))
    ∙ ap (λ bs. breaches_told c.args.told.now ++ bs)
    (sym (positioned_more of oneof_view oneofs c.oneofs.position this c.oneofs-test.true
    c.index-oneofs-position.is))
