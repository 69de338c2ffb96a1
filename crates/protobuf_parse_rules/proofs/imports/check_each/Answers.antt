use Rattle.std.proofs.Common.{◌∙◌, ◌++◌, [], ◌∷◌, Bool, List, ap, length, sym, string_bytes}
use Rattle.protobuf_parse_model.specs.Descriptors.{Text}
use Rattle.protobuf_parse_rules.specs.Imports.{import_breaches, unused_import}
use Rattle.protobuf_parse_rules.specs.BodyViews.{body_view}
use Rattle.protobuf_parse_rules.specs.Rules.{Breach, breaches_at, breaches_told}
use Rattle.protobuf_parse_rules.specs.Violations.{site_of_body}
use Rattle.protobuf_parse_rules.proofs.Claiming.{told_more}
use Rattle.protobuf_parse_rules.proofs.Marking.{positioned_more}
use Rattle.protobuf_parse_rules.proofs.imports.check_each.Goals as goal

pub imports-preserved : goal.imports-preserved
imports-preserved c = λ all positions knows marks.
    let paths = c.args.paths.now in
    let this = c.index-paths-position.result in
    let site = site_of_body (body_view c.args.body.now) in
    let of : Bool → Text → List Breach = λ handed_on path.
    breaches_at site (unused_import all c.args.body.now.file.now handed_on path ∷ []) in
    told_more (breaches_told c.args.told.now) (breaches_told c.imports.told)
    (breaches_told c.check_one.new.told) _ _ (c.imports.invariant all positions knows marks)
    (c.in_ok-check_one.ensures all knows
    ∙ ap (λ path. breaches_told c.imports.told ++ of c.is_marked.result path) c.deref.ensures
    ∙ ap (λ b. breaches_told c.imports.told ++ of b (string_bytes this))
    (c.is_marked.ensures positions (length paths) marks c.imports-test.true))
    ∙ ap (λ bs. breaches_told c.args.told.now ++ bs)
    (sym (positioned_more (import_breaches all site positions) string_bytes paths c.imports.position
    this c.imports-test.true c.index-paths-position.is))
