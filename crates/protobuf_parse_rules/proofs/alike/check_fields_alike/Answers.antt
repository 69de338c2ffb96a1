use Rattle.std.proofs.Common.{◌≡◌, ◌++◌, [], true, map, ap, sym, ◌∙◌, string_bytes}
use Rattle.std.specs.Prelude.{if◌then◌else◌}
use Rattle.protobuf_parse_rules.specs.Alike.{Spelled, field_alike_rule, spelled_claim}
use Rattle.protobuf_parse_rules.specs.Alike.{spelled_field}
use Rattle.protobuf_parse_rules.specs.Claims.{conflicts}
use Rattle.protobuf_parse_rules.specs.Keys.{text_key}
use Rattle.protobuf_parse_rules.specs.Bodies.{fields_of}
use Rattle.protobuf_parse_rules.specs.BodyViews.{content_view}
use Rattle.protobuf_parse_rules.specs.Rules.{breaches_told}
use Rattle.protobuf_parse_rules.proofs.Keying.{no_text_told}
use Rattle.protobuf_parse_rules.proofs.alike.check_fields_alike.Goals as goal

pub returns-then-are_apart : goal.returns-then-are_apart
returns-then-are_apart c =
    let body = c.args.body.now in
    let told = breaches_told c.args.told.now in
    let claim = spelled_claim body.file.now (string_bytes body.scope) in
    let spelled = map spelled_field (fields_of (content_view body.holds)) in
    let proto3 : body.proto3 ≡ true = c.if-not-body.false in
    no_text_told field_alike_rule told claim spelled c.in_ok-keys.keys.items
    (c.in_ok-keys.ensures
    ∙ ap (λ fs. map (λ (s : Spelled). text_key s.key) (map spelled_field fs)) c.fields.ensures)
    (c.are_apart.ensures c.if-are_apart.true)
    ∙ ap (λ b. told ++ (if b then conflicts field_alike_rule [] (map claim spelled) else []))
    (sym proto3)
