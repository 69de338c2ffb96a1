use Rattle.std.proofs.Common.{◌∙◌, Some, lit<, sym}
use Rattle.std.proofs.lemmas.Result.{IfOk-weaker}
use Rattle.protobuf_parse_base.proofs.TextCuts.{split_once-parts}
use Rattle.protobuf_parse_base.specs.Names.{fronts}
use Rattle.protobuf_parse_name_rules.specs.InnerViews.{is_meant, viewpoint_view}
use Rattle.protobuf_parse_name_rules.proofs.Parts.{a_dot, no_dot, with_parts, without_parts}
use Rattle.protobuf_parse_name_rules.proofs.names.is_resolved_inside.Goals as goal

pub returns-in-Some : goal.returns-in-Some
returns-in-Some c =
    let at = viewpoint_view c.args.at.now in
    let is = is_meant at.sight c.args.wanted in
    let name = c.args.name.now in
    let first = c.in-Some.first in
    let rest = c.in-Some.rest in
    let byte = c.in-Some.ensures.byte (lit< tt) (λ w o f. f) in
    let apart = split_once-parts 46 name (Some (first, rest)) c.in-Some.ensures.cases (lit< tt) in
    IfOk-weaker c.is_lost.result _ _
    (λ b e. with_parts at.sight is name first.now rest.now (fronts at.scope) b
    (sym c.is_absolute.ensures ∙ c.if-is_absolute.false) (a_dot name byte.2) byte.0 apart.0 e)
    c.is_lost.ensures

pub returns-in-None : goal.returns-in-None
returns-in-None c =
    let name = c.args.name.now in
    without_parts name _ (no_dot name (c.in-None.ensures.byte (lit< tt) (λ w o f. f)))
