use Rattle.std.proofs.Common.{◌∙◌, Bool, List, ap, map, subst, sym}
use Rattle.std.specs.Prelude.{if◌then◌else◌}
use Rattle.std.proofs.lemmas.Result.{IfOk-weaker}
use Rattle.protobuf_parse_model.specs.Descriptors.{Range}
use Rattle.protobuf_parse_rules.specs.Bodies.{extension_ranges}
use Rattle.protobuf_parse_rules.specs.BodyViews.{content_view}
use Rattle.protobuf_parse_rules.specs.Covers.{AreEnds}
use Rattle.protobuf_parse_rules.specs.Ranges.{in_range, range_of_set}
use Rattle.protobuf_parse_rules.proofs.ranges.extension_cover.Goals as goal

pub returns-then-is_message_set : goal.returns-then-is_message_set
returns-then-is_message_set c =
    let kept = extension_ranges (content_view c.args.holds) in
    let pick : Bool → List Range = λ b. if b then map range_of_set kept else kept in
    IfOk-weaker c.set_cover.result _ _
    (λ v ends. subst (λ (rs : List Range). AreEnds in_range rs v.firsts.items v.lasts.items)
    (ap (map range_of_set) c.extension_ranges.ensures
    ∙ ap pick (sym c.if-is_message_set.true ∙ c.is_message_set.ensures)) ends)
    c.set_cover.ensures

pub returns-else-is_message_set : goal.returns-else-is_message_set
returns-else-is_message_set c =
    let kept = extension_ranges (content_view c.args.holds) in
    let pick : Bool → List Range = λ b. if b then map range_of_set kept else kept in
    IfOk-weaker c.kept_cover.result _ _
    (λ v ends. subst (λ (rs : List Range). AreEnds in_range rs v.firsts.items v.lasts.items)
    (c.extension_ranges-else-is_message_set.ensures
    ∙ ap pick (sym c.if-is_message_set.false ∙ c.is_message_set.ensures)) ends)
    c.kept_cover.ensures
