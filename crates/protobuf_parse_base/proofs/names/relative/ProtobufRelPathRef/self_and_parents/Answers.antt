-- The path at hand is its own longest front, and its parent has the others.
use Rattle.std.proofs.Common.{◌≡◌, ◌++◌, map, sym, ap, ◌∙◌}
use Rattle.protobuf_parse_base.specs.Names.{fronts}
use Rattle.protobuf_parse_base.specs.NameViews.{rel_ref_idents}
use Rattle.protobuf_parse_base.proofs.Fronts.{fronts_of, fronts-step, fronts_more}
use Rattle.protobuf_parse_base.proofs.names.relative.ProtobufRelPathRef.self_and_parents.Goals as goal

pub loop-next-preserved : goal.loop-next-preserved
loop-next-preserved c =
    let before : map rel_ref_idents c.loop-next.paths.items
    ++ fronts (rel_ref_idents c.in-Some.path) ≡ fronts (rel_ref_idents c.args.self) =
    ap (λ next. map rel_ref_idents c.loop-next.paths.items ++ fronts_of rel_ref_idents next)
    (sym c.in-Some.is) ∙ c.loop-next.invariant in
    ap (λ items. map rel_ref_idents items ++ fronts_of rel_ref_idents c.parent-next.result)
    c.in_ok-push.ensures.items
    ∙ fronts_more rel_ref_idents c.loop-next.paths.items c.in-Some.path c.parent-next.result _
    before
    (fronts-step rel_ref_idents c.in-Some.path c.parent-next.result c.parent-next.ensures)
