-- The path at hand is its own longest front, and its parent has the others.
use Rattle.std.proofs.Common.{◌≡◌, ◌++◌, map, sym, ap, ◌∙◌}
use Rattle.protobuf_parse_base.specs.Names.{fronts}
use Rattle.protobuf_parse_base.specs.NameViews.{abs_ref_idents}
use Rattle.protobuf_parse_base.proofs.Fronts.{fronts_of, fronts-step, fronts_more}
use Rattle.protobuf_parse_base.proofs.names.absolute.ProtobufAbsPathRef.self_and_parents.Goals as goal

pub loop-next-preserved : goal.loop-next-preserved
loop-next-preserved c =
    let before : map abs_ref_idents c.loop-next.paths.items
    ++ fronts (abs_ref_idents c.in-Some.path) ≡ fronts (abs_ref_idents c.args.self) =
    ap (λ next. map abs_ref_idents c.loop-next.paths.items ++ fronts_of abs_ref_idents next)
    (sym c.in-Some.is) ∙ c.loop-next.invariant in
    ap (λ items. map abs_ref_idents items ++ fronts_of abs_ref_idents c.parent-next.result)
    c.in_ok-push.ensures.items
    ∙ fronts_more abs_ref_idents c.loop-next.paths.items c.in-Some.path c.parent-next.result _
    before
    (fronts-step abs_ref_idents c.in-Some.path c.parent-next.result c.parent-next.ensures)
