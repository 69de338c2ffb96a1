use Rattle.std.proofs.Common.{sym, ◌∙◌, ap}
use Rattle.protobuf_parse_source_info.specs.Walks.{one, dots}
use Rattle.protobuf_parse_source_info.specs.InnerViews.{doing, ran}
use Rattle.protobuf_parse_source_info.proofs.Runs.{dots_more, dots_end, two_fewer}
use Rattle.protobuf_parse_source_info.proofs.walker.Walker.take_dots.Goals as goal

pub dots-smaller : goal.dots-smaller
dots-smaller c =
    two_fewer _ (doing c.dots.self) (doing c.take.new.self) (doing c.take-in-dots.new.self)
    (sym c.dots-test.ensures) c.take.ensures c.take-in-dots.ensures

pub dots-preserved : goal.dots-preserved
dots-preserved c =
    ap (ran dots) (c.take-in-dots.ensures.is ∙ ap (ran one) c.take.ensures.is)
    ∙ dots_more (doing c.dots.self) (sym c.dots-test.ensures) ∙ c.dots.invariant

pub returns : goal.returns
returns c = record {
  is = dots_end (doing c.dots.self) (sym c.dots-test.ensures) ∙ c.dots.invariant;
}
