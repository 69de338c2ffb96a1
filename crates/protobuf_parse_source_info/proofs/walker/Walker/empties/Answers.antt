use Rattle.std.proofs.Common.{sym, ◌∙◌, ap}
use Rattle.protobuf_parse_source_info.specs.Walks.{empties}
use Rattle.protobuf_parse_source_info.specs.InnerViews.{doing, ran}
use Rattle.protobuf_parse_source_info.proofs.Runs.{empties_more, empties_end, empty_fewer}
use Rattle.protobuf_parse_source_info.proofs.walker.Walker.empties.Goals as goal

pub empties-smaller : goal.empties-smaller
empties-smaller c =
    empty_fewer (doing c.empties.self) (doing c.take_empty.new.self)
    (sym c.empties-test.ensures) c.in_ok-take_empty.ensures

pub empties-preserved : goal.empties-preserved
empties-preserved c =
    ap (ran empties) c.in_ok-take_empty.ensures.is
    ∙ empties_more (doing c.empties.self) (sym c.empties-test.ensures) ∙ c.empties.invariant

pub returns : goal.returns
returns c = record {
  is = empties_end (doing c.empties.self) (sym c.empties-test.ensures) ∙ c.empties.invariant;
}
