use Rattle.std.proofs.Common.{ℕ, refl, codes}
use Rattle.protobuf_parse_syntax.specs.Trees.{range_syntax}
use Rattle.protobuf_parse_source_info.specs.Walks.{one, nothing, ◌>>◌, if_next}
use Rattle.protobuf_parse_source_info.specs.Parts.{nth, next, range, ranges}
use Rattle.protobuf_parse_source_info.specs.InnerViews.{doing}
use Rattle.protobuf_parse_source_info.proofs.Steps.{takes_then, takes_nothing}
use Rattle.protobuf_parse_source_info.proofs.Bodies.{count_step, list_end}
use Rattle.protobuf_parse_source_info.proofs.walker.Walker.ranges.Goals as goal

pub items-preserved : goal.items-preserved
unfolding ranges
items-preserved c =
    let p = c.args.path.now in
    let n = c.args.number in
    count_step range_syntax (ranges p n)
    (λ (i : ℕ). range (nth p n i) >> if_next (codes ",") one nothing)
    next
    (λ i x xs. refl) c.args.ranges.now c.items._range-index c.items.index _ (doing c.items.self) _
    _ c.items-test.true c.next-index.ensures (takes_then c.in_ok-range.ensures c.take_if.ensures)
    c.items.invariant

pub returns : goal.returns
unfolding ranges
returns c =
    let p = c.args.path.now in
    let n = c.args.number in
    list_end range_syntax (ranges p n)
    (λ (i : ℕ) x. range (nth p n i) >> if_next (codes ",") one nothing)
    (λ (i : ℕ) x. next i) (λ i. refl)
    c.args.ranges.now c.items._range-index c.items.index c.args.first (doing c.items.self) _ _
    c.items-test.false (takes_nothing (doing c.items.self)) c.items.invariant
