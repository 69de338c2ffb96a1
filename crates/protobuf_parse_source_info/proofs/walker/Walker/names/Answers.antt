use Rattle.std.proofs.Common.{ℕ, refl, codes}
use Rattle.std.specs.String.{string_bytes}
use Rattle.protobuf_parse_source_info.specs.Walks.{one, nothing, ◌>>◌, part, if_next, up_to_end}
use Rattle.protobuf_parse_source_info.specs.Parts.{nth, next, names}
use Rattle.protobuf_parse_source_info.specs.InnerViews.{doing}
use Rattle.protobuf_parse_source_info.proofs.Steps.{takes_then, takes_nothing}
use Rattle.protobuf_parse_source_info.proofs.Bodies.{count_step, list_end}
use Rattle.protobuf_parse_source_info.proofs.walker.Walker.names.Goals as goal

pub items-preserved : goal.items-preserved
unfolding names
items-preserved c =
    let p = c.args.path.now in
    let n = c.args.number in
    count_step string_bytes (names p n)
    (λ (i : ℕ). part (nth p n i) up_to_end >> if_next (codes ",") one nothing)
    next
    (λ i x xs. refl) c.args.names.now c.items._name-index c.items.index _ (doing c.items.self) _
    _ c.items-test.true c.next-index.ensures
    (takes_then c.in_ok-reserved_name.ensures c.take_if.ensures)
    c.items.invariant

pub returns : goal.returns
unfolding names
returns c =
    let p = c.args.path.now in
    let n = c.args.number in
    list_end string_bytes (names p n)
    (λ (i : ℕ) x. part (nth p n i) up_to_end >> if_next (codes ",") one nothing)
    (λ (i : ℕ) x. next i) (λ i. refl)
    c.args.names.now c.items._name-index c.items.index c.args.first (doing c.items.self) _ _
    c.items-test.false (takes_nothing (doing c.items.self)) c.items.invariant
