use Rattle.std.proofs.Common.{ℕ, refl}
use Rattle.protobuf_parse_syntax.specs.Trees.{option_syntax}
use Rattle.protobuf_parse_source_info.specs.Walks.{one, ◌>>◌}
use Rattle.protobuf_parse_source_info.specs.Parts.{items, item}
use Rattle.protobuf_parse_source_info.specs.InnerViews.{doing}
use Rattle.protobuf_parse_source_info.proofs.Steps.{takes_then, takes_nothing}
use Rattle.protobuf_parse_source_info.proofs.Bodies.{list_step, list_end}
use Rattle.protobuf_parse_source_info.proofs.walker.Walker.items.Goals as goal

pub items-preserved : goal.items-preserved
unfolding items
items-preserved c =
    let p = c.args.path.now in
    let f = c.args.is_field in
    list_step option_syntax (λ (k : ℕ). items p f) (λ k o. item p f o >> one) (λ k o. k)
    (λ k o os. refl) c.args.options.now c.items.option-index c.option-item.result 0 0
    (doing c.items.self) _ _ c.items-test.true c.option-item.is refl
    (takes_then c.in_ok-item.ensures c.take.ensures) c.items.invariant

pub returns : goal.returns
unfolding items
returns c =
    let p = c.args.path.now in
    let f = c.args.is_field in
    list_end option_syntax (λ (k : ℕ). items p f) (λ k o. item p f o >> one) (λ k o. k) (λ k. refl)
    c.args.options.now c.items.option-index 0 0 (doing c.items.self) _ _ c.items-test.false
    (takes_nothing (doing c.items.self)) c.items.invariant
