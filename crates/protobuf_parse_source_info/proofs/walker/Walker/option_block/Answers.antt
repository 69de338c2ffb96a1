use Rattle.std.proofs.Common.{ℕ, refl}
use Rattle.protobuf_parse_syntax.specs.Trees.{option_statement_syntax}
use Rattle.protobuf_parse_source_info.specs.Walks.{empties, ◌>>◌}
use Rattle.protobuf_parse_source_info.specs.Parts.{at, option_block, option_statement}
use Rattle.protobuf_parse_source_info.specs.InnerViews.{doing}
use Rattle.protobuf_parse_source_info.proofs.Steps.{takes_then}
use Rattle.protobuf_parse_source_info.proofs.Bodies.{list_step, list_end}
use Rattle.protobuf_parse_source_info.proofs.walker.Walker.option_block.Goals as goal

pub items-preserved : goal.items-preserved
unfolding option_block
items-preserved c =
    let p = at c.args.path.now c.args.number in
    list_step option_statement_syntax (λ (k : ℕ). option_block p)
    (λ k o. empties >> option_statement p o) (λ k o. k) (λ k o os. refl) c.args.options.now
    c.items.option-index c.option-item.result 0 0 (doing c.items.self) _ _ c.items-test.true
    c.option-item.is refl (takes_then c.in_ok-empties.ensures c.in_ok-option.ensures)
    c.items.invariant

pub returns : goal.returns
unfolding option_block
returns c =
    let p = at c.args.path.now c.args.number in
    list_end option_statement_syntax (λ (k : ℕ). option_block p)
    (λ k o. empties >> option_statement p o) (λ k o. k) (λ k. refl) c.args.options.now
    c.items.option-index 0 0 (doing c.items.self) _ _ c.items-test.false
    c.in_ok-empties-2.ensures c.items.invariant
