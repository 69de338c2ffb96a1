use Rattle.std.proofs.Common.{refl}
use Rattle.protobuf_parse_syntax.specs.Trees.{oneof_statement_syntax}
use Rattle.protobuf_parse_source_info.specs.Walks.{empties, ◌>>◌}
use Rattle.protobuf_parse_source_info.specs.Declarations.{oneof_body, oneof_statement}
use Rattle.protobuf_parse_source_info.specs.Declarations.{oneof_counted}
use Rattle.protobuf_parse_source_info.specs.InnerViews.{doing, owner_view}
use Rattle.protobuf_parse_source_info.proofs.Steps.{takes_then}
use Rattle.protobuf_parse_source_info.proofs.Bodies.{list_step, list_end}
use Rattle.protobuf_parse_source_info.proofs.walker.Walker.oneof_body.Goals as goal

pub statements-preserved : goal.statements-preserved
unfolding oneof_body
statements-preserved c =
    let p = c.args.path.now in
    let o = owner_view c.args.owner in
    list_step oneof_statement_syntax (oneof_body p o) (λ k s. empties >> oneof_statement p o k s)
    oneof_counted (λ k s ss. refl) c.args.body.now c.statements.statement-index
    c.statement-item.result c.statements.counts _ (doing c.statements.self) _ _
    c.statements-test.true c.statement-item.is c.oneof_counted-counts.ensures
    (takes_then c.in_ok-empties.ensures c.in_ok-oneof_statement.ensures) c.statements.invariant

pub returns : goal.returns
unfolding oneof_body
returns c =
    let p = c.args.path.now in
    let o = owner_view c.args.owner in
    list_end oneof_statement_syntax (oneof_body p o) (λ k s. empties >> oneof_statement p o k s)
    oneof_counted (λ k. refl) c.args.body.now c.statements.statement-index c.statements.counts
    c.args.before (doing c.statements.self) _ _ c.statements-test.false
    c.in_ok-empties-2.ensures c.statements.invariant
