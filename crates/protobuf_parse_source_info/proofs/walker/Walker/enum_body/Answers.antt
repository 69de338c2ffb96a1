use Rattle.std.proofs.Common.{refl}
use Rattle.protobuf_parse_syntax.specs.Trees.{enum_statement_syntax}
use Rattle.protobuf_parse_source_info.specs.Walks.{empties, ◌>>◌}
use Rattle.protobuf_parse_source_info.specs.Declarations.{enum_body, enum_statement, enum_counted}
use Rattle.protobuf_parse_source_info.specs.Declarations.{no_values}
use Rattle.protobuf_parse_source_info.specs.InnerViews.{doing}
use Rattle.protobuf_parse_source_info.proofs.Steps.{takes_then}
use Rattle.protobuf_parse_source_info.proofs.Bodies.{list_step, list_end}
use Rattle.protobuf_parse_source_info.proofs.walker.Walker.enum_body.Goals as goal

pub statements-preserved : goal.statements-preserved
unfolding enum_body
statements-preserved c =
    let p = c.args.path.now in
    list_step enum_statement_syntax (enum_body p) (λ k s. empties >> enum_statement p k s)
    enum_counted (λ k s ss. refl) c.args.body.now c.statements.statement-index
    c.statement-item.result c.statements.counts _ (doing c.statements.self) _ _
    c.statements-test.true c.statement-item.is c.enum_counted-counts.ensures
    (takes_then c.in_ok-empties.ensures c.in_ok-enum_statement.ensures) c.statements.invariant

pub returns : goal.returns
unfolding enum_body
returns c =
    let p = c.args.path.now in
    list_end enum_statement_syntax (enum_body p) (λ k s. empties >> enum_statement p k s)
    enum_counted (λ k. refl) c.args.body.now c.statements.statement-index c.statements.counts
    no_values (doing c.statements.self) _ _ c.statements-test.false c.in_ok-empties-2.ensures
    c.statements.invariant
