use Rattle.std.proofs.Common.{refl}
use Rattle.protobuf_parse_syntax.specs.Trees.{statement_syntax}
use Rattle.protobuf_parse_source_info.specs.Walks.{empties, ◌>>◌}
use Rattle.protobuf_parse_source_info.specs.Files.{file_body, statement, counted, no_statements}
use Rattle.protobuf_parse_source_info.specs.InnerViews.{doing}
use Rattle.protobuf_parse_source_info.proofs.Steps.{takes_then}
use Rattle.protobuf_parse_source_info.proofs.Bodies.{list_step, list_end}
use Rattle.protobuf_parse_source_info.proofs.walker.Walker.statements.Goals as goal

pub statements-preserved : goal.statements-preserved
unfolding file_body
statements-preserved c =
    list_step statement_syntax file_body (λ k s. empties >> statement k s) counted
    (λ k s ss. refl) c.args.body.now c.statements.statement-index c.statement-item.result
    c.statements.counts _ (doing c.statements.self) _ _ c.statements-test.true c.statement-item.is
    c.file_counted-counts.ensures
    (takes_then c.in_ok-empties.ensures c.in_ok-statement.ensures) c.statements.invariant

pub returns : goal.returns
unfolding file_body
returns c =
    list_end statement_syntax file_body (λ k s. empties >> statement k s) counted (λ k. refl)
    c.args.body.now c.statements.statement-index c.statements.counts no_statements
    (doing c.statements.self) _ _ c.statements-test.false c.in_ok-empties-2.ensures
    c.statements.invariant
