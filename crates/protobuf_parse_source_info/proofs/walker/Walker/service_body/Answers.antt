use Rattle.std.proofs.Common.{refl}
use Rattle.protobuf_parse_syntax.specs.Trees.{service_statement_syntax}
use Rattle.protobuf_parse_source_info.specs.Walks.{empties, ◌>>◌}
use Rattle.protobuf_parse_source_info.specs.Files.{service_body, service_statement, methods_past}
use Rattle.protobuf_parse_source_info.specs.InnerViews.{doing}
use Rattle.protobuf_parse_source_info.proofs.Steps.{takes_then}
use Rattle.protobuf_parse_source_info.proofs.Bodies.{list_step, list_end}
use Rattle.protobuf_parse_source_info.proofs.walker.Walker.service_body.Goals as goal

pub statements-preserved : goal.statements-preserved
unfolding service_body
statements-preserved c =
    let p = c.args.path.now in
    list_step service_statement_syntax (service_body p) (λ i s. empties >> service_statement p i s)
    methods_past (λ i s ss. refl) c.args.body.now c.statements.statement-index
    c.statement-item.result c.statements.index _ (doing c.statements.self) _ _
    c.statements-test.true c.statement-item.is c.methods_past-index.ensures
    (takes_then c.in_ok-empties.ensures c.in_ok-service_statement.ensures) c.statements.invariant

pub returns : goal.returns
unfolding service_body
returns c =
    let p = c.args.path.now in
    list_end service_statement_syntax (service_body p) (λ i s. empties >> service_statement p i s)
    methods_past (λ i. refl) c.args.body.now c.statements.statement-index c.statements.index 0
    (doing c.statements.self) _ _ c.statements-test.false c.in_ok-empties-2.ensures
    c.statements.invariant
