use Rattle.std.proofs.Common.{ap, arith}
use Rattle.protobuf_parse_syntax.specs.Counts.{statement_count}
use Rattle.protobuf_parse_syntax.specs.Trees.{statement_syntax}
use Rattle.protobuf_parse_syntax.proofs.Counts.{item_counts}
use Rattle.protobuf_parse_elaboration.proofs.constructs.contents.declared.Goals as goal

pub add_statement-requires : goal.add_statement-requires
add_statement-requires g c =
    let counted = item_counts statement_syntax statement_count c.args.statements.now
    c.loop-statement.statement-index c.statement-item.result c.loop-statement-test.true in
    record {
      few =
          omega (
            arith,
            counted,
            ap (λ s. statement_count (statement_syntax s)) c.statement-item.is,
            c.requires.few,
          );
    }
