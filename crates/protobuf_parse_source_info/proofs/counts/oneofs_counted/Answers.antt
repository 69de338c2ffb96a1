use Rattle.std.proofs.Common.{sym, ◌∙◌}
use Rattle.protobuf_parse_syntax.specs.Trees.{oneof_statement_syntax}
use Rattle.protobuf_parse_source_info.specs.Declarations.{oneof_counted}
use Rattle.protobuf_parse_source_info.proofs.Counting.{fold_step, fold_end}
use Rattle.protobuf_parse_source_info.proofs.counts.oneofs_counted.Goals as goal

pub items-preserved : goal.items-preserved
items-preserved c =
    fold_step oneof_statement_syntax oneof_counted
    c.args.body.now c.items.statement-index c.statement-item.result
    c.items.counts _ c.items-test.true c.statement-item.is c.oneof_counted-counts.ensures
    ∙ c.items.invariant

pub returns : goal.returns
returns c =
    sym (fold_end oneof_statement_syntax oneof_counted
    c.args.body.now c.items.statement-index c.items.counts
    c.items-test.false)
    ∙ c.items.invariant
