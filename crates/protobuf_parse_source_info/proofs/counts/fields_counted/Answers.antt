use Rattle.std.proofs.Common.{sym, ◌∙◌}
use Rattle.protobuf_parse_syntax.specs.Trees.{field_statement_syntax}
use Rattle.protobuf_parse_source_info.specs.Fields.{field_counted}
use Rattle.protobuf_parse_source_info.proofs.Counting.{fold_step, fold_end}
use Rattle.protobuf_parse_source_info.proofs.counts.fields_counted.Goals as goal

pub items-preserved : goal.items-preserved
items-preserved c =
    fold_step field_statement_syntax field_counted
    c.args.body.now c.items.field-index c.field-item.result
    c.items.counts _ c.items-test.true c.field-item.is c.field_counted-counts.ensures
    ∙ c.items.invariant

pub returns : goal.returns
returns c =
    sym (fold_end field_statement_syntax field_counted
    c.args.body.now c.items.field-index c.items.counts
    c.items-test.false)
    ∙ c.items.invariant
