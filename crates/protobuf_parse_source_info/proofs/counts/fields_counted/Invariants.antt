use Rattle.std.proofs.Common.{◌≡◌, map, drop, fold}
use Rattle.protobuf_parse_syntax.specs.Trees.{field_statement_syntax}
use Rattle.protobuf_parse_source_info.specs.Fields.{field_counted}
use Rattle.protobuf_parse_source_info.proofs.counts.fields_counted.Given as goal

abbrev pub invariant-items : goal.invariant-items
invariant-items l =
    fold field_counted l.counts (map field_statement_syntax (drop l.field-index l.body))
    ≡ fold field_counted l.fn.before (map field_statement_syntax l.body)
