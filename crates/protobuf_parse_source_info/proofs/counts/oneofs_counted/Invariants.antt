use Rattle.std.proofs.Common.{◌≡◌, map, drop, fold}
use Rattle.protobuf_parse_syntax.specs.Trees.{oneof_statement_syntax}
use Rattle.protobuf_parse_source_info.specs.Declarations.{oneof_counted}
use Rattle.protobuf_parse_source_info.proofs.counts.oneofs_counted.Given as goal

abbrev pub invariant-items : goal.invariant-items
invariant-items l =
    fold oneof_counted l.counts (map oneof_statement_syntax (drop l.statement-index l.body))
    ≡ fold oneof_counted l.fn.before (map oneof_statement_syntax l.body)
