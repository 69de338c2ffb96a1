use Rattle.std.proofs.Common.{◌≡◌, map, drop}
use Rattle.protobuf_parse_syntax.specs.Trees.{statement_syntax}
use Rattle.protobuf_parse_source_info.specs.Files.{file_body, no_statements}
use Rattle.protobuf_parse_source_info.specs.InnerViews.{doing, ran}
use Rattle.protobuf_parse_source_info.proofs.walker.Walker.statements.Given as goal

abbrev pub invariant-statements : goal.invariant-statements
invariant-statements l =
    ran (file_body l.counts (map statement_syntax (drop l.statement-index l.body))) (doing l.self)
    ≡ ran (file_body no_statements (map statement_syntax l.body)) (doing l.initial.self)
