use Rattle.std.proofs.Common.{◌≡◌, map, drop}
use Rattle.protobuf_parse_syntax.specs.Trees.{enum_statement_syntax}
use Rattle.protobuf_parse_source_info.specs.Declarations.{enum_body, no_values}
use Rattle.protobuf_parse_source_info.specs.InnerViews.{doing, ran}
use Rattle.protobuf_parse_source_info.proofs.walker.Walker.enum_body.Given as goal

abbrev pub invariant-statements : goal.invariant-statements
invariant-statements l =
    ran (enum_body l.path l.counts (map enum_statement_syntax (drop l.statement-index l.body)))
    (doing l.self)
    ≡ ran (enum_body l.path no_values (map enum_statement_syntax l.body)) (doing l.initial.self)
