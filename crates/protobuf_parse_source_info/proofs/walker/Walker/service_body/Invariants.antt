use Rattle.std.proofs.Common.{◌≡◌, map, drop}
use Rattle.protobuf_parse_syntax.specs.Trees.{service_statement_syntax}
use Rattle.protobuf_parse_source_info.specs.Files.{service_body}
use Rattle.protobuf_parse_source_info.specs.InnerViews.{doing, ran}
use Rattle.protobuf_parse_source_info.proofs.walker.Walker.service_body.Given as goal

abbrev pub invariant-statements : goal.invariant-statements
invariant-statements l =
    ran (service_body l.path l.index (map service_statement_syntax (drop l.statement-index l.body)))
    (doing l.self)
    ≡ ran (service_body l.path 0 (map service_statement_syntax l.body)) (doing l.initial.self)
