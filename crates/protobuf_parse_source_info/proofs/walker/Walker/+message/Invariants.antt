use Rattle.std.proofs.Common.{◌≡◌, map, drop}
use Rattle.protobuf_parse_syntax.specs.InnerViews.{message_statement_syntax}
use Rattle.protobuf_parse_source_info.specs.Declarations.{message_body, no_parts}
use Rattle.protobuf_parse_source_info.specs.InnerViews.{doing, ran}
use Rattle.protobuf_parse_source_info.proofs.walker.Walker.+message.Given as goal

abbrev pub invariant-message_body-statements : goal.invariant-message_body-statements
invariant-message_body-statements l =
    ran (message_body l.path l.counts
    (map message_statement_syntax (drop l.statement-index l.body)))
    (doing l.self)
    ≡ ran (message_body l.path no_parts (map message_statement_syntax l.body))
    (doing l.initial.self)
