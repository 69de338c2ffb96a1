use Rattle.std.proofs.Common.{◌≡◌, map, drop}
use Rattle.protobuf_parse_syntax.specs.Trees.{oneof_statement_syntax}
use Rattle.protobuf_parse_source_info.specs.Declarations.{oneof_body}
use Rattle.protobuf_parse_source_info.specs.InnerViews.{doing, ran, owner_view}
use Rattle.protobuf_parse_source_info.proofs.walker.Walker.oneof_body.Given as goal

abbrev pub invariant-statements : goal.invariant-statements
invariant-statements l =
    ran (oneof_body l.path (owner_view l.owner) l.counts
    (map oneof_statement_syntax (drop l.statement-index l.body))) (doing l.self)
    ≡ ran (oneof_body l.path (owner_view l.owner) l.fn.before (map oneof_statement_syntax l.body))
    (doing l.initial.self)
