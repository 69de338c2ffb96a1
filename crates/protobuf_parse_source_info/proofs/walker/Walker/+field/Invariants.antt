use Rattle.std.proofs.Common.{◌≡◌, map, drop, option_map}
use Rattle.protobuf_parse_syntax.specs.Trees.{field_statement_syntax}
use Rattle.protobuf_parse_source_info.specs.Fields.{field_body}
use Rattle.protobuf_parse_source_info.specs.InnerViews.{doing, ran, owner_view, range_view}
use Rattle.protobuf_parse_source_info.proofs.walker.Walker.+field.Given as goal

abbrev pub invariant-fields-statements : goal.invariant-fields-statements
invariant-fields-statements l =
    ran (field_body (owner_view l.owner) (option_map range_view l.extendee) l.counts
    (map field_statement_syntax (drop l.statement-index l.body))) (doing l.self)
    ≡ ran (field_body (owner_view l.owner) (option_map range_view l.extendee) l.fn.before
    (map field_statement_syntax l.body)) (doing l.initial.self)
