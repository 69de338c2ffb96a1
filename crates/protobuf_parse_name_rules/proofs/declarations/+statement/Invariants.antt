use Rattle.std.proofs.Common.{◌≡◌, ◌++◌, flat_map, map, take}
use Rattle.protobuf_parse_syntax.specs.Trees.{field_statement_syntax}
use Rattle.protobuf_parse_text_rules.specs.Views.{told}
use Rattle.protobuf_parse_name_rules.specs.Files.{statement_breaches}
use Rattle.protobuf_parse_name_rules.specs.InnerViews.{viewpoint_view}
use Rattle.protobuf_parse_name_rules.proofs.declarations.+statement.Given as goal

abbrev pub invariant-check_statements-statements : goal.invariant-check_statements-statements
invariant-check_statements-statements l = told l.found ≡ told l.fn.found
    ++ flat_map (statement_breaches (viewpoint_view l.at))
    (map field_statement_syntax (take l.statement-index l.statements))
