use Rattle.std.proofs.Common.{◌≡◌, ◌++◌, flat_map, map, take}
use Rattle.protobuf_parse_syntax.specs.Trees.{service_statement_syntax}
use Rattle.protobuf_parse_text_rules.specs.Files.{inside_service}
use Rattle.protobuf_parse_text_rules.specs.Views.{told}
use Rattle.protobuf_parse_text_rules.proofs.declarations.check_service_body.Given as goal

abbrev pub invariant-body : goal.invariant-body
invariant-body l = told l.found ≡ told l.fn.found
    ++ flat_map inside_service (map service_statement_syntax (take l.statement-index l.body))
