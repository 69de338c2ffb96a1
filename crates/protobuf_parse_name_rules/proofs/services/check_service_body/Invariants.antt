use Rattle.std.proofs.Common.{◌≡◌, ◌++◌, flat_map, map, take}
use Rattle.protobuf_parse_syntax.specs.Trees.{service_statement_syntax}
use Rattle.protobuf_parse_text_rules.specs.Views.{told}
use Rattle.protobuf_parse_name_rules.specs.Files.{inside_service}
use Rattle.protobuf_parse_name_rules.specs.InnerViews.{has_text, viewpoint_view}
use Rattle.protobuf_parse_name_rules.proofs.services.check_service_body.Given as goal

abbrev pub invariant-body : goal.invariant-body
invariant-body l = told l.found ≡ told l.fn.found
    ++ flat_map (inside_service (viewpoint_view l.at) (viewpoint_view l.inside)
    (has_text l.methods)) (map service_statement_syntax (take l.statement-index l.body))
