use Rattle.std.proofs.Common.{◌≡◌, ◌++◌, flat_map, map, take}
use Rattle.protobuf_parse_syntax.specs.Trees.{oneof_statement_syntax}
use Rattle.protobuf_parse_text_rules.specs.Views.{told}
use Rattle.protobuf_parse_name_rules.specs.Files.{inside_oneof}
use Rattle.protobuf_parse_name_rules.specs.InnerViews.{viewpoint_view}
use Rattle.protobuf_parse_name_rules.proofs.declarations.check_oneof_body.Given as goal

abbrev pub invariant-body : goal.invariant-body
invariant-body l = told l.found ≡ told l.fn.found
    ++ flat_map (inside_oneof (viewpoint_view l.at))
    (map oneof_statement_syntax (take l.statement-index l.body))
