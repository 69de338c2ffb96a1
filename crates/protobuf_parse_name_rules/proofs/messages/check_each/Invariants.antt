use Rattle.std.proofs.Common.{◌≡◌, ◌++◌, flat_map, map, take}
use Rattle.protobuf_parse_syntax.specs.Trees.{statement_syntax}
use Rattle.protobuf_parse_text_rules.specs.Views.{told}
use Rattle.protobuf_parse_name_rules.specs.Files.{inside_file}
use Rattle.protobuf_parse_name_rules.specs.InnerViews.{viewpoint_view}
use Rattle.protobuf_parse_name_rules.proofs.messages.check_each.Given as goal

abbrev pub invariant-statements : goal.invariant-statements
invariant-statements l = told l.found ≡ told l.fn.found
    ++ flat_map (inside_file (viewpoint_view l.at))
    (map statement_syntax (take l.statement-index l.statements))
