use Rattle.std.proofs.Common.{◌≡◌, ◌++◌, flat_map, map, take}
use Rattle.protobuf_parse_syntax.specs.InnerViews.{message_statement_syntax}
use Rattle.protobuf_parse_text_rules.specs.Views.{told}
use Rattle.protobuf_parse_name_rules.specs.Files.{inside_message}
use Rattle.protobuf_parse_name_rules.specs.InnerViews.{viewpoint_view}
use Rattle.protobuf_parse_name_rules.proofs.messages.+message.Given as goal

abbrev pub invariant-check_body-body : goal.invariant-check_body-body
invariant-check_body-body l = told l.found ≡ told l.fn.found
    ++ flat_map (inside_message (viewpoint_view l.at))
    (map message_statement_syntax (take l.statement-index l.body))
