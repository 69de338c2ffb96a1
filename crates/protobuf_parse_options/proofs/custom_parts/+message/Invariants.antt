use Rattle.std.proofs.Common.{◌≡◌, false, map, take}
use Rattle.std.specs.List.{list_any}
use Rattle.protobuf_parse_syntax.specs.InnerViews.{message_statement_syntax}
use Rattle.protobuf_parse_options.specs.CustomParts.{custom_in_message}
use Rattle.protobuf_parse_options.proofs.custom_parts.+message.Given as goal

abbrev pub invariant-custom_in_body-loop-statement : goal.invariant-custom_in_body-loop-statement
invariant-custom_in_body-loop-statement l =
    list_any custom_in_message
    (map message_statement_syntax (take l.statement-index l.statements)) ≡ false
