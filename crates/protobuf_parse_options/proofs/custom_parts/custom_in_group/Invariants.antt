use Rattle.std.proofs.Common.{◌≡◌, false, map, take}
use Rattle.std.specs.List.{list_any}
use Rattle.protobuf_parse_syntax.specs.Trees.{field_statement_syntax}
use Rattle.protobuf_parse_options.specs.CustomParts.{custom_in_grouped}
use Rattle.protobuf_parse_options.proofs.custom_parts.custom_in_group.Given as goal

abbrev pub invariant-loop-field : goal.invariant-loop-field
invariant-loop-field l =
    list_any custom_in_grouped (map field_statement_syntax (take l.field-index l.fields)) ≡ false
