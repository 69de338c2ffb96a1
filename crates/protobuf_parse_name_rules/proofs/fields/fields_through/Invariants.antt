use Rattle.std.proofs.Common.{◌≡◌, map, drop}
use denote.Shadow.{shadow}
use denote.Text.{Utf8}
use Rattle.protobuf_parse_syntax.specs.Trees.{option_part_syntax}
use Rattle.protobuf_parse_name_rules.specs.Fields.{fields_through}
use Rattle.protobuf_parse_name_rules.specs.InnerViews.{fields_view, viewpoint_view}
use Rattle.protobuf_parse_name_rules.proofs.Through.{behind}
use Rattle.protobuf_parse_name_rules.proofs.fields.fields_through.Given as goal

abbrev pub invariant-each : goal.invariant-each
invariant-each l =
    let at = viewpoint_view l.at in
    shadow (Utf8 l.holder)
    × (fields_through at l.message (map option_part_syntax l.parts)
    ≡ behind (fields_view l.fields.items)
    (fields_through at l.holder (map option_part_syntax (drop l.part-index l.parts))))
