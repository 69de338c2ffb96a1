use Rattle.std.proofs.Common.{◌≡◌, ◌++◌, flat_map, map, take}
use Rattle.protobuf_parse_syntax.specs.Trees.{option_part_syntax}
use Rattle.protobuf_parse_text_rules.specs.Views.{told}
use Rattle.protobuf_parse_name_rules.specs.Names.{part_breaches}
use Rattle.protobuf_parse_name_rules.specs.InnerViews.{viewpoint_view}
use Rattle.protobuf_parse_name_rules.proofs.names.check_parts.Given as goal

abbrev pub invariant-parts : goal.invariant-parts
invariant-parts l = told l.found ≡ told l.fn.found
    ++ flat_map (part_breaches (viewpoint_view l.at) l.place)
    (map option_part_syntax (take l.part-index l.parts))
