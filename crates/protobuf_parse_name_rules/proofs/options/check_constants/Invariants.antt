use Rattle.std.proofs.Common.{◌≡◌, ◌++◌, flat_map, map, take}
use Rattle.protobuf_parse_text_rules.specs.Views.{told}
use Rattle.protobuf_parse_name_rules.specs.Options.{constant_breaches}
use Rattle.protobuf_parse_name_rules.specs.InnerViews.{custom_view, viewpoint_view}
use Rattle.protobuf_parse_name_rules.proofs.options.check_constants.Given as goal

abbrev pub invariant-customs : goal.invariant-customs
invariant-customs l = told l.found ≡ told l.fn.found
    ++ flat_map (constant_breaches (viewpoint_view l.at))
    (map custom_view (take l.custom-index l.customs))
