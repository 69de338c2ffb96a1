use Rattle.std.proofs.Common.{◌≡◌, ◌++◌, flat_map, take}
use Rattle.protobuf_parse_text_rules.specs.OptionViews.{options_view}
use Rattle.protobuf_parse_text_rules.specs.Views.{told}
use Rattle.protobuf_parse_name_rules.specs.Names.{named_option_breaches}
use Rattle.protobuf_parse_name_rules.specs.InnerViews.{viewpoint_view}
use Rattle.protobuf_parse_name_rules.proofs.names.check_option_names.Given as goal

abbrev pub invariant-options : goal.invariant-options
invariant-options l = told l.found ≡ told l.fn.found
    ++ flat_map (named_option_breaches (viewpoint_view l.at))
    (options_view (take l.option-index l.options))
