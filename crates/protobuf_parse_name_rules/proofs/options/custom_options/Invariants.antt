use Rattle.std.proofs.Common.{◌≡◌, map, take}
use Rattle.protobuf_parse_text_rules.specs.OptionViews.{options_view}
use Rattle.protobuf_parse_name_rules.specs.Fields.{custom_options}
use Rattle.protobuf_parse_name_rules.specs.InnerViews.{custom_view, viewpoint_view}
use Rattle.protobuf_parse_name_rules.proofs.options.custom_options.Given as goal

abbrev pub invariant-options : goal.invariant-options
invariant-options l = map custom_view l.customs.items
    ≡ custom_options (viewpoint_view l.at) l.construct
    (options_view (take l.option-index l.options))
