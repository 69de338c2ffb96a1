use Rattle.std.proofs.Common.{◌≡◌, ◌++◌, flat_map, take}
use Rattle.protobuf_parse_text_rules.specs.OptionViews.{options_view}
use Rattle.protobuf_parse_text_rules.specs.Options.{value_breaches}
use Rattle.protobuf_parse_text_rules.specs.Views.{told}
use Rattle.protobuf_parse_text_rules.proofs.options.check_values.Given as goal

abbrev pub invariant-options : goal.invariant-options
invariant-options l = told l.found ≡ told l.fn.found
    ++ flat_map value_breaches (options_view (take l.option-index l.options))
