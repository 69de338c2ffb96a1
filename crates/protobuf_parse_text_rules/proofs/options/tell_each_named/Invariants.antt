use Rattle.std.proofs.Common.{◌≡◌, ◌++◌, map, take}
use Rattle.protobuf_parse_text_rules.specs.OptionViews.{named_view}
use Rattle.protobuf_parse_text_rules.specs.Options.{named_breaches}
use Rattle.protobuf_parse_text_rules.specs.Views.{told}
use Rattle.protobuf_parse_text_rules.proofs.options.tell_each_named.Given as goal

abbrev pub invariant-options : goal.invariant-options
invariant-options l = told l.found ≡ told l.fn.found
    ++ named_breaches l.rule l.name (map named_view (take l.option-index l.options))
