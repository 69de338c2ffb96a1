use Rattle.std.proofs.Common.{◌≡◌, map, take}
use Rattle.protobuf_parse_text_rules.specs.OptionViews.{named_view, options_view}
use Rattle.protobuf_parse_text_rules.specs.Options.{builtins}
use Rattle.protobuf_parse_text_rules.proofs.options.builtins_of.Given as goal

abbrev pub invariant-options : goal.invariant-options
invariant-options l = map named_view l.named.items
    ≡ builtins (options_view (take l.option-index l.options))
