use Rattle.std.proofs.Common.{◌≡◌, map, take}
use Rattle.protobuf_parse_syntax.specs.Trees.{option_syntax}
use Rattle.protobuf_parse_text_rules.specs.OptionViews.{options_view}
use Rattle.protobuf_parse_name_rules.proofs.options.references.Given as goal

abbrev pub invariant-options : goal.invariant-options
invariant-options l = options_view l.listed.items
    ≡ map option_syntax (take l.option-index l.options)
