use Rattle.std.proofs.Common.{◌≡◌, map, take}
use Rattle.protobuf_parse_syntax.specs.Trees.{option_syntax}
use Rattle.protobuf_parse_model.specs.BuiltinOptions.{options_seen}
use Rattle.protobuf_parse_elaboration.proofs.constructs.options.options_of.Given as goal

abbrev pub invariant-loop-option : goal.invariant-loop-option
invariant-loop-option l = options_seen l.list.items
    ≡ map option_syntax (take l.option-index l.options)
