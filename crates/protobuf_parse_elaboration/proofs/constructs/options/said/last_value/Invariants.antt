use Rattle.std.proofs.Common.{◌≡◌, take, option_map}
use Rattle.protobuf_parse_model.specs.BuiltinOptions.{last_value, options_seen}
use Rattle.protobuf_parse_elaboration.specs.OptionViews.{constant_seen}
use Rattle.protobuf_parse_elaboration.proofs.constructs.options.said.last_value.Given as goal

abbrev pub invariant-loop-option : goal.invariant-loop-option
invariant-loop-option l = option_map constant_seen l.last
    ≡ last_value l.name (options_seen (take l.option-index l.options))
