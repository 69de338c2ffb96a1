use Rattle.std.proofs.Common.{◌≡◌, drop}
use Rattle.protobuf_parse_model.specs.BuiltinOptions.{options_seen}
use Rattle.protobuf_parse_elaboration.specs.Fields.{first_named}
use Rattle.protobuf_parse_elaboration.proofs.constructs.options.said.first_named.Given as goal

abbrev pub invariant-loop-option : goal.invariant-loop-option
invariant-loop-option l = first_named l.name (options_seen l.options)
    ≡ first_named l.name (options_seen (drop l.option-index l.options))
