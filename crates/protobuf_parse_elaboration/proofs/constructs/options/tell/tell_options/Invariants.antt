use Rattle.std.proofs.Common.{◌≡◌, ◌++◌, take}
use Rattle.protobuf_parse_model.specs.BuiltinOptions.{options_faults, options_seen}
use Rattle.protobuf_parse_model.specs.Faults.{found}
use Rattle.protobuf_parse_elaboration.specs.OptionViews.{table_seen}
use Rattle.protobuf_parse_elaboration.proofs.constructs.options.tell.tell_options.Given as goal

abbrev pub invariant-loop-option : goal.invariant-loop-option
invariant-loop-option l = found l.faults ≡ found l.initial.faults
    ++ options_faults (table_seen l.table) (options_seen (take l.option-index l.options))
