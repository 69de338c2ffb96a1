use Rattle.protobuf_parse_options.proofs.Recovery.{options_are_recovered}
use Rattle.protobuf_parse_options.proofs.Recovery.{builtin_options_are_no_bytes}
use Rattle.protobuf_parse_options.proofs.RecoveryAbove.{options_are_recovered_above}
use Rattle.protobuf_parse_options.proofs.laws.options_are_recovered.Goals as goal

pub returns-clause-custom : goal.returns-clause-custom
returns-clause-custom c = options_are_recovered

pub returns-clause-above : goal.returns-clause-above
returns-clause-above c = options_are_recovered_above

pub returns-clause-builtin : goal.returns-clause-builtin
returns-clause-builtin c = builtin_options_are_no_bytes
