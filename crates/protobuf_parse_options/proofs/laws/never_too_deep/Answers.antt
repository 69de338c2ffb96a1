use Rattle.protobuf_parse_options.proofs.OptionDepth as depths
use Rattle.protobuf_parse_options.proofs.Recovery.{texts_are_not_too_deep}
use Rattle.protobuf_parse_options.proofs.laws.never_too_deep.Goals as goal

pub returns-clause-options : goal.returns-clause-options
returns-clause-options c = depths.never_too_deep

pub returns-clause-texts : goal.returns-clause-texts
returns-clause-texts c = texts_are_not_too_deep
