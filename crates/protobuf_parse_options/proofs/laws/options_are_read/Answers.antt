use Rattle.protobuf_parse_options.proofs.Options as options
use Rattle.protobuf_parse_options.proofs.laws.options_are_read.Goals as goal

pub returns : goal.returns
returns c = options.options_are_read
