use Rattle.protobuf_parse_load.proofs.HeldReads.{held-are-read}
use Rattle.protobuf_parse_load.proofs.laws.held_inputs_are_read.Goals as goal

pub returns : goal.returns
returns c = held-are-read
