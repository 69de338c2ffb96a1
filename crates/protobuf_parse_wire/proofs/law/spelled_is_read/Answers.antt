use Rattle.protobuf_parse_wire.proofs.Again as again
use Rattle.protobuf_parse_wire.proofs.law.spelled_is_read.Goals as goal

pub returns : goal.returns
returns c = again.spelled_is_read
