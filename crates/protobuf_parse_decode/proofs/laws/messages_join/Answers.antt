use Rattle.protobuf_parse_decode.proofs.Joining as joining
use Rattle.protobuf_parse_decode.proofs.laws.messages_join.Goals as goal

pub returns : goal.returns
returns c = joining.messages_join
