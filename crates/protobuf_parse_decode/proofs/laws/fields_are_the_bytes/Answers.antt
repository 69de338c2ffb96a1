use Rattle.protobuf_parse_decode.proofs.Joining as joining
use Rattle.protobuf_parse_decode.proofs.laws.fields_are_the_bytes.Goals as goal

pub returns : goal.returns
returns c = joining.fields_are_the_bytes
