use Rattle.protobuf_parse_merged.proofs.Upwards.{message_ascends}
use Rattle.protobuf_parse_merged.proofs.laws.fields_ascend.Goals as goal

pub returns : goal.returns
returns c = λ files name fs m is. message_ascends files 101 name fs m is
