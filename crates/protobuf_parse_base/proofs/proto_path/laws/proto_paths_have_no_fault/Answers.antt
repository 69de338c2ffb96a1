use Rattle.protobuf_parse_base.proofs.PathTexts.{IsProtoPath-from_fault, path_fault-proto_path}
use Rattle.protobuf_parse_base.proofs.proto_path.laws.proto_paths_have_no_fault.Goals as goal

pub returns : goal.returns
returns c = λ text. (IsProtoPath-from_fault text, path_fault-proto_path text)
