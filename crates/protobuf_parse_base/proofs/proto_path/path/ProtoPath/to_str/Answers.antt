-- A text without a fault is a proto path.
use Rattle.protobuf_parse_base.proofs.PathTexts.{IsProtoPath-from_fault}
use Rattle.protobuf_parse_base.proofs.proto_path.path.ProtoPath.to_str.Goals as goal

pub returns-clause-proto_path : goal.returns-clause-proto_path
returns-clause-proto_path c = IsProtoPath-from_fault c.args.self.text.now c.args.self.well_formed
