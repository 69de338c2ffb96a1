use Rattle.protobuf_parse_check.proofs.FirstTold.{first-fault-is-told}
use Rattle.protobuf_parse_check.proofs.laws.first_faults_are_told.Goals as goal

pub returns : goal.returns
returns c = first-fault-is-told
