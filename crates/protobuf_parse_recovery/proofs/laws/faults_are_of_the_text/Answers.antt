use Rattle.protobuf_parse_recovery.proofs.Told.{few, first-stands}
use Rattle.protobuf_parse_recovery.proofs.laws.faults_are_of_the_text.Goals as goal

pub returns : goal.returns
returns c = λ z found reads. (first-stands 19 z found reads, few 20 z found reads)
