use Rattle.protobuf_parse_wire.proofs.Varints as varints
use Rattle.protobuf_parse_wire.proofs.law.reader_reads_varints.Goals as goal

pub returns-clause-read : goal.returns-clause-read
returns-clause-read c = varints.varints_are_read

pub returns-clause-refused : goal.returns-clause-refused
returns-clause-refused c = varints.others_are_refused
