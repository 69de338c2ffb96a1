use Rattle.protobuf_parse_wire.proofs.Records as joined
use Rattle.protobuf_parse_wire.proofs.law.reader_reads_records.Goals as goal

pub returns-clause-whole : goal.returns-clause-whole
returns-clause-whole c = joined.messages_are_read

pub returns-clause-fault : goal.returns-clause-fault
returns-clause-fault c = joined.faults_stand_behind_records

pub returns-clause-longest : goal.returns-clause-longest
returns-clause-longest c = joined.front_is_longest
