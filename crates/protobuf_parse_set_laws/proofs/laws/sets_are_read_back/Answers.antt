use Rattle.protobuf_parse_set_laws.proofs.Files as law
use Rattle.protobuf_parse_set_laws.proofs.laws.sets_are_read_back.Goals as goal

pub returns-clause-without_info : goal.returns-clause-without_info
returns-clause-without_info c = law.sets_are_read_back

pub returns-clause-with_info : goal.returns-clause-with_info
returns-clause-with_info c = law.sets_with_info_are_read_back
