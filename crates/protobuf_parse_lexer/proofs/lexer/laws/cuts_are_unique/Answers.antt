use Rattle.protobuf_parse_lexer.proofs.Unique.{one_cut, one_fault}
use Rattle.protobuf_parse_lexer.proofs.lexer.laws.cuts_are_unique.Goals as goal

pub returns-clause-cut : goal.returns-clause-cut
returns-clause-cut c = one_cut

pub returns-clause-fault : goal.returns-clause-fault
returns-clause-fault c = one_fault
