use Rattle.protobuf_parse_rules.proofs.Apart.{apart}
use Rattle.protobuf_parse_rules.proofs.Fewer.{some_apart}
use Rattle.protobuf_parse_rules.proofs.law.numbers_are_apart.Goals as goal

pub returns-clause-all : goal.returns-clause-all
returns-clause-all c = apart

pub returns-clause-some : goal.returns-clause-some
returns-clause-some c = some_apart
