use Rattle.protobuf_parse_set_rules.proofs.Passing.{all_declared}
use Rattle.protobuf_parse_set_rules.proofs.law.types_are_declared.Goals as goal

pub returns : goal.returns
returns c = all_declared
