use Rattle.protobuf_parse_model.specs.Declarations.{MessageOrEnum}
use Rattle.protobuf_parse_elaboration.proofs.Lookups.{means_the_longest, means_nothing}
use Rattle.protobuf_parse_elaboration.proofs.Lookups.{means_itself}
use Rattle.protobuf_parse_elaboration.proofs.laws.types_are_looked_up.Goals as goal

pub returns-clause-longest : goal.returns-clause-longest
returns-clause-longest c = means_the_longest MessageOrEnum

pub returns-clause-nothing : goal.returns-clause-nothing
returns-clause-nothing c = means_nothing MessageOrEnum

pub returns-clause-itself : goal.returns-clause-itself
returns-clause-itself c = means_itself MessageOrEnum
