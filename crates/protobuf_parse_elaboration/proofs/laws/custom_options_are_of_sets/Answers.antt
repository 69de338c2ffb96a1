use Rattle.protobuf_parse_elaboration.proofs.CustomSets.{faults_are_of_sets, none_is_none_in_sets}
use Rattle.protobuf_parse_elaboration.proofs.SameBytes.{bytes_are_of_sets}
use Rattle.protobuf_parse_elaboration.proofs.laws.custom_options_are_of_sets.Goals as goal

pub returns-clause-faults : goal.returns-clause-faults
returns-clause-faults c = faults_are_of_sets

pub returns-clause-none : goal.returns-clause-none
returns-clause-none c = none_is_none_in_sets

pub returns-clause-bytes : goal.returns-clause-bytes
returns-clause-bytes c = bytes_are_of_sets
