use Rattle.protobuf_parse_run.proofs.Knowing.{sees-reaches}
use Rattle.protobuf_parse_run.proofs.TypeNames.{names_are_reached}
use Rattle.protobuf_parse_run.proofs.laws.seen_files_are_reached.Goals as goal

pub returns-clause-reached : goal.returns-clause-reached
returns-clause-reached c = sees-reaches

pub returns-clause-names : goal.returns-clause-names
returns-clause-names c = names_are_reached
