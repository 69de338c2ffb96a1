use Rattle.protobuf_parse_run.proofs.HandingOut.{order-handed-out}
use Rattle.protobuf_parse_run.proofs.Ordering.{accepted-walked, all-reached-come, imports-first}
use Rattle.protobuf_parse_run.proofs.Ordering.{none-comes-twice, reached-come-too}
use Rattle.protobuf_parse_run.proofs.laws.files_come_once.Goals as goal

pub returns-clause-distinct : goal.returns-clause-distinct
returns-clause-distinct c = none-comes-twice

pub returns-clause-reached : goal.returns-clause-reached
returns-clause-reached c = all-reached-come

pub returns-clause-closed : goal.returns-clause-closed
returns-clause-closed c = reached-come-too

pub returns-clause-after_imports : goal.returns-clause-after_imports
returns-clause-after_imports c = imports-first

pub returns-clause-accepted : goal.returns-clause-accepted
returns-clause-accepted c = accepted-walked

pub returns-clause-descriptors : goal.returns-clause-descriptors
returns-clause-descriptors c = order-handed-out
