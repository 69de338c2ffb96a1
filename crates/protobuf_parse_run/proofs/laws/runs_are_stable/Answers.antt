use Rattle.protobuf_parse_run.proofs.Agreeing.{alike, same-tree}
use Rattle.protobuf_parse_run.proofs.Further.{declared-once, descriptors-stay, order-stays}
use Rattle.protobuf_parse_run.proofs.Listed.{have-lists}
use Rattle.protobuf_parse_run.proofs.laws.runs_are_stable.Goals as goal

pub returns-clause-texts : goal.returns-clause-texts
returns-clause-texts c = same-tree

pub returns-clause-lists : goal.returns-clause-lists
returns-clause-lists c = have-lists

pub returns-clause-reach : goal.returns-clause-reach
returns-clause-reach c = alike

pub returns-clause-once : goal.returns-clause-once
returns-clause-once c = λ files inputs p t clean h is. declared-once files inputs clean p t is h

pub returns-clause-order : goal.returns-clause-order
returns-clause-order c = order-stays

pub returns-clause-descriptors : goal.returns-clause-descriptors
returns-clause-descriptors c = descriptors-stay
