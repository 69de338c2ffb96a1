use Rattle.protobuf_parse_model.specs.Faults.{found}
use Rattle.protobuf_parse_elaboration.proofs.Told.{told_none}
use Rattle.protobuf_parse_elaboration.proofs.constructs.told.tell_repeated.Goals as goal

pub returns-then-branch : goal.returns-then-branch
returns-then-branch g c = λ declared named at.
    told_none (found c.args.faults.now) declared
    (c.in_ok-are_unlike.ensures c.if-branch.true declared named)
