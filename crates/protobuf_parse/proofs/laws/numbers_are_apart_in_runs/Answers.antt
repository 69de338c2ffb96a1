use Rattle.protobuf_parse.proofs.NumbersApart as apart
use Rattle.protobuf_parse.proofs.laws.numbers_are_apart_in_runs.Goals as goal

pub returns : goal.returns
returns c = apart.numbers_are_apart_in_runs
