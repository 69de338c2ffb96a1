use Rattle.protobuf_parse_load.proofs.Fronting.{load-is-run, run-is-front}
use Rattle.protobuf_parse_load.proofs.laws.runs_are_fronts_of_loads.Goals as goal

pub returns : goal.returns
returns c = record {
  front = run-is-front;
  whole = load-is-run;
}
