use Rattle.protobuf_parse_load.proofs.Asking.{paths-are-asked-once}
use Rattle.protobuf_parse_load.proofs.Following.{files-come-once, imports-come-first, inputs-come}
use Rattle.protobuf_parse_load.proofs.laws.loads_leave_nothing_out.Goals as goal

pub returns : goal.returns
returns c = record {
  inputs = inputs-come;
  imports = imports-come-first;
  once = files-come-once;
  asked = paths-are-asked-once;
}
