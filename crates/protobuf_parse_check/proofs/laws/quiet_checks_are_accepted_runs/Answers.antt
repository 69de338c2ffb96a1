use Rattle.protobuf_parse_check.proofs.Accepted.{quiet-is-accepted}
use Rattle.protobuf_parse_check.proofs.laws.quiet_checks_are_accepted_runs.Goals as goal

pub returns : goal.returns
returns c = quiet-is-accepted
