use Rattle.protobuf_parse_check.proofs.Accepted.{quiet-descriptors-are-runs, quiet-files-are-runs}
use Rattle.protobuf_parse_check.proofs.Accepted.{quiet-order-is-runs}
use Rattle.protobuf_parse_check.proofs.ReadAlike.{quiet-reads-are-runs}
use Rattle.protobuf_parse_check.proofs.Untrimmed.{quiet-files-are-whole}
use Rattle.protobuf_parse_check.proofs.laws.quiet_checks_answer_as_runs.Goals as goal

pub returns : goal.returns
returns c = record {
  whole = quiet-files-are-whole;
  files = quiet-files-are-runs;
  order = quiet-order-is-runs;
  reads = quiet-reads-are-runs;
  descriptors = quiet-descriptors-are-runs;
}
