use Rattle.std.proofs.Common.{◌-◌, string_bytes}
use Rattle.protobuf_parse_recovery.proofs.Rounds.{Leads}
use Rattle.protobuf_parse_recovery.proofs.faults.read_on.Given as goal

abbrev pub invariant-loop-round : goal.invariant-loop-round
invariant-loop-round l = Leads (20 - l.round) l.text (string_bytes l.left) l.faults.items
