use Rattle.std.proofs.Common.{◌≡◌, length}
use Rattle.protobuf_parse_rules.specs.Alike.{behind}
use Rattle.protobuf_parse_rules.proofs.alike.behind.Given as goal

abbrev pub invariant-rest : goal.invariant-rest
invariant-rest l = behind l.front l.rest ≡ behind l.fn.front l.name

abbrev pub decreases-rest : goal.decreases-rest
decreases-rest l = length l.rest
