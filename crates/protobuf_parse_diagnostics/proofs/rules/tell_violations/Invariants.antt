use Rattle.std.proofs.Common.{take}
use Rattle.protobuf_parse_diagnostics.specs.Broken.{AreViolationsTold}
use Rattle.protobuf_parse_diagnostics.proofs.rules.tell_violations.Given as goal

abbrev pub invariant-loop-violation : goal.invariant-loop-violation
invariant-loop-violation l =
    AreViolationsTold l.level (take l.violation-index l.violations) l.told.items
