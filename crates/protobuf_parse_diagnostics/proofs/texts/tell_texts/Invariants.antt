use Rattle.std.proofs.Common.{take}
use Rattle.protobuf_parse_diagnostics.specs.Texts.{AreTextsTold}
use Rattle.protobuf_parse_diagnostics.proofs.texts.tell_texts.Given as goal

abbrev pub invariant-loop-violation : goal.invariant-loop-violation
invariant-loop-violation l =
    AreTextsTold l.level l.origin (take l.violation-index l.violations) l.told.items
