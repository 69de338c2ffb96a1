use Rattle.std.proofs.Common.{take}
use Rattle.std.specs.Prelude.{flat_map}
use Rattle.protobuf_parse_diagnostics.specs.Told.{unread_lines}
use Rattle.protobuf_parse_diagnostics.specs.Telling.{Tells}
use Rattle.protobuf_parse_diagnostics.proofs.checks.tell_unread.Given as goal

abbrev pub invariant-loop-file : goal.invariant-loop-file
invariant-loop-file g l = Tells
    (flat_map (unread_lines l.given.sources.now) (take l.file-index l.given.unread.now))
    l.initial.told.items l.told.items
