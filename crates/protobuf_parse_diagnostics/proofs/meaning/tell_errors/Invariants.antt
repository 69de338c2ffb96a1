use Rattle.std.proofs.Common.{map, take}
use Rattle.protobuf_parse_diagnostics.specs.Told.{meaning_line}
use Rattle.protobuf_parse_diagnostics.specs.Telling.{Tells}
use Rattle.protobuf_parse_diagnostics.proofs.meaning.tell_errors.Given as goal

abbrev pub invariant-loop-error : goal.invariant-loop-error
invariant-loop-error l = Tells (map (meaning_line l.origin) (take l.error-index l.errors))
    l.initial.told.items l.told.items
