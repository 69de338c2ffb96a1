use Rattle.std.proofs.Common.{◌≡◌, drop}
use Rattle.std.specs.List.{list_any}
use Rattle.protobuf_parse_command.specs.Made.{is_fatal}
use Rattle.protobuf_parse_command.proofs.told.has_fatal.Given as goal

abbrev pub invariant-loop-each : goal.invariant-loop-each
invariant-loop-each l = list_any (is_fatal l.fatal_warnings) (drop l.each-index l.told)
    ≡ list_any (is_fatal l.fatal_warnings) l.told
