use Rattle.std.proofs.Common.{◌≡◌, drop}
use Rattle.protobuf_parse_run.specs.Run.{row_of, rows}
use Rattle.protobuf_parse_run.proofs.asking.bundled_text.Given as goal

abbrev pub invariant-loop-name : goal.invariant-loop-name
invariant-loop-name l = row_of l.path (rows (drop l.name-index l.bundled))
    ≡ row_of l.path (rows l.bundled)
