use Rattle.std.proofs.Common.{take}
use Rattle.protobuf_parse_diagnostics.specs.Later.{AreLater}
use Rattle.protobuf_parse_diagnostics.proofs.later.later_diagnostics.Given as goal

abbrev pub invariant-loop-file : goal.invariant-loop-file
invariant-loop-file l = AreLater l.sources (take l.file-index l.unread) l.told.items
