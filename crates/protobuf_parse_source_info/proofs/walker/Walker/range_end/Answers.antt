use Rattle.std.proofs.Common.{sym, codes}
use Rattle.protobuf_parse_source_info.specs.Parts.{range_end}
use Rattle.protobuf_parse_source_info.proofs.Steps.{takes_then}
use Rattle.protobuf_parse_source_info.proofs.Runs.{next_then, next_else}
use Rattle.protobuf_parse_source_info.proofs.walker.Walker.range_end.Goals as goal

pub returns-then-sees : goal.returns-then-sees
unfolding range_end
returns-then-sees c =
    next_then (codes "to") _ (sym c.if-sees.ensures)
    (takes_then c.take.ensures c.in_ok-token.ensures)

pub returns : goal.returns
unfolding range_end
returns c = next_else (codes "to") _ (sym c.if-sees.ensures) c.in_ok-again.ensures
