use Rattle.std.proofs.Common.{◌∙◌, sym}
use Rattle.protobuf_parse_options.proofs.Picks.{beside_at, not_beside}
use Rattle.protobuf_parse_options.proofs.spots.found.file_numbered.Goals as goal

pub returns-in-Ok : goal.returns-in-Ok
returns-in-Ok c =
    c.file_at.ensures ∙ sym (beside_at c.args.picked.now c.args.number c.in-Ok.position
    (rw c.in-Ok.is at c.binary_search.ensures.position))

pub returns-in-Err : goal.returns-in-Err
returns-in-Err c =
    sym (not_beside c.args.picked.now c.args.number c.in-Err.field-0
    (rw c.in-Err.is at c.binary_search.ensures.position))
