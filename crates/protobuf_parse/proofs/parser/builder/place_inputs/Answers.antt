use Rattle.std.proofs.Common.{◌∙◌}
use Rattle.protobuf_parse.proofs.Building.{placed-next}
use Rattle.protobuf_parse.proofs.parser.builder.place_inputs.Goals as goal

pub loop-i-preserved : goal.loop-i-preserved
loop-i-preserved c =
    placed-next _ _ _ _ _ _ _ _ _ c.loop-i-test.true c.requires c.index-names-i.is
    c.index-inputs-i.is (c.in_ok-name.ensures ∙ c.as_path.ensures)
    (rw c.deref.ensures at c.in_ok-fs_path.ensures.ok) c.loop-i.invariant
    c.in_ok-push.ensures.items
