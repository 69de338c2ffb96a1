use Rattle.std.proofs.Common.{◌∙◌, ap}
use Rattle.std.specs.List.{list_any}
use Rattle.protobuf_parse_set_rules.proofs.Ways.{any_more, any_put}
use Rattle.protobuf_parse_set_rules.proofs.sight.add_each.Goals as goal

pub positions-preserved : goal.positions-preserved
positions-preserved c = λ test.
    any_more test c.args.positions.now c.positions.position-index _ _ _ _ c.positions-test.true
    (ap (list_any test) c.in_ok-insert.ensures.keys ∙ any_put test c.positions.open.keys _)
    (c.positions.invariant test)
