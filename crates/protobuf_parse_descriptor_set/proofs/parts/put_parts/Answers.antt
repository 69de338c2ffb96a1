use Rattle.protobuf_parse_descriptor_set.specs.Items.{part}
use Rattle.protobuf_parse_descriptor_set.proofs.Joining.{none_yet, one_more, all_of}
use Rattle.protobuf_parse_descriptor_set.proofs.parts.put_parts.Goals as goal

pub loop-each-init : goal.loop-each-init
loop-each-init g c = none_yet _

pub loop-each-preserved : goal.loop-each-preserved
loop-each-preserved g c =
    one_more (λ p. part c.args.number (g.P.Described.items p)) g.P.Described.view _ _ _ _ _ _
    c.loop-each-test.true c.each-item.is c.loop-each.invariant c.in_ok-put_part.ensures

pub returns : goal.returns
returns g c = all_of (λ p. part c.args.number (g.P.Described.items p)) g.P.Described.view _ _ _ _
    c.loop-each-test.false c.loop-each.invariant
