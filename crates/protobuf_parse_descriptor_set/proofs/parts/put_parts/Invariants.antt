use Rattle.std.proofs.Common.{map, take, flat_map}
use Rattle.protobuf_parse_descriptor_set.specs.Items.{part}
use Rattle.protobuf_parse_descriptor_set.specs.Writing.{Writes}
use Rattle.protobuf_parse_descriptor_set.proofs.parts.put_parts.Given as goal

abbrev pub invariant-loop-each : goal.invariant-loop-each
invariant-loop-each g l = Writes (flat_map (λ p. part l.number (g.P.Described.items p))
    (map g.P.Described.view (take l.each-index l.parts)))
    l.fn.out.items l.out.items
