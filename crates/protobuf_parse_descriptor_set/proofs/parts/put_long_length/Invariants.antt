use Rattle.protobuf_parse_descriptor_set.proofs.Lengths.{Groups}
use Rattle.protobuf_parse_descriptor_set.proofs.parts.put_long_length.Given as goal

abbrev pub invariant-groups : goal.invariant-groups
invariant-groups l = Groups l.count l.rest l.fn.out.items l.out.items

abbrev pub decreases-groups : goal.decreases-groups
decreases-groups l = l.rest
