use Rattle.std.proofs.Common.{take, flat_map}
use Rattle.protobuf_parse_descriptor_set.specs.Items.{int}
use Rattle.protobuf_parse_descriptor_set.specs.Writing.{Writes}
use Rattle.protobuf_parse_descriptor_set.proofs.records.put_ints.Given as goal

abbrev pub invariant-loop-value : goal.invariant-loop-value
invariant-loop-value l = Writes (flat_map (int l.number) (take l.value-index l.values))
    l.fn.out.items l.out.items
