use Rattle.std.proofs.Common.{◌≡◌, ◌+◌, not}
use Rattle.std.specs.Prelude.{count_by}
use Rattle.protobuf_parse_descriptor_set.specs.OneofOrder.{marks_before, others_before, new_index}
use Rattle.protobuf_parse_descriptor_set.specs.Told.{Tells}
use Rattle.protobuf_parse_descriptor_set.proofs.oneofs.new_indices.Given as goal

abbrev pub invariant-loop-is_synthetic : goal.invariant-loop-is_synthetic
invariant-loop-is_synthetic l =
    (l.next_written ≡ others_before l.synthetic l.is_synthetic-index)
    × (l.next_synthetic ≡ count_by not l.synthetic + marks_before l.synthetic l.is_synthetic-index)
    × Tells (new_index l.synthetic) l.is_synthetic-index l.indices.items
