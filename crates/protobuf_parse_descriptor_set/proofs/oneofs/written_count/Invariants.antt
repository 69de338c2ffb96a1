use Rattle.std.proofs.Common.{◌≡◌, take, not}
use Rattle.std.specs.Prelude.{count_by}
use Rattle.protobuf_parse_descriptor_set.proofs.oneofs.written_count.Given as goal

abbrev pub invariant-loop-is_synthetic : goal.invariant-loop-is_synthetic
invariant-loop-is_synthetic l = l.count ≡ count_by not (take l.is_synthetic-index l.synthetic)
