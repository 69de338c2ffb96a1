use Rattle.std.proofs.Common.{◌≡◌, ℤ, pos, negsuc, length, refl, arith}
use Rattle.std.specs.Prelude.{Option, Some, None}
use Rattle.std.proofs.lemmas.List.FromFn.{length-map-range_with_len}
use Rattle.protobuf_parse_model.specs.Descriptors.{MessageParts}
use Rattle.protobuf_parse_descriptor_set.specs.OneofOrder.{is_synthetic, synthetic, oneofs_in_set}
use Rattle.protobuf_parse_descriptor_set.specs.OneofOrder.{index_in_set}
use Rattle.protobuf_parse_descriptor_set.specs.Laws.{oneof_at}
use Rattle.protobuf_parse_descriptor_set.proofs.Indices.{is_permutation, moved_in_set}
use Rattle.protobuf_parse_descriptor_set.proofs.Indices.{indices_apart, marked_last}
use Rattle.protobuf_parse_descriptor_set.proofs.laws.oneofs_are_moved.Goals as goal

-- a mark for each oneof
as_many : (m : MessageParts) → length (synthetic m) ≡ length m.oneof_decl
as_many m = length-map-range_with_len (is_synthetic m.field) 0 (length m.oneof_decl)

stays : (m : MessageParts) (index : Option ℤ)
    → oneof_at (oneofs_in_set m) (index_in_set (synthetic m) index) ≡ oneof_at m.oneof_decl index
stays m None = refl
stays m (Some (pos i)) = moved_in_set (synthetic m) m.oneof_decl i (as_many m)
stays m (Some (negsuc i)) = refl

pub returns : goal.returns
returns c m = record {
  permutation = is_permutation (synthetic m) m.oneof_decl (as_many m);
  stays = λ f. stays m f.oneof_index;
  apart = λ f g e. indices_apart (synthetic m) f.oneof_index g.oneof_index e;
  last = λ i j below_i below_j other mark. marked_last (synthetic m) i j
      (omega (arith, as_many m, below_i)) (omega (arith, as_many m, below_j)) other mark;
}
