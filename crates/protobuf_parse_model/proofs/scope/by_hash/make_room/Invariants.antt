use Rattle.std.proofs.Common.{◌≡◌, ℕ, suc, ◌-◌, length}
use Rattle.protobuf_parse_model.specs.ByHash.{names_of_hash}
use Rattle.protobuf_parse_model.proofs.scope.by_hash.make_room.Given as goal

abbrev pub invariant-loop-alloc : goal.invariant-loop-alloc
invariant-loop-alloc l = (hash : ℕ)
    → names_of_hash l.maps.items hash ≡ names_of_hash l.initial.maps.items hash

abbrev pub decreases-loop-alloc : goal.decreases-loop-alloc
decreases-loop-alloc l = suc l.map - length l.maps.items
