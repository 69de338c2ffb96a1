use Rattle.std.proofs.Common.{◌≡◌, map, take}
use Rattle.protobuf_parse_model.specs.ByHash.{hash_of}
use Rattle.protobuf_parse_elaboration.proofs.constructs.unlike.hashes_of.Given as goal

abbrev pub invariant-loop-item : goal.invariant-loop-item
invariant-loop-item g l =
    l.hashes.items ≡ map (λ x. hash_of (g.T.Named.name_of x)) (take l.item-index l.items)
