use Rattle.protobuf_parse_model.specs.ByHash.{hash_of}
use Rattle.protobuf_parse_elaboration.proofs.Unlike.{unlike}
use Rattle.protobuf_parse_elaboration.proofs.constructs.unlike.have_unlike_hashes.Goals as goal

pub returns : goal.returns
returns g c = λ apart declared named.
    unlike hash_of g.T.Named.name_of c.args.items.now c.in_ok-hashes.hashes.items
    c.in_ok-hashes.ensures (c.are_apart.ensures apart) declared named
