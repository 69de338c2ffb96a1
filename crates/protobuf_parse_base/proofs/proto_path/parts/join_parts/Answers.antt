use Rattle.std.proofs.Common.{◌≡◌, ◌∷◌, rules}
use Rattle.protobuf_parse_base.proofs.JoinedParts.{joined-of}
use Rattle.protobuf_parse_base.proofs.proto_path.parts.join_parts.Goals as goal

pub returns : goal.returns
returns c =
    let split : c.args.parts.now ≡ c.in-Some.first.now ∷ c.in-Some.others.now = search rules in
    joined-of _ _ _ _ _ split c.in_ok-text.ensures.ok c.in_ok-put_next_parts.ensures
