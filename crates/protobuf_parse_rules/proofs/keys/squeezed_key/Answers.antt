use Rattle.std.proofs.Common.{◌∙◌}
use Rattle.protobuf_parse_rules.proofs.Squeezed.{squeezed_folded}
use Rattle.protobuf_parse_rules.proofs.keys.squeezed_key.Goals as goal

pub returns : goal.returns
returns c =
    c.squeezed_bytes_key.ensures
    ∙ c.rest.invariant
    ∙ squeezed_folded c.args.name.now c.args.front c.utf8.name
