use Rattle.std.proofs.Common.{◌∙◌}
use Rattle.protobuf_parse_model.proofs.Scopes.{searched-any}
use Rattle.protobuf_parse_model.proofs.linking.is_reached.Goals as goal

pub returns : goal.returns
returns c = c.is_ok.ensures.value
    ∙ searched-any c.args.seen.now.reach.now c.args.file _ c.args.seen.now.reach_ascends
    c.binary_search.ensures.position
