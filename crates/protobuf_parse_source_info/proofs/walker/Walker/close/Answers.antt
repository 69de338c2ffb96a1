use Rattle.std.proofs.Common.{List, ap}
use Rattle.protobuf_parse_source_info.specs.Walks.{Located}
use Rattle.protobuf_parse_source_info.specs.InnerViews.{doing, closed}
use Rattle.protobuf_parse_source_info.proofs.walker.Walker.close.Goals as goal

pub returns : goal.returns
unfolding closed
returns c =
    let d = doing c.args.self.now in
    ap (λ (f : List Located). record { found = f; ahead = d.ahead }) c.put_end.ensures
