use Rattle.std.proofs.Common.{sym}
use Rattle.protobuf_parse_source_info.specs.InnerViews.{doing, spot}
use Rattle.protobuf_parse_source_info.proofs.Steps.{taken_is, none_taken, left_is}
use Rattle.protobuf_parse_source_info.proofs.walker.Walker.take.Goals as goal

pub returns-in-Some : goal.returns-in-Some
returns-in-Some c =
    let w = c.args.self.now in
    rw c.clear.ensures.items (taken_is (doing w) (spot c.in-Some.token) _
    (left_is w.tokens.now w.taken c.in-Some.token c.in-Some.ensures))

pub returns-in_default : goal.returns-in_default
returns-in_default c = none_taken (doing c.args.self.now) (sym c.in_default.ensures)
