use Rattle.std.proofs.Common.{sym}
use Rattle.protobuf_parse_source_info.specs.InnerViews.{doing, spot}
use Rattle.protobuf_parse_source_info.proofs.Steps.{left_is}
use Rattle.protobuf_parse_source_info.proofs.Runs.{empty_is, no_empty}
use Rattle.protobuf_parse_source_info.proofs.walker.Walker.take_empty.Goals as goal

pub returns-in_ok-push : goal.returns-in_ok-push
returns-in_ok-push c =
    let w = c.args.self.now in
    rw (c.in_ok-push.ensures.items, c.gap-gap.ensures)
    (empty_is (doing w) (spot c.in-Some.token) _
    (left_is w.tokens.now w.taken c.in-Some.token c.in-Some.ensures))

pub returns-in_default : goal.returns-in_default
returns-in_default c = no_empty (doing c.args.self.now) (sym c.in_default.ensures)
