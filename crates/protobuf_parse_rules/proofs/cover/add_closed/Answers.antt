use Rattle.std.proofs.Common.{sym, ◌∙◌, rules}
use Rattle.protobuf_parse_rules.proofs.Covering.{closed_more, closed_none}
use Rattle.protobuf_parse_rules.proofs.cover.add_closed.Goals as goal

pub returns-in_ok-push-2 : goal.returns-in_ok-push-2
returns-in_ok-push-2 c = λ ranges are.
    closed_more ranges c.args.start.now c.args.end.now _ _ c.args.ends.now.firsts.items
    c.push.new.self.items c.args.ends.now.lasts.items c.push-then-not-is_below.new.self.items
    (sym c.is_below.ensures ∙ c.if-not-is_below.true) are c.in_ok-push.ensures.items
    c.in_ok-push-2.ensures.items (search rules) (search rules)

pub returns-else-not-is_below : goal.returns-else-not-is_below
returns-else-not-is_below c = λ ranges are.
    closed_none ranges c.args.start.now c.args.end.now c.args.ends.now.firsts.items
    c.args.ends.now.lasts.items (sym c.is_below.ensures ∙ c.if-not-is_below.false) are
