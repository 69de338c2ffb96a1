use Rattle.std.proofs.Common.{◌≡◌, Bool, Option, IfOk, sym, subst, ap, ◌∙◌}
use Rattle.std.proofs.lemmas.Result.{on_ok_weaker}
use Rattle.protobuf_parse_merged.specs.declared.oneofs.Members.{Members}
use Rattle.protobuf_parse_merged.specs.Behind.{replaced_by}
use Rattle.protobuf_parse_merged.specs.Inside.{held_view}
use Rattle.protobuf_parse_merged.proofs.Members.{any_by, any_by_none, none_by, noted_by}
use Rattle.protobuf_parse_merged.proofs.oneofs.is_replaced.Goals as goal

pub returns-in-Some-clause-answer : goal.returns-in-Some-clause-answer
returns-in-Some-clause-answer c = λ os has.
    let o = c.args.occurrence in
    subst (λ (a : Bool). IfOk c.note.result (λ b. b ≡ a))
    (ap (λ (m : Option Members). replaced_by m o.number) (has.at c.in-Some.oneof)
    ∙ sym (any_by o.oneof o.number (held_view o.held) os c.in-Some.oneof c.in-Some.is))
    c.note.ensures.answer

pub returns-in-Some-clause-noted : goal.returns-in-Some-clause-noted
returns-in-Some-clause-noted c = λ os has.
    let o = c.args.occurrence in
    on_ok_weaker c.note.result
    (λ put. noted_by o.oneof o.number (held_view o.held) os c.args.behind.now c.note.new.behind
    c.in-Some.oneof c.in-Some.is has put)
    c.note.ensures.noted

pub returns-in-None-clause-answer : goal.returns-in-None-clause-answer
returns-in-None-clause-answer c = λ os has.
    let o = c.args.occurrence in
    sym (any_by_none o.oneof o.number (held_view o.held) os c.in-None.is)

pub returns-in-None-clause-noted : goal.returns-in-None-clause-noted
returns-in-None-clause-noted c = λ os has.
    let o = c.args.occurrence in
    none_by o.oneof o.number (held_view o.held) os c.args.behind.now c.in-None.is has
