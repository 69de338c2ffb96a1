-- Each turn looks at the next part.
use Rattle.std.proofs.Common.{◌+◌, length, drop, sym, ap, ◌∙◌, lit<, arith}
use Rattle.std.proofs.lemmas.Iterator.Consumers.{YieldsList-turn, YieldsList-end}
use Rattle.std.proofs.lemmas.Iterator.Splits.{YieldsList-from_str_split}
use Rattle.std.proofs.lemmas.List.{drop_all, length_push}
use Rattle.protobuf_parse_base.specs.Paths.{first_fault, first_fault_or, slash_parts}
use Rattle.protobuf_parse_base.proofs.PathTexts.{first_fault-turn, first_fault_or-found}
use Rattle.protobuf_parse_base.proofs.PathTexts.{first_fault_or-none}
use Rattle.protobuf_parse_base.proofs.proto_path.check.fault_of_parts.Goals as goal

pub returns-then-is_some : goal.returns-then-is_some
returns-then-is_some c =
    let turn = YieldsList-turn
    (YieldsList-from_str_split {s = c.into_iter-part-iterator.result} 47 c.args.text.now
    (lit< tt) (cc) (cc) (cc)) c.loop-part.yielded _ c.loop-part.yielded_by _ _
    c.in-Some.part c.in-Some.is c.next.ensures.steps in
    let step = first_fault-turn (slash_parts c.args.text.now)
    (length c.loop-part.yielded) c.in-Some.part.now turn in
    let found = first_fault_or-found c.fault_of_part-fault.result
    (first_fault (drop (length c.loop-part.yielded + 1) (slash_parts c.args.text.now)))
    c.if-is_some.ensures in
    sym found
    ∙ (ap (λ fault.
    first_fault_or fault
    (first_fault (drop (length c.loop-part.yielded + 1) (slash_parts c.args.text.now))))
    c.fault_of_part-fault.ensures
    ∙ (sym step ∙ c.loop-part.invariant))

pub loop-part-preserved : goal.loop-part-preserved
loop-part-preserved c =
    let turn = YieldsList-turn
    (YieldsList-from_str_split {s = c.into_iter-part-iterator.result} 47 c.args.text.now
    (lit< tt) (cc) (cc) (cc)) c.loop-part.yielded _ c.loop-part.yielded_by _ _
    c.in-Some.part c.in-Some.is c.next.ensures.steps in
    let step = first_fault-turn (slash_parts c.args.text.now)
    (length c.loop-part.yielded) c.in-Some.part.now turn in
    let none = first_fault_or-none c.fault_of_part-fault.result
    (first_fault (drop (length c.loop-part.yielded + 1) (slash_parts c.args.text.now)))
    c.if-is_some.ensures in
    ap (λ n. first_fault (drop n (slash_parts c.args.text.now)))
    (length_push c.loop-part.yielded c.in-Some.part)
    ∙ (sym none
    ∙ (ap (λ fault.
    first_fault_or fault
    (first_fault (drop (length c.loop-part.yielded + 1) (slash_parts c.args.text.now))))
    c.fault_of_part-fault.ensures
    ∙ (sym step ∙ c.loop-part.invariant)))

pub returns : goal.returns
returns c =
    let end = YieldsList-end
    (YieldsList-from_str_split {s = c.into_iter-part-iterator.result} 47 c.args.text.now
    (lit< tt) (cc) (cc) (cc)) c.loop-part.yielded _ c.loop-part.yielded_by _ _ c.in-None.is
    c.next.ensures.steps in
    sym (ap first_fault
    (drop_all (length c.loop-part.yielded) (slash_parts c.args.text.now)
    (omega (arith, end.1)))) ∙ c.loop-part.invariant
