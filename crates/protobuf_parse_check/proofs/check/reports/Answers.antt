use Rattle.std.proofs.Common.{◌≡◌, ◌∙◌, ◌++◌, [], ap, append-nil, sym}
use Rattle.std.proofs.lemmas.Iterator.Adapters.{YieldsList-from_vec}
use Rattle.std.proofs.lemmas.Iterator.Consumers.{YieldsList-end}
use Rattle.std.proofs.lemmas.List.{map-id}
use Rattle.protobuf_parse_check.specs.SoFar.{reports_of}
use Rattle.protobuf_parse_check.proofs.Finishing.{nil-behind, no-reports}
use Rattle.protobuf_parse_check.proofs.check.reports.Goals as goal

pub returns : goal.returns
returns c =
    let verdicts = c.args.judge.verdicts.items in
    let rest = c.loop-verdict.verdict-iterator.rest.items in
    let end = YieldsList-end
    (YieldsList-from_vec {s = c.into_iter-verdict-iterator.result} verdicts (cc) (cc))
    c.loop-verdict.yielded c.loop-verdict.verdict-iterator c.loop-verdict.yielded_by _
    c.next.new.self c.in-None.is c.next.ensures.steps in
    let all : c.loop-verdict.yielded ≡ verdicts = sym (map-id c.loop-verdict.yielded) ∙ end.0 in
    let old = c.loop-verdict.invariant in
    let none : rest ≡ [] = nil-behind verdicts rest (ap (λ xs. xs ++ rest) (sym all) ∙ old.0) in
    sym (append-nil c.loop-verdict.reports.items)
    ∙ ap (λ rs. c.loop-verdict.reports.items ++ rs)
    (sym (ap (reports_of c.loop-verdict.entries.rest.items) none
    ∙ no-reports c.loop-verdict.entries.rest.items))
    ∙ old.1
