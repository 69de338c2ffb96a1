use Rattle.std.proofs.Common.{rules}
use Rattle.std.proofs.lemmas.List.Sorted.{IsNonDecreasingBy-from_sort_by_key, answers_always}
use Rattle.std.proofs.lemmas.Result.{on_ok_weaker}
use Rattle.protobuf_parse_merged.specs.declared.occurrences.Occurrence as code
use Rattle.protobuf_parse_merged.proofs.Ordered.{sorted}
use Rattle.protobuf_parse_merged.proofs.runs.sort_by_number.Goals as goal

pub returns : goal.returns
returns c =
    let number = λ (o : code.Occurrence). o.number in
    let stable = c.sort_by_key.ensures.stable number
    (answers_always _ _ _ (λ f a r q k. search rules)) in
    on_ok_weaker c.sort_by_key.result
    (λ rise. sorted c.args.occurrences.now.items c.sort_by_key.new.self.items
    (IsNonDecreasingBy-from_sort_by_key number _ rise (λ a r q k. search rules)) stable)
    c.sort_by_key.ensures.sorted
