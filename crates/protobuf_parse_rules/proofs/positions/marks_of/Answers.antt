use Rattle.std.proofs.Common.{◌∙◌, sym, subst, ℤ, List, pos}
use Rattle.std.proofs.lemmas.List.{take_more}
use Rattle.protobuf_parse_rules.specs.Marks.{Marks}
use Rattle.protobuf_parse_rules.proofs.Marking.{marks_more, marks_same}
use Rattle.protobuf_parse_rules.proofs.positions.marks_of.Goals.{in-Some, in-None}
use Rattle.protobuf_parse_rules.proofs.positions.marks_of.Goals as goal

pub numbers-preserved : goal.numbers-preserved
numbers-preserved c =
    let before = c.numbers.invariant in
    let next = take_more c.args.numbers.now c.numbers.number-index (pos 0) c.numbers-test.true in
    let now = c.match-named_among in
    subst (λ (ns : List ℤ). Marks ns c.args.count now.marks.items) (sym next)
    (elim now.branch [
      | in-Some w ↦ rw w.marks-is
          (marks_more _ _ _ _ _ (sym c.named_among.ensures ∙ w.in-Some.is) before)
      | in-None w ↦ rw w.marks-is
          (marks_same _ _ _ _ (sym c.named_among.ensures ∙ w.in-None.is) before)
    ])
