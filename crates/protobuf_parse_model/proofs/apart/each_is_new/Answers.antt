use Rattle.std.proofs.Common.{ℕ, ◌+◌, ◌<◌, get_or, set, true, false, sym, ap, ◌∙◌, subst, arith}
use Rattle.std.proofs.Common.{below_more, length-set}
use Rattle.std.proofs.Math.Dec.{eqb}
use Rattle.std.proofs.lemmas.List.{get_or_default}
use Rattle.std.proofs.lemmas.Map.Keys.{IsDistinct-from_apart}
use Rattle.protobuf_parse_model.proofs.Slots.{DifferAt, SlotsTaken, differ_by_search}
use Rattle.protobuf_parse_model.proofs.Slots.{differ_by_slot}
use Rattle.protobuf_parse_model.proofs.Slots.{slots_more}
use Rattle.protobuf_parse_model.proofs.apart.each_is_new.Goals as goal
use Rattle.protobuf_parse_model.proofs.apart.each_is_new.Goals.{else-taken-slot-via-else-taken-slot}
use Rattle.protobuf_parse_model.proofs.apart.each_is_new.Goals.{else-taken-slot-via-then-taken-slot+else-contains}

pub loop-i-preserved : goal.loop-i-preserved
loop-i-preserved c =
    let keys = c.args.keys.now in
    let l = c.loop-i in
    let within = c.loop-i-test.true in
    let slot_is = c.slot_of-slot.ensures.value in
    let new : (j : ℕ) → j < l.i → DifferAt keys j l.i = elim c.else-taken-slot.branch [
      | else-taken-slot-via-then-taken-slot+else-contains w ↦
          differ_by_search keys l.i
          (λ j d inside. w.if-contains.ensures.cases j d (omega arith) inside) within
      | else-taken-slot-via-else-taken-slot w ↦ differ_by_slot keys l.i l.taken l.invariant.1
          (ap (λ s. get_or l.taken s false) (sym slot_is) ∙ w.if-taken-slot.false)
    ] in (
      λ j k less upto. below_more (λ n. j < n → DifferAt keys j n) l.i
          (λ n below lower. l.invariant.0 j n lower below) (new j) k upto less,
      subst (λ s. SlotsTaken (set l.taken s true) keys (l.i + 1)) (sym slot_is)
          (slots_more keys l.i l.taken (omega (arith, l.invariant.2)) l.invariant.1),
      omega (arith, length-set l.taken c.slot_of-slot.result true, l.invariant.2),
    )

pub returns : goal.returns
returns c = λ u. IsDistinct-from_apart eqb c.args.keys.now (λ i j d less within.
    let h = c.loop-i.invariant.0 i j less (omega arith) in
    ap (λ x. eqb x (get_or c.args.keys.now j d))
    (get_or_default c.args.keys.now i d 0 (omega arith))
    ∙ ap (λ x. eqb (get_or c.args.keys.now i 0) x) (get_or_default c.args.keys.now j d 0 within)
    ∙ h)
