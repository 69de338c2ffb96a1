use Rattle.std.proofs.Common.{refl, sym, string_bytes}
use Rattle.std.proofs.lemmas.Bool.{eq-eqb, ne_eqb}
use Rattle.std.proofs.lemmas.List.{map_push}
use Rattle.std.proofs.lemmas.Result.{err_from_is_err_and}
use Rattle.protobuf_parse_set_reader.specs.Values.{alone, text_in}
use Rattle.protobuf_parse_set_reader.proofs.Going.{says_more, says_nothing, stops}
use Rattle.protobuf_parse_set_reader.proofs.Steps.{fails_first}
use Rattle.protobuf_parse_set_reader.proofs.lists.texts.Goals.{then-record-number+in_ok-text+in_ok-push, else-record-number}
use Rattle.protobuf_parse_set_reader.proofs.lists.texts.Goals as goal

pub returns-in_err-text : goal.returns-in_err-text
returns-in_err-text c =
    let p = err_from_is_err_and c.from_residual.result c.from_residual.ensures.1 in
    rw (p.1, p.2, sym c.deref-record-items.ensures.value)
    (stops (alone text_in) c.args.number c.deref-record-items.result.now _ _ _ _
    c.loop-record-test.true c.record-item.is (eq-eqb _ _ c.if-record-number.true)
    c.loop-record.invariant (fails_first _ _ _ c.in_err-text.ensures))

pub loop-record-preserved : goal.loop-record-preserved
loop-record-preserved c = elim c.if-record-number.branch [
  | then-record-number+in_ok-text+in_ok-push w ↦
      rw (w.all-is, w.in_ok-push.ensures.items, map_push string_bytes c.loop-record.all.items _)
      (says_more (alone text_in) c.args.number c.deref-record-items.result.now _ _ _ _
      c.loop-record-test.true c.record-item.is (eq-eqb _ _ w.if-record-number.true)
      c.loop-record.invariant (rw w.in_ok-text.ensures refl))
  | else-record-number w ↦
      rw w.all-is
      (says_nothing (alone text_in) c.args.number c.deref-record-items.result.now _ _ _
      c.loop-record-test.true c.record-item.is (ne_eqb _ _ w.if-record-number.false)
      c.loop-record.invariant)
]
