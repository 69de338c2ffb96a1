use Rattle.std.proofs.Common.{sym}
use Rattle.std.proofs.lemmas.Bool.{eq-eqb, ne_eqb}
use Rattle.std.proofs.lemmas.Result.{err_from_is_err_and}
use Rattle.protobuf_parse_set_reader.specs.Values.{ints_in}
use Rattle.protobuf_parse_set_reader.proofs.Going.{says_more, says_nothing, stops}
use Rattle.protobuf_parse_set_reader.proofs.lists.ints.Goals.{then-record-number+in_ok-some+in_ok-append, else-record-number}
use Rattle.protobuf_parse_set_reader.proofs.lists.ints.Goals as goal

pub returns-in_err-some : goal.returns-in_err-some
returns-in_err-some c =
    let p = err_from_is_err_and c.from_residual.result c.from_residual.ensures.1 in
    rw (p.1, p.2, sym c.deref-record-items.ensures.value)
    (stops ints_in c.args.number c.deref-record-items.result.now _ _ _ _
    c.loop-record-test.true c.record-item.is (eq-eqb _ _ c.if-record-number.true)
    c.loop-record.invariant c.in_err-some.ensures)

pub loop-record-preserved : goal.loop-record-preserved
loop-record-preserved c = elim c.if-record-number.branch [
  | then-record-number+in_ok-some+in_ok-append w ↦
      rw (w.all-is, w.in_ok-append.ensures.items)
      (says_more ints_in c.args.number c.deref-record-items.result.now _ _ _ _
      c.loop-record-test.true c.record-item.is (eq-eqb _ _ w.if-record-number.true)
      c.loop-record.invariant w.in_ok-some.ensures)
  | else-record-number w ↦
      rw w.all-is
      (says_nothing ints_in c.args.number c.deref-record-items.result.now _ _ _
      c.loop-record-test.true c.record-item.is (ne_eqb _ _ w.if-record-number.false)
      c.loop-record.invariant)
]
