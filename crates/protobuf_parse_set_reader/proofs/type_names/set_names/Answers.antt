use Rattle.std.proofs.Common.{refl, sym}
use Rattle.std.proofs.lemmas.Bool.{eq-eqb, ne_eqb}
use Rattle.std.proofs.lemmas.List.{map-append}
use Rattle.std.proofs.lemmas.Result.{err_from_is_err_and}
use Rattle.protobuf_parse_set_reader.specs.Bodies.{type_name_view}
use Rattle.protobuf_parse_set_reader.specs.Values.{part_in}
use Rattle.protobuf_parse_set_reader.specs.TypeNames.{file_names}
use Rattle.protobuf_parse_set_reader.proofs.Going.{says_more, says_nothing, stops}
use Rattle.protobuf_parse_set_reader.proofs.Steps.{fails_first}
use Rattle.protobuf_parse_set_reader.proofs.type_names.set_names.Goals.{then-record-eq1+in_ok-file+in_ok-names+in_ok-append, else-record-eq1}
use Rattle.protobuf_parse_set_reader.proofs.type_names.set_names.Goals as goal

pub returns-in_err-file : goal.returns-in_err-file
unfolding part_in
returns-in_err-file c =
    let p = err_from_is_err_and c.from_residual.result c.from_residual.ensures.1 in
    rw (p.1, p.2, sym c.deref-record-items.ensures.value)
    (stops (part_in file_names) 1 c.deref-record-items.result.now _ _ _ _
    c.loop-record-test.true c.record-item.is (eq-eqb _ _ c.if-record-eq1.true)
    c.loop-record.invariant (fails_first _ _ _ c.in_err-file.ensures))

pub returns-in_err-names : goal.returns-in_err-names
unfolding part_in
returns-in_err-names c =
    let p = err_from_is_err_and c.from_residual-in_err-names.result
    c.from_residual-in_err-names.ensures.1 in
    rw (p.1, p.2, sym c.deref-record-items.ensures.value)
    (stops (part_in file_names) 1 c.deref-record-items.result.now _ _ _ _
    c.loop-record-test.true c.record-item.is (eq-eqb _ _ c.if-record-eq1.true)
    c.loop-record.invariant (rw c.in_ok-file.ensures c.in_err-names.ensures))

pub loop-record-preserved : goal.loop-record-preserved
unfolding part_in
loop-record-preserved c = elim c.if-record-eq1.branch [
  | then-record-eq1+in_ok-file+in_ok-names+in_ok-append w ↦
      rw (
        w.all-is,
        w.in_ok-append.ensures.items,
        map-append type_name_view c.loop-record.all.items w.in_ok-names.names.items,
      )
      (says_more (part_in file_names) 1 c.deref-record-items.result.now _ _ _ _
      c.loop-record-test.true c.record-item.is (eq-eqb _ _ w.if-record-eq1.true)
      c.loop-record.invariant (rw (w.in_ok-file.ensures, w.in_ok-names.ensures) refl))
  | else-record-eq1 w ↦
      rw w.all-is
      (says_nothing (part_in file_names) 1 c.deref-record-items.result.now _ _ _
      c.loop-record-test.true c.record-item.is (ne_eqb _ _ w.if-record-eq1.false)
      c.loop-record.invariant)
]
