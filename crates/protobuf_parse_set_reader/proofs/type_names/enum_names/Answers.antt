use Rattle.std.proofs.Common.{refl, sym}
use Rattle.std.proofs.lemmas.Bool.{eq-eqb, ne_eqb}
use Rattle.std.proofs.lemmas.List.{map_push}
use Rattle.std.proofs.lemmas.Result.{err_from_is_err_and}
use Rattle.protobuf_parse_records.specs.Views.{record_view}
use Rattle.protobuf_parse_set_reader.specs.Bodies.{type_name_view}
use Rattle.protobuf_parse_set_reader.specs.Values.{alone, part_in}
use Rattle.protobuf_parse_set_reader.specs.TypeNames.{enum_name}
use Rattle.protobuf_parse_set_reader.proofs.Going.{says_more, says_nothing, stops}
use Rattle.protobuf_parse_set_reader.proofs.Steps.{fails_first}
use Rattle.protobuf_parse_set_reader.proofs.type_names.enum_names.Goals.{then-record-number+in_ok-inside+in_ok-name+in_ok-push, else-record-number}
use Rattle.protobuf_parse_set_reader.proofs.type_names.enum_names.Goals as goal

pub returns-in_err-inside : goal.returns-in_err-inside
unfolding part_in
returns-in_err-inside c =
    let p = err_from_is_err_and c.from_residual.result c.from_residual.ensures.1 in
    rw (p.1, p.2, sym c.deref-record-items.ensures.value)
    (stops (alone (part_in (enum_name c.args.scope.now))) c.args.number
    c.deref-record-items.result.now _ _ _ _ c.loop-record-test.true c.record-item.is
    (eq-eqb _ _ c.if-record-number.true) c.loop-record.invariant
    (fails_first _ _ _ (fails_first _ _ _ c.in_err-inside.ensures)))

pub returns-in_err-name : goal.returns-in_err-name
unfolding part_in
returns-in_err-name c =
    let p = err_from_is_err_and c.from_residual-in_err-name.result
    c.from_residual-in_err-name.ensures.1 in
    rw (p.1, p.2, sym c.deref-record-items.ensures.value)
    (stops (alone (part_in (enum_name c.args.scope.now))) c.args.number
    c.deref-record-items.result.now _ _ _ _ c.loop-record-test.true c.record-item.is
    (eq-eqb _ _ c.if-record-number.true) c.loop-record.invariant
    (fails_first _ (part_in (enum_name c.args.scope.now) (record_view c.record-item.result)) _
    (rw c.in_ok-inside.ensures c.in_err-name.ensures)))

pub loop-record-preserved : goal.loop-record-preserved
unfolding part_in
loop-record-preserved c =
    let said = alone (part_in (enum_name c.args.scope.now)) in
    elim c.if-record-number.branch [
      | then-record-number+in_ok-inside+in_ok-name+in_ok-push w ↦
          rw (
            w.all-is,
            w.in_ok-push.ensures.items,
            map_push type_name_view c.loop-record.all.items _,
          )
          (says_more said c.args.number c.deref-record-items.result.now _ _ _ _
          c.loop-record-test.true c.record-item.is (eq-eqb _ _ w.if-record-number.true)
          c.loop-record.invariant (rw (w.in_ok-inside.ensures, w.in_ok-name.ensures) refl))
      | else-record-number w ↦
          rw w.all-is
          (says_nothing said c.args.number c.deref-record-items.result.now _ _ _
          c.loop-record-test.true c.record-item.is (ne_eqb _ _ w.if-record-number.false)
          c.loop-record.invariant)
    ]
