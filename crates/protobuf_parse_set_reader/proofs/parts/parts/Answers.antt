use Rattle.std.proofs.Common.{refl, sym}
use Rattle.std.proofs.lemmas.Bool.{eq-eqb, ne_eqb}
use Rattle.std.proofs.lemmas.List.{map_push}
use Rattle.std.proofs.lemmas.Result.{err_from_is_err_and}
use Rattle.protobuf_parse_set_reader.specs.Bodies.{types_view}
use Rattle.protobuf_parse_set_reader.specs.Values.{alone, part_in}
use Rattle.protobuf_parse_set_reader.proofs.Going.{says_more, says_nothing, stops}
use Rattle.protobuf_parse_set_reader.proofs.Steps.{fails_first}
use Rattle.protobuf_parse_set_reader.proofs.parts.parts.Goals.{then-record-number+in_ok-part+in_ok-push, else-record-number}
use Rattle.protobuf_parse_set_reader.proofs.parts.parts.Goals as goal

pub returns-in_err-part : goal.returns-in_err-part
returns-in_err-part g c =
    let p = err_from_is_err_and c.from_residual.result c.from_residual.ensures.1 in
    rw (p.1, p.2, sym c.deref-record-items.ensures.value)
    (stops (alone (part_in (g.P.Part.of (types_view c.args.types.now)))) c.args.number
    c.deref-record-items.result.now _ _ _ _ c.loop-record-test.true c.record-item.is
    (eq-eqb _ _ c.if-record-number.true) c.loop-record.invariant
    (fails_first _ _ _ c.in_err-part.ensures))

pub loop-record-preserved : goal.loop-record-preserved
loop-record-preserved g c =
    let said = alone (part_in (g.P.Part.of (types_view c.args.types.now))) in
    elim c.if-record-number.branch [
      | then-record-number+in_ok-part+in_ok-push w ↦
          rw (
            w.all-is,
            w.in_ok-push.ensures.items,
            map_push g.P.Part.view c.loop-record.all.items _,
          )
          (says_more said c.args.number c.deref-record-items.result.now _ _ _ _
          c.loop-record-test.true c.record-item.is (eq-eqb _ _ w.if-record-number.true)
          c.loop-record.invariant (rw w.in_ok-part.ensures refl))
      | else-record-number w ↦
          rw w.all-is
          (says_nothing said c.args.number c.deref-record-items.result.now _ _ _
          c.loop-record-test.true c.record-item.is (ne_eqb _ _ w.if-record-number.false)
          c.loop-record.invariant)
    ]
