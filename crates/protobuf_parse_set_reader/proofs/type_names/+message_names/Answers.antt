use Rattle.std.proofs.Common.{arith, refl, sym}
use Rattle.std.proofs.lemmas.Bool.{eq-eqb, ne_eqb}
use Rattle.std.proofs.lemmas.List.{map-append}
use Rattle.std.proofs.lemmas.Result.{err_from_is_err_and}
use Rattle.protobuf_parse_set_reader.specs.Bodies.{type_name_view}
use Rattle.protobuf_parse_set_reader.specs.Values.{part_in}
use Rattle.protobuf_parse_set_reader.specs.TypeNames.{message_names}
use Rattle.protobuf_parse_set_reader.proofs.Going.{says_more, says_nothing, stops}
use Rattle.protobuf_parse_set_reader.proofs.Levels.{names_of_one}
use Rattle.protobuf_parse_set_reader.proofs.Steps.{fails_first}
use Rattle.protobuf_parse_set_reader.proofs.type_names.+message_names.Goals.{messages_names-then-record-number+in_ok-message+in_ok-names+in_ok-append, messages_names-else-record-number}
use Rattle.protobuf_parse_set_reader.proofs.type_names.+message_names.Goals as goal

pub messages_names-returns-in_err-message : goal.messages_names-returns-in_err-message
unfolding part_in
messages_names-returns-in_err-message t c =
    let p = err_from_is_err_and c.from_residual.result c.from_residual.ensures.1 in
    rw (p.1, p.2, sym c.deref-record-items.ensures.value)
    (stops (part_in (message_names c.args.levels c.args.scope.now)) c.args.number
    c.deref-record-items.result.now _ _ _ _ c.loop-record-test.true c.record-item.is
    (eq-eqb _ _ c.if-record-number.true) c.loop-record.invariant
    (fails_first _ _ _ c.in_err-message.ensures))

pub messages_names-returns-in_err-names : goal.messages_names-returns-in_err-names
unfolding part_in
messages_names-returns-in_err-names t c =
    let p = err_from_is_err_and c.from_residual-in_err-names.result
    c.from_residual-in_err-names.ensures.1 in
    rw (p.1, p.2, sym c.deref-record-items.ensures.value)
    (stops (part_in (message_names c.args.levels c.args.scope.now)) c.args.number
    c.deref-record-items.result.now _ _ _ _ c.loop-record-test.true c.record-item.is
    (eq-eqb _ _ c.if-record-number.true) c.loop-record.invariant
    (rw c.in_ok-message.ensures c.in_err-names.ensures))

pub messages_names-loop-record-preserved : goal.messages_names-loop-record-preserved
unfolding part_in
messages_names-loop-record-preserved t c =
    let said = part_in (message_names c.args.levels c.args.scope.now) in
    elim c.if-record-number.branch [
      | messages_names-then-record-number+in_ok-message+in_ok-names+in_ok-append w ↦
          rw (
            w.all-is,
            w.in_ok-append.ensures.items,
            map-append type_name_view c.loop-record.all.items w.in_ok-names.names.items,
          )
          (says_more said c.args.number c.deref-record-items.result.now _ _ _ _
          c.loop-record-test.true c.record-item.is (eq-eqb _ _ w.if-record-number.true)
          c.loop-record.invariant (rw (w.in_ok-message.ensures, w.in_ok-names.ensures) refl))
      | messages_names-else-record-number w ↦
          rw w.all-is
          (says_nothing said c.args.number c.deref-record-items.result.now _ _ _
          c.loop-record-test.true c.record-item.is (ne_eqb _ _ w.if-record-number.false)
          c.loop-record.invariant)
    ]

pub message_names-returns : goal.message_names-returns
message_names-returns t c =
    let nested = rw c.as_str.ensures.value at c.in_ok-nested.ensures in
    let enums = rw c.as_str-2.ensures.value at c.in_ok-enums.ensures in
    rw (
      c.in_ok-append-2.ensures.items,
      c.in_ok-append.ensures.items,
      c.in_ok-push.ensures.items,
      c.new-names.ensures.items,
    )
    (rw (map-append type_name_view _ c.in_ok-enums.enums.items)
    (names_of_one c.args.levels c.args.scope.now _ _ _ _ _
    (omega (arith, c.if-levels-eq0.false)) c.in_ok-name.ensures c.in_ok-full.ensures nested enums))
