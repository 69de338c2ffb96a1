use Rattle.std.proofs.Common.{Ok, ap, arith, refl, sym}
use Rattle.std.proofs.lemmas.Bool.{eq-eqb, ne_eqb}
use Rattle.std.proofs.lemmas.List.{map_push}
use Rattle.std.proofs.lemmas.Result.{err_from_is_err_and}
use Rattle.protobuf_parse_model.specs.Descriptors.{MessageDescriptor, message_view}
use Rattle.protobuf_parse_model.specs.declared.descriptor.DescriptorProto.{DescriptorProto}
use Rattle.protobuf_parse_model.specs.declared.descriptor.DescriptorProto.TheOpen.{DescriptorProto-F}
use Rattle.protobuf_parse_records.specs.Views.{record_view}
use Rattle.protobuf_parse_set_reader.specs.Bodies.{body_view, types_view}
use Rattle.protobuf_parse_set_reader.specs.Values.{alone, part_in}
use Rattle.protobuf_parse_set_reader.specs.Reading.{message_of}
use Rattle.protobuf_parse_set_reader.proofs.Going.{says_more, says_nothing, stops}
use Rattle.protobuf_parse_set_reader.proofs.Levels.{message_rolled, message_said, one_level}
use Rattle.protobuf_parse_set_reader.proofs.Steps.{fails_first}
use Rattle.protobuf_parse_set_reader.proofs.messages.+message.Goals.{messages-then-record-number+in_ok-inside+in_ok-each+in_ok-push, messages-else-record-number}
use Rattle.protobuf_parse_set_reader.proofs.messages.+message.Goals as goal

pub messages-returns-in_err-inside : goal.messages-returns-in_err-inside
unfolding part_in
messages-returns-in_err-inside t c =
    let p = err_from_is_err_and c.from_residual.result c.from_residual.ensures.1 in
    rw (p.1, p.2, sym c.deref-record-items.ensures.value)
    (stops (alone (part_in (message_of (types_view c.args.types.now) c.args.levels)))
    c.args.number c.deref-record-items.result.now _ _ _ _ c.loop-record-test.true
    c.record-item.is (eq-eqb _ _ c.if-record-number.true) c.loop-record.invariant
    (fails_first _ _ _ (fails_first _ _ _ c.in_err-inside.ensures)))

pub messages-returns-in_err-each : goal.messages-returns-in_err-each
unfolding part_in
messages-returns-in_err-each t c =
    let of = message_of (types_view c.args.types.now) c.args.levels in
    let p = err_from_is_err_and c.from_residual-in_err-each.result
    c.from_residual-in_err-each.ensures.1 in
    rw (p.1, p.2, sym c.deref-record-items.ensures.value)
    (stops (alone (part_in of)) c.args.number c.deref-record-items.result.now _ _ _ _
    c.loop-record-test.true c.record-item.is (eq-eqb _ _ c.if-record-number.true)
    c.loop-record.invariant
    (fails_first _ (part_in of (record_view c.record-item.result)) _
    (rw c.in_ok-inside.ensures c.in_err-each.ensures)))

pub messages-loop-record-preserved : goal.messages-loop-record-preserved
unfolding part_in
messages-loop-record-preserved t c =
    let said = alone (part_in (message_of (types_view c.args.types.now) c.args.levels)) in
    elim c.if-record-number.branch [
      | messages-then-record-number+in_ok-inside+in_ok-each+in_ok-push w ↦
          rw (
            w.all-is,
            w.in_ok-push.ensures.items,
            map_push message_view c.loop-record.all.items _,
          )
          (says_more said c.args.number c.deref-record-items.result.now _ _ _ _
          c.loop-record-test.true c.record-item.is (eq-eqb _ _ w.if-record-number.true)
          c.loop-record.invariant (rw (w.in_ok-inside.ensures, w.in_ok-each.ensures) refl))
      | messages-else-record-number w ↦
          rw w.all-is
          (says_nothing said c.args.number c.deref-record-items.result.now _ _ _
          c.loop-record-test.true c.record-item.is (ne_eqb _ _ w.if-record-number.false)
          c.loop-record.invariant)
    ]

pub message-returns : goal.message-returns
message-returns t c =
    let m : DescriptorProto-F DescriptorProto = record {
      name = c.in_ok-declared_name.field-0;
      field = c.in_ok-parts.field-0;
      oneof_decl = c.in_ok-parts-5.field-0;
      nested_type = c.in_ok-messages.field-0;
      enum_type = c.in_ok-parts-2.field-0;
      extension = c.in_ok-parts-4.field-0;
      extension_range = c.in_ok-parts-3.field-0;
      reserved_range = c.in_ok-parts-6.field-0;
      reserved_name = c.in_ok-texts.field-0;
      options = c.in_ok-merged.field-0;
    } in
    rw (
      one_level (types_view c.args.types.now) c.args.levels (body_view c.args.body.now)
          (omega (arith, c.if-levels-eq0.false)),
      message_said _ _ _ _ _ _ _ _ _ _ _ _ _ c.in_ok-declared_name.ensures c.in_ok-parts.ensures
          c.in_ok-messages.ensures c.in_ok-parts-2.ensures c.in_ok-parts-3.ensures
          c.in_ok-parts-4.ensures c.in_ok-merged.ensures c.in_ok-parts-5.ensures
          c.in_ok-parts-6.ensures c.in_ok-texts.ensures,
    )
    (sym (ap (λ (x : MessageDescriptor). Ok x) (message_rolled m)))
