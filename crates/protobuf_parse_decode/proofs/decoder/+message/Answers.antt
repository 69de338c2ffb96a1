use Rattle.std.proofs.Common.{◌≡◌, ◌+◌, List, ◌++◌, ◌∷◌, [], map, drop, sym, subst, ap}
use Rattle.std.proofs.Common.{◌∙◌, ◌-◌, arith}
use Rattle.std.proofs.lemmas.Result.{err_from_is_err_and}
use Rattle.std.proofs.lemmas.List.{map_push, drop_all}
use Rattle.std.specs.Option.{option_copied}
use Rattle.protobuf_parse_model.specs.Descriptors.{file_view}
use Rattle.protobuf_parse_records.specs.Views.{WireRecord, record_view, span_view}
use Rattle.protobuf_parse_records.specs.declared.wire.Record.{Record}
use Rattle.protobuf_parse_decode.specs.declared.field.DecodedField.{fold-roll-DecodedField}
use Rattle.protobuf_parse_decode.specs.Answers.{Answer, Gives}
use Rattle.protobuf_parse_decode.specs.Declarations.{declared_in, entered}
use Rattle.protobuf_parse_decode.specs.Decoding.{fields_of, message_within}
use Rattle.protobuf_parse_decode.specs.Fields.{Fields, Meaning, Value}
use Rattle.protobuf_parse_decode.specs.Parts.{HaveSmallNumbers}
use Rattle.protobuf_parse_decode.specs.Inside.{meaning_view}
use Rattle.protobuf_parse_decode.specs.Views.{FieldItem, field_step, field_view, fields_view}
use Rattle.protobuf_parse_decode.specs.Views.{meaning_step, value_step}
use Rattle.protobuf_parse_decode.proofs.MessageLevels.{too_deep, not_entered, no_records, one_level}
use Rattle.protobuf_parse_decode.proofs.SmallNumbers.{small_numbers}
use Rattle.protobuf_parse_decode.proofs.Telling.{ToTell, ends, goes_on, is_done, item_of}
use Rattle.protobuf_parse_decode.proofs.Telling.{next_record}
use Rattle.protobuf_parse_decode.proofs.decoder.+message.Goals as goal

pub message_of-returns-then-levels-eq0 : goal.message_of-returns-then-levels-eq0
message_of-returns-then-levels-eq0 t c =
    rw c.fault.ensures (too_deep (entered (map file_view c.args.index.now)) c.args.levels c.args.at
    (option_copied c.args.name) (span_view c.args.span) c.if-levels-eq0.true)

pub message_of-returns-in_err-message : goal.message_of-returns-in_err-message
message_of-returns-in_err-message t c =
    let p = err_from_is_err_and c.from_residual.result c.from_residual.ensures.1 in
    rw (p.1, p.2)
    (not_entered (entered (map file_view c.args.index.now)) c.args.levels c.args.at
    (option_copied c.args.name) (span_view c.args.span) _ c.if-levels-eq0.false
    c.in_err-message.ensures)

pub message_of-returns-in_err-records : goal.message_of-returns-in_err-records
message_of-returns-in_err-records t c =
    let p = err_from_is_err_and c.from_residual-in_err-records.result
    c.from_residual-in_err-records.ensures.1 in
    rw (p.1, p.2)
    (no_records (entered (map file_view c.args.index.now)) c.args.levels c.args.at
    (option_copied c.args.name) (span_view c.args.span) _ _ c.if-levels-eq0.false
    c.in_ok-message.ensures c.in_err-records.ensures)

pub message_of-fields_of-requires : goal.message_of-fields_of-requires
message_of-fields_of-requires t c = (
  omega arith,
  rw c.deref.ensures.value
      (small_numbers (span_view c.args.span) _ c.in_ok-records.ensures),
)

pub message_of-returns : goal.message_of-returns
message_of-returns t c =
    let inner = message_within (entered (map file_view c.args.index.now)) (c.args.levels - 1) in
    let declared = declared_in (map file_view c.args.index.now) c.in_ok-message.message.now in
    let e = one_level (entered (map file_view c.args.index.now)) c.args.levels c.args.at
    (option_copied c.args.name) (span_view c.args.span) declared
    (map record_view c.in_ok-records.records.items) c.if-levels-eq0.false
    c.in_ok-message.ensures c.in_ok-records.ensures
    ∙ ap (λ (rs : List Record). fields_of inner declared (map record_view rs))
    (sym c.deref.ensures.value) in
    subst (λ (answer : Answer Fields). Gives (λ v. fields_view v.items) c.fields_of.result answer)
    (sym e) c.fields_of.ensures

pub fields_of-meaning_of-requires : goal.fields_of-meaning_of-requires
fields_of-meaning_of-requires t c =
    let next = next_record c.args.records.now c.records.record-index c.record-item.result
    c.records-test.true c.record-item.is in
    (omega arith, (subst HaveSmallNumbers next c.records.invariant.1).0)

pub fields_of-returns-in_err-meaning : goal.fields_of-returns-in_err-meaning
fields_of-returns-in_err-meaning t c =
    let inner = message_within (entered (map file_view c.args.index.now)) c.args.levels in
    let declared = declared_in (map file_view c.args.index.now) c.args.message.now in
    let list : List Record = c.args.records.now in
    let x : Record = c.record-item.result in
    let next = next_record list c.records.record-index x c.records-test.true c.record-item.is in
    let p = err_from_is_err_and c.from_residual.result c.from_residual.ensures.1 in
    rw (p.1, p.2)
    (ends inner declared (map field_view c.records.fields.items) (record_view x)
    (map record_view (drop (c.records.record-index + 1) list)) _ _ c.in_err-meaning.ensures
    (subst (λ (rs : List WireRecord).
    ToTell inner declared (map field_view c.records.fields.items) rs
    (fields_of inner declared (map record_view list))) next
    c.records.invariant.0))

pub fields_of-records-preserved : goal.fields_of-records-preserved
fields_of-records-preserved t c =
    let inner = message_within (entered (map file_view c.args.index.now)) c.args.levels in
    let declared = declared_in (map file_view c.args.index.now) c.args.message.now in
    let list : List Record = c.args.records.now in
    let x : Record = c.record-item.result in
    let fields = map field_view c.records.fields.items in
    let next = next_record list c.records.record-index x c.records-test.true c.record-item.is in
    let item : FieldItem = item_of (record_view x) (meaning_view c.in_ok-meaning.meaning) in
    let seen : map field_view c.push.new.self.items ≡ fields ++ item ∷ [] =
    rw (c.in_ok-push.ensures.items, map_push) (ap (λ (f : FieldItem). fields ++ f ∷ [])
    (fold-roll-DecodedField Meaning Value FieldItem meaning_step value_step field_step _)) in (
      rw seen (goes_on inner declared fields (record_view x)
          (map record_view (drop (c.records.record-index + 1) list))
          (meaning_view c.in_ok-meaning.meaning) _ c.in_ok-meaning.ensures
          (subst (λ (rs : List WireRecord). ToTell inner declared fields rs
          (fields_of inner declared (map record_view list))) next c.records.invariant.0)),
      (subst HaveSmallNumbers next c.records.invariant.1).1,
    )

pub fields_of-returns : goal.fields_of-returns
fields_of-returns t c =
    let inner = message_within (entered (map file_view c.args.index.now)) c.args.levels in
    let declared = declared_in (map file_view c.args.index.now) c.args.message.now in
    let list : List Record = c.args.records.now in
    let none : drop c.records.record-index list ≡ [] =
    drop_all c.records.record-index list c.records-test.false in
    is_done inner declared (map field_view c.records.fields.items) _
    (subst (λ (rs : List Record). ToTell inner declared (map field_view c.records.fields.items)
    (map record_view rs)
    (fields_of inner declared (map record_view list))) none c.records.invariant.0)
