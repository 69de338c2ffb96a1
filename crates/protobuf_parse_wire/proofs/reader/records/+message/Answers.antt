use Rattle.std.proofs.Common.{◌≡◌, Ok, ℕ, List, ◌++◌, ◌∷◌, [], map, sym, subst, arith, rules}
use Rattle.std.proofs.lemmas.Result.{err_from_is_err_and}
use Rattle.std.proofs.lemmas.List.{map_push}
use Rattle.std.proofs.lemmas.Grind.{common_steps}
use Rattle.std.specs.Option.{option_copied}
use Rattle.protobuf_parse_wire.specs.Reading.{WireRead, ReaderGives, message_at}
use Rattle.protobuf_parse_wire.specs.Views.{read_field_view, read_value_view}
use Rattle.protobuf_parse_wire.specs.Trees.{Field, ValueTree}
use Rattle.protobuf_parse_model.specs.Descriptors.{field_view}
use Rattle.protobuf_parse_wire.specs.Indexed.{entered_by, numbered}
use Rattle.protobuf_parse_wire.proofs.Loop.{goes_on, ends, is_done}
use Rattle.protobuf_parse_wire.proofs.Levels.{too_deep, not_entered, one_level, value_found}
use Rattle.protobuf_parse_wire.proofs.Levels.{is_read}
use Rattle.protobuf_parse_wire.proofs.reader.records.+message.Goals as goal

pub records_of-returns-in_err-field-clause-gives : goal.records_of-returns-in_err-field-clause-gives
records_of-returns-in_err-field-clause-gives t c =
    let p = err_from_is_err_and c.from_residual.result c.from_residual.ensures.1 in
    rw (p.1, p.2)
    (λ other. ends (message_at (entered_by c.args.index.now) c.args.levels)
    (numbered c.args.numbers.now) (map read_field_view c.records.fields.items)
    c.records.rest.now _ _ (grind (arith, common_steps))
    (c.in_err-field.ensures.gives other) c.records.invariant.0)

pub records_of-records-preserved : goal.records_of-records-preserved
records_of-records-preserved t c =
    let f = c.in_ok-field.field in
    let e : map read_field_view c.push.new.self.items ≡ map read_field_view c.records.fields.items
    ++ read_field_view f ∷ [] =
    rw c.in_ok-push.ensures.items (map_push _ c.records.fields.items f) in (
      rw e (goes_on (message_at (entered_by c.args.index.now) c.args.levels)
          (numbered c.args.numbers.now) (map read_field_view c.records.fields.items)
          c.records.rest.now (read_field_view f) c.in_ok-field.after.now _
          c.in_ok-field.ensures.shorter c.in_ok-field.ensures.gives c.records.invariant.0),
      c.in_ok-field.ensures.kept,
    )

pub records_of-returns-clause-gives : goal.records_of-returns-clause-gives
records_of-returns-clause-gives t c =
    is_done (message_at (entered_by c.args.index.now) c.args.levels) (numbered c.args.numbers.now)
    (map read_field_view c.records.fields.items) c.records.rest.now _
    (grind (arith, common_steps)) c.records.invariant.0

pub message_of-returns-then-levels-eq0-clause-gives : goal.message_of-returns-then-levels-eq0-clause-gives
message_of-returns-then-levels-eq0-clause-gives t c = λ other.
    too_deep (entered_by c.args.index.now) c.args.levels
    (option_copied c.args.name) c.args.bytes.now c.if-levels-eq0.true

pub message_of-returns-in_err-numbers-clause-gives : goal.message_of-returns-in_err-numbers-clause-gives
message_of-returns-in_err-numbers-clause-gives t c =
    let p = err_from_is_err_and c.from_residual.result c.from_residual.ensures.1 in
    rw (p.1, p.2)
    (λ other. not_entered (entered_by c.args.index.now) c.args.levels
    (option_copied c.args.name) c.args.bytes.now _ c.if-levels-eq0.false
    (c.in_err-numbers.ensures.gives other))

pub message_of-returns-clause-gives : goal.message_of-returns-clause-gives
message_of-returns-clause-gives t c =
    let made : entered_by c.args.index.now (option_copied c.args.name)
    ≡ Ok (numbered c.deref.result.now) = rw c.deref.ensures c.in_ok-numbers.ensures.gives in
    let e = one_level (entered_by c.args.index.now) c.args.levels
    (option_copied c.args.name) c.args.bytes.now
    (numbered c.deref.result.now) c.if-levels-eq0.false made in
    subst (λ (read : WireRead (List Field)). ReaderGives
    (λ v. map read_field_view v.items) c.records_of.result read) (sym e)
    c.records_of.ensures.gives

pub value_of-payload_of-requires : goal.value_of-payload_of-requires
value_of-payload_of-requires t c = (
  search rules,
  (c.requires, is_read c.in-Some-wire_type_of.expected _ c.in-Some-wire_type_of.ensures),
)

pub value_of-returns-clause-gives : goal.value_of-returns-clause-gives
value_of-returns-clause-gives t c =
    let inner = message_at (entered_by c.args.index.now) c.args.levels in
    let e = value_found inner (numbered c.args.numbers.now c.args.number)
    (field_view c.in-Some.field.now) c.in-Some-wire_type_of.expected c.args.wire_type
    c.args.bytes.now (sym c.in-Some.ensures.found) c.in-Some-wire_type_of.ensures
    c.if-expected-wire_type.false in
    subst (λ (read : WireRead (ValueTree × List ℕ)). ReaderGives
    (λ x. (read_value_view x.0, x.1.now)) c.payload_of.result read) (sym e) (rw
    (← c.type_name_of.ensures) c.payload_of.ensures.gives)
