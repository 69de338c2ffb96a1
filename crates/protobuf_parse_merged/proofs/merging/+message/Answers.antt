use Rattle.std.proofs.Common.{◌≡◌, ◌^◌, List, ◌∷◌, [], map, drop, sym, subst, ap, ◌∙◌}
use Rattle.std.proofs.Common.{arith, get_or, slice_range, rules, Option, Some}
use Rattle.std.proofs.lemmas.Result.{err_from_is_err_and}
use Rattle.std.proofs.lemmas.List.{drop_all}
use Rattle.protobuf_parse_model.specs.Descriptors.{file_view}
use Rattle.protobuf_parse_decode.specs.Views.{fields_view}
use Rattle.protobuf_parse_merged.specs.declared.occurrences.Occurrence as code
use Rattle.protobuf_parse_merged.specs.declared.occurrences.Held as codeheld
use Rattle.protobuf_parse_merged.specs.Answers.{Answer, ◌>>=◌, Fails, Gives}
use Rattle.protobuf_parse_merged.specs.Merged.{Value, Message, message, FieldItem}
use Rattle.protobuf_parse_merged.specs.Declarations.{declared_in}
use Rattle.protobuf_parse_merged.specs.Occurrences.{Held}
use Rattle.protobuf_parse_merged.specs.Merging as spec
use Rattle.protobuf_parse_merged.specs.Merging.{merged_within}
use Rattle.protobuf_parse_merged.specs.Inside.{Ascends, declared_view, field_view, held_in}
use Rattle.protobuf_parse_merged.specs.Inside.{held_view, occurrence_view}
use Rattle.protobuf_parse_merged.specs.Inside.{value_view}
use Rattle.protobuf_parse_merged.specs.Views.{message_view, unknown_view}
use Rattle.protobuf_parse_merged.proofs.Grouping.{ToGroup, begins, is_done, run_ends, run_goes_on}
use Rattle.protobuf_parse_merged.proofs.Levels.{as_one_fails, last_is, message_is, one_level}
use Rattle.protobuf_parse_merged.proofs.Levels.{run_split, starts_with, too_deep}
use Rattle.protobuf_parse_merged.proofs.merging.+message.Goals as goal

pub message_of-returns-then-levels-eq0 : goal.message_of-returns-then-levels-eq0
message_of-returns-then-levels-eq0 t c =
    too_deep (map file_view c.args.index.now) c.args.levels c.args.name.now
    (fields_view c.args.fields.now) c.if-levels-eq0.true

pub message_of-returns : goal.message_of-returns
message_of-returns t c =
    let e = one_level (map file_view c.args.index.now) c.args.levels c.args.name.now
    (fields_view c.args.fields.now) (map occurrence_view c.in_ok-told.told.occurrences.items)
    (map unknown_view c.in_ok-told.told.unknown.items) c.if-levels-eq0.false c.in_ok-told.ensures in
    subst (λ (answer : Answer Message). Gives message_view c.message_told.result answer) (sym e)
    c.message_told.ensures

pub all_as_one-returns-then-levels-eq0 : goal.all_as_one-returns-then-levels-eq0
all_as_one-returns-then-levels-eq0 t c =
    too_deep (map file_view c.args.index.now) c.args.levels c.args.name.now
    (spec.joined (held_in (map occurrence_view c.args.run.now))) c.if-levels-eq0.true

pub all_as_one-returns : goal.all_as_one-returns
all_as_one-returns t c =
    let e = one_level (map file_view c.args.index.now) c.args.levels c.args.name.now
    (spec.joined (held_in (map occurrence_view c.args.run.now)))
    (map occurrence_view c.in_ok-told.told.occurrences.items)
    (map unknown_view c.in_ok-told.told.unknown.items) c.if-levels-eq0.false c.in_ok-told.ensures in
    subst (λ (answer : Answer Message). Gives message_view c.message_told.result answer) (sym e)
    c.message_told.ensures

pub fields_of-runs-init : goal.fields_of-runs-init
fields_of-runs-init t c =
    let up : Ascends 0 (map occurrence_view c.args.occurrences.now) = search rules in
    (omega arith, rw c.new-fields.ensures.items (begins _ _ _ _ up))

pub fields_of-returns-in_err-values : goal.fields_of-returns-in_err-values
fields_of-returns-in_err-values t c =
    let inner = merged_within (map file_view c.args.index.now) c.args.levels in
    let declared = declared_in (map file_view c.args.index.now) c.args.message.now in
    let xs : List code.Occurrence = c.args.occurrences.now in
    let i = c.runs.start in
    let x : code.Occurrence = c.index-occurrences-start.result in
    let end = c.run_end-end.result in
    let p = err_from_is_err_and c.from_residual.result c.from_residual.ensures.1 in
    rw (p.1, p.2)
    (run_ends inner declared (map occurrence_view xs) (2 ^ 32) (map field_view c.runs.fields.items)
    (get_or xs i x).number (map occurrence_view (drop i xs))
    (map occurrence_view (slice_range xs i end)) (map occurrence_view (drop end xs)) _
    (omega arith) c.run_end-end.ensures.run c.run_end-end.ensures.others
    (run_split xs i end c.run_end-end.ensures.bounds.0) (starts_with xs i x c.runs-test.true)
    c.in_err-values.ensures c.runs.invariant.1)

pub fields_of-runs-preserved : goal.fields_of-runs-preserved
fields_of-runs-preserved t c =
    let inner = merged_within (map file_view c.args.index.now) c.args.levels in
    let declared = declared_in (map file_view c.args.index.now) c.args.message.now in
    let xs : List code.Occurrence = c.args.occurrences.now in
    let i = c.runs.start in
    let x : code.Occurrence = c.index-occurrences-start.result in
    let end = c.run_end-end.result in
    let group = run_goes_on inner declared (map occurrence_view xs) (2 ^ 32)
    (map field_view c.runs.fields.items)
    (get_or xs i x).number (map occurrence_view (drop i xs))
    (map occurrence_view (slice_range xs i end)) (map occurrence_view (drop end xs)) _
    (omega arith) c.run_end-end.ensures.run c.run_end-end.ensures.others
    (run_split xs i end c.run_end-end.ensures.bounds.0) (starts_with xs i x c.runs-test.true)
    c.in_ok-values.ensures c.runs.invariant.1 in (
      c.run_end-end.ensures.bounds.1,
      subst (λ (fs : List FieldItem). ToGroup inner declared (map occurrence_view xs) (2 ^ 32) fs
          (map occurrence_view (drop end xs))) (sym c.in_ok-put_field.ensures) group,
    )

pub fields_of-returns : goal.fields_of-returns
fields_of-returns t c =
    let inner = merged_within (map file_view c.args.index.now) c.args.levels in
    let declared = declared_in (map file_view c.args.index.now) c.args.message.now in
    let xs : List code.Occurrence = c.args.occurrences.now in
    let none : drop c.runs.start xs ≡ [] = drop_all c.runs.start xs c.runs-test.false in
    is_done inner declared (map occurrence_view xs) (2 ^ 32) (map field_view c.runs.fields.items)
    (subst (λ (ys : List code.Occurrence). ToGroup inner declared (map occurrence_view xs) (2 ^ 32)
    (map field_view c.runs.fields.items) (map occurrence_view ys)) none c.runs.invariant.1)

pub last_value-returns-in_err-message-in-Inside : goal.last_value-returns-in_err-message-in-Inside
last_value-returns-in_err-message-in-Inside t c =
    let inner = merged_within (map file_view c.args.index.now) c.args.levels in
    let hs = held_in (map occurrence_view c.args.run.now) in
    let e = last_is c.args.run.now c.in-Some.last.now c.in-Some.ensures.value
    ∙ ap (λ (h : codeheld.Held). Some (held_view h)) c.in-Inside.is in
    let p = err_from_is_err_and c.from_residual.result c.from_residual.ensures.1 in
    rw (p.1, p.2)
    (subst (λ (o : Option Held).
    Fails c.in_err-message-in-Inside.field-0.0 (spec.by_last inner (declared_view c.args.field) hs o))
    (sym e)
    (as_one_fails inner c.args.field.type_name.now hs _ c.in_err-message-in-Inside.ensures))

pub last_value-returns-in-Plain : goal.last_value-returns-in-Plain
last_value-returns-in-Plain t c =
    let inner = merged_within (map file_view c.args.index.now) c.args.levels in
    let hs = held_in (map occurrence_view c.args.run.now) in
    let e = last_is c.args.run.now c.in-Some.last.now c.in-Some.ensures.value
    ∙ ap (λ (h : codeheld.Held). Some (held_view h)) c.in-Plain.is in
    subst (λ (o : Option Held). Gives (λ v. map value_view v.items) c.present_scalar.result
    (spec.by_last inner (declared_view c.args.field) hs o)) (sym e) c.present_scalar.ensures

pub last_value-returns-in_ok-message-in-Inside : goal.last_value-returns-in_ok-message-in-Inside
last_value-returns-in_ok-message-in-Inside t c =
    let inner = merged_within (map file_view c.args.index.now) c.args.levels in
    let hs = held_in (map occurrence_view c.args.run.now) in
    let m = c.in_ok-message-in-Inside.message in
    let e = ap (spec.by_last inner (declared_view c.args.field) hs)
    (last_is c.args.run.now c.in-Some.last.now c.in-Some.ensures.value
    ∙ ap (λ (h : codeheld.Held). Some (held_view h)) c.in-Inside.is)
    ∙ ap (λ (x : Answer Message). x >>= λ (y : Message). Some (message y ∷ []))
    c.in_ok-message-in-Inside.ensures
    ∙ ap (λ (v : Value). Some (v ∷ [])) (sym (message_is m)) in
    subst (λ (answer : Answer (List Value)). Gives (λ v. map value_view v.items) c.one.result answer)
    (sym e) c.one.ensures
