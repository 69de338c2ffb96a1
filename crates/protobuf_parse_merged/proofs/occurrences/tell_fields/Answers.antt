use Rattle.std.proofs.Common.{◌≡◌, ◌+◌, List, ◌++◌, [], map, drop, subst, ap, ◌∙◌}
use Rattle.std.proofs.lemmas.List.{drop_all}
use Rattle.protobuf_parse_model.specs.Descriptors.{file_view}
use Rattle.protobuf_parse_decode.specs.declared.field.DecodedField.{DecodedField}
use Rattle.protobuf_parse_decode.specs.Fields.{Fields}
use Rattle.protobuf_parse_decode.specs.Views.{field_view, fields_view}
use Rattle.protobuf_parse_merged.specs.Merged.{Unknown}
use Rattle.protobuf_parse_merged.specs.Declarations.{declared_in}
use Rattle.protobuf_parse_merged.specs.Occurrences as spec
use Rattle.protobuf_parse_merged.specs.Occurrences.{Occurrence}
use Rattle.protobuf_parse_merged.specs.Inside.{occurrence_view}
use Rattle.protobuf_parse_merged.specs.Views.{unknown_view}
use Rattle.protobuf_parse_merged.proofs.Telling.{next_field, no_values, nothing_unknown}
use Rattle.protobuf_parse_merged.proofs.Telling.{unknown_more, values_more}
use Rattle.protobuf_parse_merged.proofs.occurrences.tell_fields.Goals as goal

pub fields-preserved : goal.fields-preserved
fields-preserved c =
    let files = map file_view c.args.index.now in
    let declared = declared_in files c.args.message.now in
    let xs : List DecodedField = c.args.fields.now in
    let i = c.fields.field-index in
    let x : DecodedField = c.field-item.result in
    let next = next_field xs i x c.fields-test.true c.field-item.is in
    let rest : Fields = fields_view (drop (i + 1) xs) in (
      ap (λ (os : List Occurrence). os ++ spec.occurrences files declared rest)
          c.in_ok-tell_field.ensures.occurrences
          ∙ values_more files declared (map occurrence_view c.fields.occurrences.items) (field_view x) rest
          _
          (subst (λ (fs : Fields). map occurrence_view c.fields.occurrences.items
          ++ spec.occurrences files declared fs
          ≡ map occurrence_view c.args.occurrences.now.items
          ++ spec.occurrences files declared (fields_view xs)) next c.fields.invariant.0),
      ap (λ (us : List Unknown). us ++ spec.unknown_among files declared rest)
          c.in_ok-tell_field.ensures.unknown
          ∙ unknown_more files declared (map unknown_view c.fields.unknown.items) (field_view x) rest _
          (subst (λ (fs : Fields). map unknown_view c.fields.unknown.items
          ++ spec.unknown_among files declared fs
          ≡ map unknown_view c.args.unknown.now.items
          ++ spec.unknown_among files declared (fields_view xs)) next c.fields.invariant.1),
    )

pub returns-clause-occurrences : goal.returns-clause-occurrences
returns-clause-occurrences c =
    let files = map file_view c.args.index.now in
    let declared = declared_in files c.args.message.now in
    let xs : List DecodedField = c.args.fields.now in
    let none : drop c.fields.field-index xs ≡ [] =
    drop_all c.fields.field-index xs c.fields-test.false in
    no_values files declared _ _
    (subst (λ (ys : List DecodedField). map occurrence_view c.fields.occurrences.items
    ++ spec.occurrences files declared (fields_view ys)
    ≡ map occurrence_view c.args.occurrences.now.items
    ++ spec.occurrences files declared (fields_view xs)) none c.fields.invariant.0)

pub returns-clause-unknown : goal.returns-clause-unknown
returns-clause-unknown c =
    let files = map file_view c.args.index.now in
    let declared = declared_in files c.args.message.now in
    let xs : List DecodedField = c.args.fields.now in
    let none : drop c.fields.field-index xs ≡ [] =
    drop_all c.fields.field-index xs c.fields-test.false in
    nothing_unknown files declared _ _
    (subst (λ (ys : List DecodedField). map unknown_view c.fields.unknown.items
    ++ spec.unknown_among files declared (fields_view ys)
    ≡ map unknown_view c.args.unknown.now.items
    ++ spec.unknown_among files declared (fields_view xs)) none c.fields.invariant.1)
