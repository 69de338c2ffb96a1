use Rattle.std.proofs.Common.{◌≡◌, ◌+◌, List, ◌++◌, [], map, drop, subst, ap, ◌∙◌}
use Rattle.std.proofs.lemmas.List.{drop_all}
use Rattle.protobuf_parse_model.specs.Descriptors.{file_view}
use Rattle.protobuf_parse_merged.specs.declared.occurrences.Occurrence as code
use Rattle.protobuf_parse_merged.specs.Merged.{Unknown}
use Rattle.protobuf_parse_merged.specs.Declarations.{declared_in}
use Rattle.protobuf_parse_merged.specs.Occurrences as spec
use Rattle.protobuf_parse_merged.specs.Occurrences.{Occurrence}
use Rattle.protobuf_parse_merged.specs.Oneofs.{counting}
use Rattle.protobuf_parse_merged.specs.Merging.{joined}
use Rattle.protobuf_parse_merged.specs.Inside.{IsByNumber, fields_in, held_in, held_view}
use Rattle.protobuf_parse_merged.specs.Inside.{occurrence_view}
use Rattle.protobuf_parse_merged.specs.Views.{unknown_view}
use Rattle.protobuf_parse_merged.proofs.Telling.{next_message, no_values, nothing_unknown}
use Rattle.protobuf_parse_merged.proofs.Telling.{told_more, unknown_join, values_join}
use Rattle.protobuf_parse_merged.proofs.occurrences.told_of_all.Goals as goal

pub run-preserved : goal.run-preserved
run-preserved c =
    let files = map file_view c.args.index.now in
    let declared = declared_in files c.args.message.now in
    let xs : List code.Occurrence = c.args.run.now in
    let i = c.run.occurrence-index in
    let x : code.Occurrence = c.occurrence-item.result in
    let next = next_message xs i x c.run-test.true c.occurrence-item.is in
    let one = fields_in (held_view x.held) in
    let rest = joined (held_in (map occurrence_view (drop (i + 1) xs))) in (
      ap (λ (os : List Occurrence). os ++ spec.occurrences files declared rest)
          c.in_ok-tell_held.ensures.occurrences
          ∙ told_more (map occurrence_view c.run.all.items)
          (spec.occurrences files declared one) (spec.occurrences files declared rest) _ _
          c.run.invariant.0
          (ap (spec.occurrences files declared) next ∙ values_join files declared one rest),
      ap (λ (us : List Unknown). us ++ spec.unknown_among files declared rest)
          c.in_ok-tell_held.ensures.unknown
          ∙ told_more (map unknown_view c.run.unknown.items)
          (spec.unknown_among files declared one) (spec.unknown_among files declared rest) _ _
          c.run.invariant.1
          (ap (spec.unknown_among files declared) next ∙ unknown_join files declared one rest),
    )

pub returns : goal.returns
returns c =
    let files = map file_view c.args.index.now in
    let declared = declared_in files c.args.message.now in
    let xs : List code.Occurrence = c.args.run.now in
    let none : drop c.run.occurrence-index xs ≡ [] =
    drop_all c.run.occurrence-index xs c.run-test.false in
    let values = no_values files declared _ _
    (subst (λ (ys : List code.Occurrence). map occurrence_view c.run.all.items
    ++ spec.occurrences files declared (joined (held_in (map occurrence_view ys)))
    ≡ map occurrence_view c.in_ok-all.all.items
    ++ spec.occurrences files declared (joined (held_in (map occurrence_view xs)))) none
    c.run.invariant.0)
    ∙ ap (λ (front : List Occurrence). front
    ++ spec.occurrences files declared (joined (held_in (map occurrence_view xs))))
    c.in_ok-all.ensures in
    record {
      by_number = subst (λ (os : List Occurrence). IsByNumber (counting os)
          (map occurrence_view c.in_ok-occurrences.occurrences.items))
          (ap (map occurrence_view) c.deref.ensures.value ∙ values)
          c.in_ok-occurrences.ensures;
      unknown = nothing_unknown files declared _ _
          (subst (λ (ys : List code.Occurrence). map unknown_view c.run.unknown.items
          ++ spec.unknown_among files declared (joined (held_in (map occurrence_view ys)))
          ≡ spec.unknown_among files declared (joined (held_in (map occurrence_view xs)))) none
          c.run.invariant.1);
    }
