use Rattle.std.proofs.Common.{List, ◌++◌, map, subst, ap, ◌∙◌}
use Rattle.protobuf_parse_model.specs.Descriptors.{file_view}
use Rattle.protobuf_parse_decode.specs.Views.{fields_view}
use Rattle.protobuf_parse_merged.specs.declared.message.Unknown.{Unknown as codeunknown}
use Rattle.protobuf_parse_merged.specs.Declarations.{declared_in}
use Rattle.protobuf_parse_merged.specs.Occurrences as spec
use Rattle.protobuf_parse_merged.specs.Occurrences.{Occurrence}
use Rattle.protobuf_parse_merged.specs.Oneofs.{counting}
use Rattle.protobuf_parse_merged.specs.Inside.{IsByNumber, occurrence_view}
use Rattle.protobuf_parse_merged.specs.Views.{unknown_view}
use Rattle.protobuf_parse_merged.proofs.occurrences.told_of.Goals as goal

pub returns : goal.returns
returns c =
    let files = map file_view c.args.index.now in
    let declared = declared_in files c.args.message.now in
    let fs = fields_view c.args.fields.now in
    record {
      by_number = subst (λ (os : List Occurrence). IsByNumber (counting os)
          (map occurrence_view c.in_ok-occurrences.occurrences.items))
          (ap (map occurrence_view) c.deref.ensures.value
          ∙ c.in_ok-tell_fields.ensures.occurrences
          ∙ ap (λ (front : List Occurrence). front ++ spec.occurrences files declared fs)
          c.in_ok-all.ensures)
          c.in_ok-occurrences.ensures;
      unknown = c.in_ok-tell_fields.ensures.unknown
          ∙ ap (λ (us : List codeunknown). map unknown_view us ++ spec.unknown_among files declared fs)
          c.new-unknown.ensures.items;
    }
