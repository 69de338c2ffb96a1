use Rattle.std.proofs.Common.{Ok, Bool, true, sym, ap, ◌∙◌}
use Rattle.std.proofs.lemmas.Result.{err_from_is_err_and}
use Rattle.protobuf_parse_records.specs.Views.{payload_view, span_view}
use Rattle.protobuf_parse_records.specs.declared.wire.Payload.{Payload}
use Rattle.protobuf_parse_decode.specs.Decoding.{numbers_in}
use Rattle.protobuf_parse_decode.specs.Fields.{Meaning}
use Rattle.protobuf_parse_decode.specs.Parts.{says_of, words_of_type}
use Rattle.protobuf_parse_decode.specs.Inside.{values_view, word_view}
use Rattle.protobuf_parse_decode.proofs.CodeViews.{known_is}
use Rattle.protobuf_parse_decode.proofs.Packing.{packed_fails, packed_given}
use Rattle.protobuf_parse_decode.proofs.payloads.words_of.Goals as goal

pub returns-in_err-values-in-Delimited : goal.returns-in_err-values-in-Delimited
returns-in_err-values-in-Delimited c =
    let p = err_from_is_err_and c.from_residual.result c.from_residual.ensures.1 in
    rw (p.1, p.2, c.in-Delimited.is, c.if-not-repeated.false)
    (packed_fails (word_view c.args.expected) (says_of (words_of_type c.args.field_type))
    (span_view c.in-Delimited.span) _ c.in_err-values-in-Delimited.ensures)

pub returns-in_ok-values-in-Delimited : goal.returns-in_ok-values-in-Delimited
returns-in_ok-values-in-Delimited c =
    let vs = c.in_ok-values-in-Delimited.values in
    let w = word_view c.args.expected in
    let says = says_of (words_of_type c.args.field_type) in
    ap (λ (r : Bool). numbers_in w says r (payload_view c.args.payload)) c.if-not-repeated.false
    ∙ ap (λ (p : Payload). numbers_in w says true (payload_view p)) c.in-Delimited.is
    ∙ packed_given w says (span_view c.in-Delimited.span) (values_view vs.items)
    c.in_ok-values-in-Delimited.ensures
    ∙ ap (λ (m : Meaning). Ok m) (sym (known_is vs))
