use Rattle.std.proofs.Common.{◌≡◌, ◌++◌, ◌∷◌, [], map, ap, ◌∙◌, arith}
use Rattle.std.proofs.lemmas.Result.{err_from_is_err_and}
use Rattle.std.proofs.lemmas.List.{map_push}
use Rattle.std.proofs.lemmas.Grind.{common_steps}
use Rattle.protobuf_parse_records.specs.Views.{span_view}
use Rattle.protobuf_parse_decode.specs.Fields.{Value}
use Rattle.protobuf_parse_decode.specs.Parts.{says_of, words_of_type}
use Rattle.protobuf_parse_decode.specs.Inside.{value_view, word_view}
use Rattle.protobuf_parse_decode.proofs.Packing.{ends, goes_on, is_done}
use Rattle.protobuf_parse_decode.proofs.packed.packed.Goals as goal

pub returns-in_err-number : goal.returns-in_err-number
returns-in_err-number c =
    let p = err_from_is_err_and c.from_residual.result c.from_residual.ensures.1 in
    rw (p.1, p.2)
    (ends (word_view c.args.word) (says_of (words_of_type c.args.field_type))
    (map value_view c.rest.values.items) (span_view c.rest.rest) _ _
    (grind (arith, common_steps)) c.in_err-number.ensures.gives c.rest.invariant)

pub rest-preserved : goal.rest-preserved
rest-preserved c =
    let says = says_of (words_of_type c.args.field_type) in
    let seen : map value_view c.push.new.self.items ≡ map value_view c.rest.values.items
    ++ says c.in_ok-number.number ∷ [] =
    rw c.in_ok-push.ensures.items (map_push value_view c.rest.values.items c.value_of.result)
    ∙ ap (λ (v : Value). map value_view c.rest.values.items ++ v ∷ []) c.value_of.ensures in
    rw seen (goes_on (word_view c.args.word) says (map value_view c.rest.values.items)
    (span_view c.rest.rest) c.in_ok-number.number (span_view c.in_ok-number.behind) _
    c.in_ok-number.ensures.shorter c.in_ok-number.ensures.gives c.rest.invariant)

pub returns : goal.returns
returns c =
    is_done (word_view c.args.word) (says_of (words_of_type c.args.field_type))
    (map value_view c.rest.values.items) (span_view c.rest.rest) _
    (grind (arith, common_steps)) c.rest.invariant
