use Rattle.std.proofs.Common.{◌≡◌, Option, Some, None, Bool, sym, subst, ap}
use Rattle.protobuf_parse_records.specs.Views.{Content, payload_view}
use Rattle.protobuf_parse_wire.specs.Kinds.{Word}
use Rattle.protobuf_parse_decode.specs.Answers.{Answer, Gives}
use Rattle.protobuf_parse_decode.specs.Decoding.{numbers_in}
use Rattle.protobuf_parse_decode.specs.Fields.{Meaning}
use Rattle.protobuf_parse_decode.specs.Parts.{numbers_meant, says_of, value_word, words_of_type}
use Rattle.protobuf_parse_decode.specs.Sorts.{Says}
use Rattle.protobuf_parse_decode.specs.Inside.{meaning_view, word_view}
use Rattle.protobuf_parse_decode.proofs.payloads.numbers_of.Goals as goal

-- the numbers of a type that has some
meant_is : (o : Option (Word × Says)) (w : Word) (r : Bool) (p : Content) → Some w ≡ value_word o
    → numbers_meant o r p ≡ numbers_in w (says_of o) r p
meant_is None w r p h = absurd (cc)
meant_is (Some x) w r p h =
    let same : w ≡ x.0 = cc in
    ap (λ (y : Word). numbers_in y x.1 r p) (sym same)

pub returns-in-Some : goal.returns-in-Some
returns-in-Some c =
    let e = meant_is (words_of_type c.args.field_type) (word_view c.in-Some.expected)
    c.args.repeated (payload_view c.args.payload) c.in-Some.ensures in
    subst (λ (r : Answer Meaning). Gives meaning_view c.words_of.result r) (sym e)
    c.words_of.ensures
