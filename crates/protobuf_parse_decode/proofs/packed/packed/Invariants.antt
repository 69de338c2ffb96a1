use Rattle.std.proofs.Common.{length, map}
use Rattle.protobuf_parse_records.specs.Views.{span_view}
use Rattle.protobuf_parse_decode.specs.Decoding as spec
use Rattle.protobuf_parse_decode.specs.Parts.{says_of, words_of_type}
use Rattle.protobuf_parse_decode.specs.Inside.{value_view, word_view}
use Rattle.protobuf_parse_decode.proofs.Packing.{ToUnpack}
use Rattle.protobuf_parse_decode.proofs.packed.packed.Given as goal

abbrev pub invariant-rest : goal.invariant-rest
invariant-rest l =
    ToUnpack (word_view l.word) (says_of (words_of_type l.field_type))
    (map value_view l.values.items) (span_view l.rest)
    (spec.packed (word_view l.word) (says_of (words_of_type l.field_type)) (span_view l.span))

abbrev pub decreases-rest : goal.decreases-rest
decreases-rest l = length l.rest.bytes.now
