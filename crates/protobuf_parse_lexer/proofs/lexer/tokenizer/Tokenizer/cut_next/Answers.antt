use Rattle.std.proofs.Common.{◌≡◌, true, false, slice_index, ap, sym, subst, ◌∙◌}
use Rattle.protobuf_parse_lexer.specs.Front.{long_ident}
use Rattle.protobuf_parse_lexer.specs.Text.{IsToken, is_in}
use Rattle.protobuf_parse_lexer.specs.declared.lexer.bytes.ByteClass.TheVariants as class
use Rattle.protobuf_parse_lexer.specs.declared.lexer.token.TokenKind.TheVariants as kind
use Rattle.protobuf_parse_lexer.proofs.lexer.tokenizer.Tokenizer.cut_next.Goals as goal

pub take-requires-clause-token : goal.take-requires-clause-token
take-requires-clause-token c =
    let z = c.as_bytes-bytes.result.now in
    let n = c.ident_end.result in
    let first = c.byte_at-first.ensures.value in
    let word : is_in class.Ident (slice_index z 0) ≡ true =
    ap (is_in class.Ident) (sym first) ∙ sym c.if-is_in.ensures in
    let no_digit : is_in class.Digit (slice_index z 0) ≡ false =
    ap (is_in class.Digit) (sym first) ∙ sym c.if-not-is_in.ensures in
    let is = c.ident_end.ensures in
    subst (λ y. IsToken y n kind.Ident) c.as_bytes-bytes.ensures.value
    (is.0, long_ident z n word no_digit is)

pub take-requires-in-Some-clause-token : goal.take-requires-in-Some-clause-token
take-requires-in-Some-clause-token c =
    subst (λ y. IsToken y c.in-Some.len (kind.Integer c.in-Some.number))
    c.as_bytes-bytes.ensures.value c.in-Some.ensures
