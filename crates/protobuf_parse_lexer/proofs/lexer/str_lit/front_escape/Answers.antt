use Rattle.std.proofs.Common.{◌≡◌, sym, ap, ◌∙◌, subst, inl, inr, arith, MatchOption, true, false}
use Rattle.protobuf_parse_lexer.specs.Text.{is_in}
use Rattle.protobuf_parse_lexer.specs.declared.lexer.bytes.ByteClass.TheVariants as class
use Rattle.protobuf_parse_lexer.specs.Tokens.{letter, letter_byte}
use Rattle.protobuf_parse_lexer.specs.PieceParts.{HasEscape, HasNoEscape}
use Rattle.protobuf_parse_lexer.specs.Escapes.{octal_front, hex_front, short_front, long_front}
use Rattle.protobuf_parse_lexer.specs.Escapes.{no_letter}
use Rattle.protobuf_parse_lexer.proofs.lexer.str_lit.front_escape.Goals as goal
use Rattle.protobuf_parse_lexer.proofs.lexer.str_lit.front_escape.Goals.{then-letter-eq120-via-then-letter-eq120}
use Rattle.protobuf_parse_lexer.proofs.lexer.str_lit.front_escape.Goals.{then-letter-eq120-via-else-letter-eq120+then-letter-eq88}

pub returns-then-is_in : goal.returns-then-is_in
returns-then-is_in c =
    octal_front c.args.text.now c.byte_escape.result
    (subst (λ b. is_in class.Octal b ≡ true) c.byte_at-letter.ensures.value
    (sym c.if-is_in.ensures)) c.byte_escape.ensures

pub returns-then-letter-eq120 : goal.returns-then-letter-eq120
returns-then-letter-eq120 c =
    hex_front c.args.text.now c.byte_escape-then-letter-eq120.result
    (elim c.then-letter-eq120.branch [
      | then-letter-eq120-via-then-letter-eq120 w ↦ inl
          (omega (arith, c.byte_at-letter.ensures.value))
      | then-letter-eq120-via-else-letter-eq120+then-letter-eq88 w ↦ inr
          (omega (arith, c.byte_at-letter.ensures.value))
    ])
    c.byte_escape-then-letter-eq120.ensures

pub returns-then-letter-eq117 : goal.returns-then-letter-eq117
returns-then-letter-eq117 c =
    short_front c.args.text.now c.char_escape.result
    (omega (arith, c.byte_at-letter.ensures.value)) c.char_escape.ensures

pub returns-then-letter-eq85 : goal.returns-then-letter-eq85
returns-then-letter-eq85 c =
    long_front c.args.text.now c.char_escape-then-letter-eq85.result
    (omega (arith, c.byte_at-letter.ensures.value)) c.char_escape-then-letter-eq85.ensures

pub returns-in_err-byte : goal.returns-in_err-byte
returns-in_err-byte c =
    let letter_is = c.byte_at-letter.ensures.value in
    subst (λ r. MatchOption r (HasNoEscape c.args.text.now) (HasEscape c.args.text.now))
    (sym c.from_residual.ensures)
    (no_letter c.args.text.now
    (subst (λ b. is_in class.Octal b ≡ false) letter_is (sym c.if-is_in.ensures))
    (λ e. c.if-letter-eq120.false (letter_is ∙ e))
    (λ e. c.if-letter-eq88.false (letter_is ∙ e))
    (λ e. c.if-letter-eq117.false (letter_is ∙ e))
    (λ e. c.if-letter-eq85.false (letter_is ∙ e))
    (ap letter_byte (sym letter_is) ∙ sym c.in_err-byte.ensures))

pub returns : goal.returns
returns c =
    letter c.in_ok-byte.byte (ap letter_byte (sym c.byte_at-letter.ensures.value)
    ∙ sym c.in_ok-byte.ensures)
