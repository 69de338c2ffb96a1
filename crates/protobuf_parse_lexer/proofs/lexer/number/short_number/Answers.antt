use Rattle.std.proofs.Common.{◌≡◌, ◌≢◌, true, false, slice_index, ap, sym, ◌∙◌, arith}
use Rattle.protobuf_parse_lexer.specs.Text.{is_in}
use Rattle.protobuf_parse_lexer.specs.declared.lexer.bytes.ByteClass.TheVariants as class
use Rattle.protobuf_parse_lexer.proofs.ShortWays.{two_digits}
use Rattle.protobuf_parse_lexer.proofs.lexer.number.short_number.Goals as goal

pub returns-then-not-goes_on-2 : goal.returns-then-not-goes_on-2
returns-then-not-goes_on-2 c =
    let z = c.args.text.now in
    let second = c.byte_at-second.ensures.value in
    let third = c.byte_at.ensures.value in
    let ends = c.goes_on-then-is_in.ensures in
    let digit : is_in class.Digit (slice_index z 1) ≡ true =
    ap (is_in class.Digit) (sym second) ∙ sym c.if-is_in.ensures in
    let other : is_in class.Ident (slice_index z 2) ≡ false =
    ap (is_in class.Ident) (sym third) ∙ ends.ident c.if-not-goes_on-2.true in
    let no_point : slice_index z 2 ≢ 46 =
    λ e. ends.point c.if-not-goes_on-2.true (third ∙ e) in
    two_digits z c.requires.digit c.if-first-ne48.true digit other no_point _
    (omega (arith, c.from-then-not-goes_on-2.ensures, c.from-then-not-goes_on-2-2.ensures, second))
