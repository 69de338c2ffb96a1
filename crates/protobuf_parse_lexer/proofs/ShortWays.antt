-- What the short ways past blanks and tokens find at the front of a text.
use Rattle.std.proofs.Common.{◌≡◌, ◌≢◌, ℕ, zero, suc, ◌+◌, ◌-◌, ◌*◌, ◌<◌, ◌≤◌, ◌^◌, true, false, []}
use Rattle.std.proofs.Common.{◌∷◌, length, take, drop, slice_index, refl, sym, ap, ◌∙◌, subst}
use Rattle.std.proofs.Common.{arith, eqb, nat_le, nat_lt, ◌||◌, inl, inr, ◌⊎◌, IsUtf8}
use Rattle.std.specs.Char as char
use Rattle.std.specs.Prelude.{slice_range}
use Rattle.std.specs.Str.{IsCharBoundary}
use Rattle.std.specs.Str.Parse.{digits_value}
use Rattle.std.proofs.lemmas.Bool.{false≢true, cases_lt}
use Rattle.std.proofs.lemmas.Bool.Decides.{nat_tests}
use Rattle.std.proofs.lemmas.Str.{IsCharBoundary-from_drop}
use Rattle.protobuf_parse_lexer.specs.AheadOf.{ahead, from_piece}
use Rattle.protobuf_parse_lexer.specs.Front.{after_whole, long_number, number_first}
use Rattle.protobuf_parse_lexer.specs.Front.{number_from_integer}
use Rattle.protobuf_parse_lexer.specs.Place.{after, step}
use Rattle.protobuf_parse_lexer.specs.Scan.{BeginsNumber, IsPlaceBefore, Stands}
use Rattle.protobuf_parse_lexer.specs.Scan.{begins_line_comment}
use Rattle.protobuf_parse_lexer.specs.Text.{Bytes, is_in, AllIn, RunStopsAt, IsBlank, IsDecimal}
use Rattle.protobuf_parse_lexer.specs.Text.{IsFloat, IsLetterE, IsLongest, IsNumberText, IsToken}
use Rattle.protobuf_parse_lexer.specs.Text.{IsQuote, is_symbol}
use Rattle.protobuf_parse_lexer.specs.Total.{total, true_or_false}
use Rattle.protobuf_parse_lexer.specs.declared.lexer.bytes.ByteClass.TheVariants as class
use Rattle.protobuf_parse_lexer.specs.declared.lexer.front.Piece.{Piece}
use Rattle.protobuf_parse_lexer.specs.declared.lexer.front.Piece.TheVariants as piece
use Rattle.protobuf_parse_lexer.specs.declared.lexer.token.Place.{Place}
use Rattle.protobuf_parse_lexer.specs.declared.lexer.token.TokenKind.{TokenKind}
use Rattle.protobuf_parse_lexer.specs.declared.lexer.token.TokenKind.TheVariants as kind
use Rattle.protobuf_parse_lexer.proofs.Ahead.{ahead_is, blank_some, blank_step}
use Rattle.protobuf_parse_lexer.proofs.Cuts.{blank_cut}

-- ---- blanks

space_is_blank : (b : ℕ) → b ≡ 32 → is_in class.Blank b ≡ true
space_is_blank b e = rw e refl

pub spaces_more : (z : Bytes) (i n : ℕ) → AllIn class.Blank z 0 i
    → ((k : ℕ) → i ≤ k → k < n → slice_index z k ≡ 32) → AllIn class.Blank z 0 n
spaces_more z i n each spaces k from less =
    elim (cases_lt k i) [
      | inl before ↦ each k from before
      | inr behind ↦ space_is_blank (slice_index z k) (spaces k (omega arith) less)
    ]

pub blank_more : (z : Bytes) (n : ℕ) → AllIn class.Blank z 0 n
    → is_in class.Blank (slice_index z n) ≡ true → AllIn class.Blank z 0 (n + 1)
blank_more z n each is k from less =
    elim (cases_lt k n) [
      | inl before ↦ each k from before
      | inr here ↦
          let e : n ≡ k = omega arith in
          subst (λ j. is_in class.Blank (slice_index z j) ≡ true) e is
    ]

pub are_blank : (z : Bytes) (n : ℕ) → 0 < n → n ≤ length z → AllIn class.Blank z 0 n
    → RunStopsAt class.Blank z n → IsBlank z n
are_blank z n some within each stops =
    inl (record { some = some; within = within; each = each; stops = stops })

pub blanks_cut : (z : Bytes) (n : ℕ) → IsUtf8 z → n ≤ length z → AllIn class.Blank z 0 n
    → RunStopsAt class.Blank z n → IsCharBoundary z n
blanks_cut z zero utf8 within each stops = IsCharBoundary-from_drop z 0 within utf8
blanks_cut z (suc n) utf8 within each stops =
    blank_cut z (suc n) utf8 (are_blank z (suc n) (omega arith) within each stops)

-- the same lies ahead behind blanks, perhaps none
pub blanks_step : (o c : ℕ) (p at : Place) (z rest : Bytes) (n : ℕ) → n ≤ length z
    → AllIn class.Blank z 0 n → RunStopsAt class.Blank z n → rest ≡ drop n z
    → at ≡ after p (take n z) → ahead o c at rest ≡ ahead o c p z
blanks_step o c p at z rest zero within each stops f g =
    ap (λ a. ahead o c a rest) g ∙ ap (ahead o c p) f
blanks_step o c p at z rest (suc n) within each stops f g =
    blank_step o c p at z (take (suc n) z) rest (suc n)
    (are_blank z (suc n) (omega arith) within each stops) refl f g

-- ---- comments before a line feed

line_byte : (b : ℕ) → is_in class.Line b ≡ true → eqb b 10 ≡ false
line_byte b h = grind (arith, nat_tests)

slashes : (z : Bytes) → begins_line_comment z ≡ true
    → (slice_index z 0 ≡ 47) × (slice_index z 1 ≡ 47)
slashes z h = grind (arith, nat_tests)

same_step : (p : Place) (b : ℕ) → eqb b 10 ≡ false → (step p b).line ≡ p.line
same_step p b other =
    elim (true_or_false (nat_lt b 0x80 || nat_le 0xc0 b)) [
      | inl h ↦ rw (other, h) refl
      | inr h ↦ rw (other, h) refl
    ]

-- no line feed in these bytes
pub same_line : (p : Place) (z : Bytes) → AllIn class.Line z 0 (length z) → (after p z).line
    ≡ p.line
same_line p [] each = refl
same_line p (b ∷ z) each =
    let other : eqb b 10 ≡ false = line_byte b (each 0 (omega arith) (omega arith)) in
    same_line (step p b) z (λ k from less. each (suc k) (omega arith) (omega arith))
    ∙ same_step p b other

quote_no_feed : (b : ℕ) → IsQuote b → b ≡ 10 → ⊥
quote_no_feed b (inl q) e = omega (arith, q, e)
quote_no_feed b (inr q) e = omega (arith, q, e)

number_no_feed : (z : Bytes) → BeginsNumber z → slice_index z 0 ≡ 10 → ⊥
number_no_feed z (inl d) e = false≢true (subst (λ b. is_in class.Digit b ≡ true) e d)
number_no_feed z (inr p) e = omega (arith, p.0, e)

token_no_feed : (z : Bytes) (n : ℕ) (k : TokenKind) → IsToken z n k → slice_index z 0 ≡ 10 → ⊥
token_no_feed z n kind.Ident t e =
    false≢true (subst (λ b. is_in class.Ident b ≡ true) e (t.0.each 0 (omega arith) t.0.some))
token_no_feed z n kind.Str t e = quote_no_feed (slice_index z 0) t.0.quote e
token_no_feed z n (kind.Integer v) t e =
    number_no_feed z (number_first z n (number_from_integer z n v t.0)) e
token_no_feed z n kind.Float t e =
    number_no_feed z (number_first z n (inr (inr (inr t.0)))) e
token_no_feed z n (kind.Symbol b) t e =
    false≢true (subst (λ x. is_symbol x ≡ true) (t.2 ∙ e) t.3)

-- where a line feed comes first the column says nothing
feed_place : (p q : Place) (n : ℕ) (z : Bytes) → 0 < n → p.line ≡ q.line
    → after p (take n (10 ∷ z)) ≡ after q (take n (10 ∷ z))
feed_place p q zero z some e = absurd (omega arith)
feed_place p q (suc n) z some e =
    ap (λ l. after (record { line = l + 1; col = 1 }) (take n z)) e

feed_step : (o c : ℕ) (p q : Place) (z : Bytes) → slice_index z 0 ≡ 10 → p.line ≡ q.line
    → ahead o c p z ≡ ahead o c q z
feed_step o c p q [] feed e = absurd (omega (arith, feed))
feed_step o c p q (b ∷ z) feed e =
    let r = total (b ∷ z) in
    ahead_is o c p (b ∷ z) r.0 r.1 ∙ go r.0 r.1 ∙ sym (ahead_is o c q (b ∷ z) r.0 r.1)
  where
    go : (r : Piece) → Stands (b ∷ z) r
        → from_piece ahead o c p (b ∷ z) r ≡ from_piece ahead o c q (b ∷ z) r
    go piece.End is = absurd (omega (arith, is))
    go (piece.Blank n) is =
        ap (λ a. ahead o c a (drop n (b ∷ z)))
        (subst (λ x. after p (take n (x ∷ z)) ≡ after q (take n (x ∷ z))) (sym feed)
        (feed_place p q n z (blank_some (b ∷ z) n is).0 e))
    go (piece.Token n k) is = absurd (token_no_feed (b ∷ z) n k is feed)
    go (piece.Fault x) is = refl

pub behind_step : (o c : ℕ) (p at : Place) (z front rest : Bytes) (n : ℕ) → IsBlank z n
    → front ≡ take n z → rest ≡ drop n z → IsPlaceBefore rest (after p front) at
    → ahead o c at rest ≡ ahead o c p z
behind_step o c p at z front rest n is e f (inl g) = blank_step o c p at z front rest n is e f g
behind_step o c p at z front rest n is e f (inr g) =
    feed_step o c at (after p front) rest g.0 g.1
    ∙ blank_step o c p (after p front) z front rest n is e f refl

-- ---- decimal integers behind which nothing goes on with them

digit_is_ident : (b : ℕ) → is_in class.Digit b ≡ true → is_in class.Ident b ≡ true
digit_is_ident b h = grind (arith, nat_tests)

no_ident_digit : (b : ℕ) → is_in class.Ident b ≡ false → is_in class.Digit b ≡ true → ⊥
no_ident_digit b h d = false≢true (sym h ∙ digit_is_ident b d)

letter_is_ident : (b : ℕ) → IsLetterE b → is_in class.Ident b ≡ true
letter_is_ident b (inl e) = rw e refl
letter_is_ident b (inr e) = rw e refl

x_is_ident : (b : ℕ) → (b ≡ 120) ⊎ (b ≡ 88) → is_in class.Ident b ≡ true
x_is_ident b (inl e) = rw e refl
x_is_ident b (inr e) = rw e refl

mark_no_digit : (b : ℕ) → (b ≡ 46) ⊎ IsLetterE b → is_in class.Digit b ≡ true → ⊥
mark_no_digit b (inl e) d = false≢true (subst (λ x. is_in class.Digit x ≡ true) e d)
mark_no_digit b (inr (inl e)) d = false≢true (subst (λ x. is_in class.Digit x ≡ true) e d)
mark_no_digit b (inr (inr e)) d = false≢true (subst (λ x. is_in class.Digit x ≡ true) e d)

octal_is_digit : (b : ℕ) → is_in class.Octal b ≡ true → is_in class.Digit b ≡ true
octal_is_digit b h = grind (arith, nat_tests)

module _ (z : Bytes) (n : ℕ) (decimal : IsDecimal z n)
    (other : is_in class.Ident (slice_index z n) ≡ false) (no_point : slice_index z n ≢ 46) where
  no_digits : (m : ℕ) → AllIn class.Digit z 0 m → m ≤ n
  no_digits m each =
      elim (cases_lt n m) [
        | inl more ↦ absurd (no_ident_digit (slice_index z n) other (each n (omega arith) more))
        | inr less ↦ omega arith
      ]

  no_float : (m : ℕ) → IsFloat z m → ⊥
  no_float m f =
      let mark = after_whole z m f in
      elim (cases_lt f.whole n) [
        | inl before ↦ mark_no_digit _ mark (decimal.each f.whole (omega arith) before)
        | inr behind ↦
            let e : f.whole ≡ n = omega (arith, no_digits f.whole f.digits) in
            elim (subst (λ k. (slice_index z k ≡ 46) ⊎ IsLetterE (slice_index z k)) e mark) [
              | inl point ↦ no_point point
              | inr letter ↦ false≢true (sym other ∙ letter_is_ident _ letter)
            ]
      ]

  most : (m : ℕ) → IsNumberText z m → m ≤ n
  most m (inl d) = no_digits m d.each
  most m (inr (inl h)) =
      let one : 1 ≡ n = sym (decimal.zero_alone h.first) in
      let x = subst (λ k. (slice_index z k ≡ 120) ⊎ (slice_index z k ≡ 88)) one h.second in
      absurd (false≢true (sym other ∙ x_is_ident (slice_index z n) x))
  most m (inr (inr (inl o))) =
      let one : n ≡ 1 = decimal.zero_alone o.first in
      let next = o.each n (omega arith) (omega (arith, o.some)) in
      absurd (no_ident_digit (slice_index z n) other (octal_is_digit (slice_index z n) next))
  most m (inr (inr (inr f))) = absurd (no_float m f)

  pub ends_longest : IsLongest z n
  ends_longest = long_number z n (inl (decimal.each 0 (omega arith) decimal.some)) most

  pub ends_token : (v : ℕ) → v ≡ digits_value 10 (slice_range z 0 n) → v < 2 ^ 64
      → IsToken z n (kind.Integer v)
  ends_token v e small = (inl (decimal, e), small, ends_longest, λ less. other)

digit_counts : (b : ℕ) → is_in class.Digit b ≡ true → char.digit_value b ≡ b - 48
digit_counts b h = grind (arith, nat_tests)

digit_less : (b : ℕ) → is_in class.Digit b ≡ true → b - 48 < 10
digit_less b h = grind (arith, nat_tests)

pub two_digits : (z : Bytes) → is_in class.Digit (slice_index z 0) ≡ true → slice_index z 0 ≢ 48
    → is_in class.Digit (slice_index z 1) ≡ true → is_in class.Ident (slice_index z 2) ≡ false
    → slice_index z 2 ≢ 46
    → (v : ℕ) → v ≡ (slice_index z 0 - 48) * 10 + (slice_index z 1 - 48)
    → IsToken z 2 (kind.Integer v)
two_digits [] d no_zero d' other no_point v e = absurd (false≢true d)
two_digits (a ∷ []) d no_zero d' other no_point v e = absurd (false≢true d')
two_digits (a ∷ b ∷ z) d no_zero d' other no_point v e =
    let decimal : IsDecimal (a ∷ b ∷ z) 2 = record {
      some = omega arith;
      within = omega arith;
      each = both a b z d d';
      zero_alone = λ e. absurd (no_zero e);
    } in
    ends_token (a ∷ b ∷ z) 2 decimal other no_point v
    (omega (arith, e, digit_counts a d, digit_counts b d'))
    (omega (arith, e, digit_less a d, digit_less b d'))
  where
    both : (a b : ℕ) (z : Bytes) → is_in class.Digit a ≡ true → is_in class.Digit b ≡ true
        → AllIn class.Digit (a ∷ b ∷ z) 0 2
    both a b z d d' zero from less = d
    both a b z d d' (suc zero) from less = d'
    both a b z d d' (suc (suc k)) from less = absurd (omega arith)
