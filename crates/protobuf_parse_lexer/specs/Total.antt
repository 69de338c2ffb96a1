-- No public clause rests on this file.
-- Something stands at the front of each text.
use Rattle.std.proofs.Common.{◌≡◌, ℕ, zero, suc, ◌+◌, ◌-◌, ◌<◌, ◌≤◌, ◌^◌, Bool, true, false}
use Rattle.std.proofs.Common.{[], ◌∷◌, length, drop, slice_index, slice_range, Option, Some, None}
use Rattle.std.proofs.Common.{MatchOption, refl, sym, ap, ◌∙◌, subst, inl, inr, ⊎_elim, ◌⊎◌, arith}
use Rattle.std.specs.Str.Parse.{digits_value}
use Rattle.std.proofs.lemmas.Bool.{false≢true, cases_lt}
use Rattle.std.proofs.lemmas.List.{get_or_past}
use Rattle.protobuf_parse_lexer.specs.declared.lexer.bytes.ByteClass.{ByteClass}
use Rattle.protobuf_parse_lexer.specs.declared.lexer.bytes.ByteClass.TheVariants as class
use Rattle.protobuf_parse_lexer.specs.declared.lexer.front.Piece.{Piece}
use Rattle.protobuf_parse_lexer.specs.declared.lexer.front.Piece.TheVariants as piece
use Rattle.protobuf_parse_lexer.specs.declared.lexer.token.TokenKind.TheVariants as kind
use Rattle.protobuf_parse_lexer.specs.declared.error.ParserError.TheVariants as error
use Rattle.protobuf_parse_lexer.specs.Scan.{closing, EndsFraction, BeginsNumber, Stands}
use Rattle.protobuf_parse_lexer.specs.Text.{Bytes, is_in, AllIn, RunStopsAt, Closes, IsBlock}
use Rattle.protobuf_parse_lexer.specs.Text.{IsQuote, IsString, IsDecimal, IsHex, IsOctal}
use Rattle.protobuf_parse_lexer.specs.Text.{IsLetterE, IsSign, IsExponent, IsFloat, IsIntegerText}
use Rattle.protobuf_parse_lexer.specs.Text.{IsLiteral, IsLongest, NoFront, HasNoComment}
use Rattle.protobuf_parse_lexer.specs.Longest.{Longest}
use Rattle.protobuf_parse_lexer.specs.Text.{IsIdentText, is_symbol}
use Rattle.protobuf_parse_lexer.specs.Front.{quote_is_no_ident, begins_no_quote, number_first}
use Rattle.protobuf_parse_lexer.specs.Front.{number_from_integer, long_ident, long_string}
use Rattle.protobuf_parse_lexer.specs.Front.{string_answer, long_hex, long_octal, long_decimal}
use Rattle.protobuf_parse_lexer.specs.Front.{long_float, digit_begins, same_whole, below}
use Rattle.protobuf_parse_lexer.specs.Front.{exponent_float, fraction_float, no_float, no_long}

-- some piece stands there
abbrev Front : Bytes → Type 0
Front z = (p : Piece) × Stands z p

-- the longest front that is so, if there is any
abbrev Ending : (Bytes → ℕ → Type 0) → Bytes → Type 0
Ending Is z = ((n : ℕ) × Longest Is z n) ⊎ NoFront Is z

-- ---- bytes

pub true_or_false : (b : Bool) → (b ≡ true) ⊎ (b ≡ false)
true_or_false true = inl refl
true_or_false false = inr refl

same_or_not : (b c : ℕ) → (b ≡ c) ⊎ (b ≡ c → ⊥)
same_or_not b c =
    elim (cases_lt b c) [
      | inl h ↦ inr (λ e. omega arith)
      | inr h ↦ elim (cases_lt c b) [ inl g ↦ inr (λ e. omega arith) | inr g ↦ inl (omega arith) ]
    ]

either_or_not : (b c d : ℕ) → ((b ≡ c) ⊎ (b ≡ d)) ⊎ ((b ≡ c) ⊎ (b ≡ d) → ⊥)
either_or_not b c d =
    elim (same_or_not b c) [
      | inl h ↦ inl (inl h)
      | inr h ↦ elim (same_or_not b d)
          [ inl g ↦ inl (inr g) | inr g ↦ inr (λ e. ⊎_elim h g e) ]
    ]

-- no byte but 0 stands beyond the end
byte_within : (z : Bytes) (k b : ℕ) → slice_index z k ≡ suc b → k < length z
byte_within z k b h =
    ⊎_elim (λ less. less)
    (λ past. let none : slice_index z k ≡ 0 = get_or_past z k 0 past in
    absurd (omega arith)) (cases_lt k (length z))

class_within : (c : ByteClass) (z : Bytes) (k : ℕ) → is_in c 0 ≡ false
    → is_in c (slice_index z k) ≡ true → k < length z
class_within c z k none h =
    ⊎_elim (λ less. less)
    (λ past. absurd (false≢true (sym none ∙ (ap (is_in c) (sym (get_or_past z k 0 past)) ∙ h))))
    (cases_lt k (length z))

-- ---- runs

-- the bytes of the class from `at` on, as many as stand there
record Run (c : ByteClass) (z : Bytes) (at : ℕ) : Type 0 where
  end : ℕ
  after : at ≤ end
  within : end ≤ length z
  each : AllIn c z at end
  stops : RunStopsAt c z end

one_more : (c : ByteClass) (z : Bytes) (at n : ℕ) → is_in c (slice_index z at) ≡ true
    → AllIn c z (at + 1) n → AllIn c z at n
one_more c z at n h each k after before =
    ⊎_elim (λ more. each k (omega arith) before)
    (λ less. let is : at ≡ k = omega arith in
    subst (λ i. is_in c (slice_index z i) ≡ true) is h) (cases_lt at k)

-- `left` bytes stand behind `at`
run_upto : (c : ByteClass) (z : Bytes) (at left : ℕ) → length z ≡ at + left → Run c z at
run_upto c z at zero e = record {
  end = at;
  after = omega arith;
  within = omega arith;
  each = λ k after before. absurd (omega arith);
  stops = λ less. absurd (omega arith);
}
run_upto c z at (suc left) e =
    elim (true_or_false (is_in c (slice_index z at))) [
      | inl h ↦
          let r = run_upto c z (at + 1) left (omega arith) in
          record {
            end = r.end;
            after = omega (arith, r.after);
            within = r.within;
            each = one_more c z at r.end h r.each;
            stops = r.stops;
          }
      | inr h ↦ record {
        end = at;
        after = omega arith;
        within = omega arith;
        each = λ k after before. absurd (omega arith);
        stops = λ less. h;
      }
    ]

run : (c : ByteClass) (z : Bytes) (at : ℕ) → at ≤ length z → Run c z at
run c z at within = run_upto c z at (length z - at) (omega arith)

run_some : (c : ByteClass) (z : Bytes) (at : ℕ) (r : Run c z at) → at < length z
    → is_in c (slice_index z at) ≡ true → at < r.end
run_some c z at r within h =
    ⊎_elim (λ less. less)
    (λ other. let is : r.end ≡ at = omega (arith, r.after) in
    absurd (false≢true
    (sym (subst (λ i. is_in c (slice_index z i) ≡ false) is (r.stops (omega arith))) ∙ h)))
    (cases_lt at r.end)

run_most : (c : ByteClass) (z : Bytes) (at : ℕ) (r : Run c z at) (m : ℕ) → AllIn c z at m
    → m ≤ length z → m ≤ r.end
run_most c z at r m each within =
    ⊎_elim
    (λ more. absurd (false≢true (sym (r.stops (omega arith)) ∙ each r.end r.after more)))
    (λ less. less) (cases_lt r.end m)

-- ---- block comments

closes_or_not : (z : Bytes) (k : ℕ) → Closes z k ⊎ (Closes z k → ⊥)
closes_or_not z k =
    elim (same_or_not (slice_index z k) 42) [
      | inl h ↦ elim (same_or_not (slice_index z (k + 1)) 47)
          [ inl g ↦ inl (h, g) | inr g ↦ inr (λ p. g p.1) ]
      | inr h ↦ inr (λ p. h p.0)
    ]

-- none closes at `at` either
none_yet : (z : Bytes) (at : ℕ) → ((k : ℕ) → 2 ≤ k → k < at → Closes z k → ⊥)
    → (Closes z at → ⊥) → (k : ℕ) → 2 ≤ k → k < at + 1 → Closes z k → ⊥
none_yet z at none here k some before closes =
    ⊎_elim (λ less. none k some less closes)
    (λ other. let is : k ≡ at = omega arith in
    here (subst (λ i. Closes z i) is closes)) (cases_lt k at)

module _ (z : Bytes) (first : slice_index z 0 ≡ 47) (second : slice_index z 1 ≡ 42) where
  -- where none closes before `at`, the search goes on from there
  block_upto : (at left : ℕ) → 2 ≤ at → length z ≡ at + left
      → ((k : ℕ) → 2 ≤ k → k < at → Closes z k → ⊥)
      → ((n : ℕ) × IsBlock z n) ⊎ NoFront IsBlock z
  block_upto at zero some e none =
      inr (λ m b. none (m - 2) (omega (arith, b.some)) (omega (arith, b.some, b.within)) b.closes)
  block_upto at (suc left) some e none =
      elim (closes_or_not z at) [
        | inl h ↦
            let more = byte_within z (at + 1) 46 h.1 in
            let is : at ≡ at + 2 - 2 = omega arith in
            inl (
              at + 2,
              record {
                first = first;
                second = second;
                some = omega arith;
                within = omega arith;
                closes = subst (λ i. Closes z i) is h;
                earlier = λ k after before. none k after (omega arith);
              },
            )
        | inr h ↦ block_upto (at + 1) left (omega arith) (omega arith) (none_yet z at none h)
      ]

  block : ((n : ℕ) × IsBlock z n) ⊎ NoFront IsBlock z
  block =
      let two = byte_within z 1 41 second in
      block_upto 2 (length z - 2) (omega arith) (omega arith)
      (λ k after before. absurd (omega arith))

-- ---- floats

sign_no_digit : (b : ℕ) → IsSign b → is_in class.Digit b ≡ true → ⊥
sign_no_digit b (inl e) h = false≢true (subst (λ x. is_in class.Digit x ≡ true) e h)
sign_no_digit b (inr e) h = false≢true (subst (λ x. is_in class.Digit x ≡ true) e h)

-- behind a sign the digits of an exponent begin later
from_signed : (z : Bytes) (at m : ℕ) (x : IsExponent at z m) → IsSign (slice_index z (at + 1))
    → x.from ≡ at + 2
from_signed z at m x sign =
    elim x.begins [
      | inl b ↦ let digit = x.each (at + 1) (omega arith) (omega (arith, x.some)) in
          absurd (sign_no_digit (slice_index z (at + 1)) sign digit)
      | inr b ↦ b.0
    ]

from_own : (z : Bytes) (at m : ℕ) (x : IsExponent at z m)
    → (IsSign (slice_index z (at + 1)) → ⊥) → x.from ≡ at + 1
from_own z at m x none = elim x.begins [ inl b ↦ b | inr b ↦ absurd (none b.1) ]

-- an exponent, of which the digits can only begin at `from`
exponent_from : (z : Bytes) (at from : ℕ) → IsLetterE (slice_index z at)
    → (from ≡ at + 1) ⊎ ((from ≡ at + 2) × IsSign (slice_index z (at + 1)))
    → ((m : ℕ) (x : IsExponent at z m) → x.from ≡ from) → Ending (IsExponent at) z
exponent_from z at from letter begins only =
    elim (true_or_false (is_in class.Digit (slice_index z from))) [
      | inl h ↦
          let less = class_within class.Digit z from refl h in
          let r = run class.Digit z from (omega arith) in
          inl (
            r.end,
            (
              record {
                from = from;
                letter = letter;
                begins = begins;
                some = run_some class.Digit z from r less h;
                within = r.within;
                each = r.each;
              },
              λ m x. run_most class.Digit z from r m
                  (subst (λ i. AllIn class.Digit z i m) (only m x) x.each) x.within,
            ),
          )
      | inr h ↦ inr
          (λ m x. let e = only m x in
          false≢true (sym h ∙ x.each from (omega arith) (omega (arith, x.some))))
    ]

exponent : (z : Bytes) (at : ℕ) → Ending (IsExponent at) z
exponent z at =
    elim (either_or_not (slice_index z at) 101 69) [
      | inl letter ↦ elim (either_or_not (slice_index z (at + 1)) 43 45) [
        | inl sign ↦
            exponent_from z at (at + 2) letter (inr (refl, sign))
            (λ m x. from_signed z at m x sign)
        | inr other ↦
            exponent_from z at (at + 1) letter (inl refl) (λ m x. from_own z at m x other)
      ]
      | inr other ↦ inr (λ m x. other x.letter)
    ]

fraction : (z : Bytes) (whole : ℕ) → whole ≤ length z → (point : ℕ) × EndsFraction z whole point
fraction z whole within =
    elim (same_or_not (slice_index z whole) 46) [
      | inl h ↦
          let less = byte_within z whole 45 h in
          let r = run class.Digit z (whole + 1) (omega arith) in
          (r.end, record { within = r.within; ends = inr (h, r.after, r.each, r.stops) })
      | inr h ↦ (whole, record { within = within; ends = inl (refl, h) })
    ]

-- the digits that stand there, and the longest fraction after them
module _ (z : Bytes) (whole point : ℕ) (each : AllIn class.Digit z 0 whole)
    (stops : RunStopsAt class.Digit z whole) (ends : EndsFraction z whole point) where
  no_digits : whole ≤ 0 → point ≤ whole + 1 → NoFront IsFloat z
  no_digits none short m f =
      let w = same_whole z whole point each stops ends m f in
      let p = below z whole point each stops ends m f in
      elim f.some [ inl h ↦ omega arith | inr h ↦ omega arith ]

  some_float : (0 < whole) ⊎ (whole + 1 < point) → Ending IsFloat z
  some_float some =
      elim (exponent z point) [
        | inl x ↦ inl (x.0, exponent_float z whole point each stops ends x.0 some x.1)
        | inr none ↦ elim (cases_lt whole point) [
          | inl more ↦ inl (point, fraction_float z whole point each stops ends some none more)
          | inr less ↦ inr (no_float z whole point each stops ends none less)
        ]
      ]

  float_after : Ending IsFloat z
  float_after =
      elim (cases_lt 0 whole) [
        | inl h ↦ some_float (inl h)
        | inr h ↦ elim (cases_lt (whole + 1) point)
            [ inl g ↦ some_float (inr g) | inr g ↦ inr (no_digits h g) ]
      ]

float : (z : Bytes) → Run class.Digit z 0 → Ending IsFloat z
float z r =
    let f = fraction z r.end r.within in
    float_after z r.end f.0 r.each r.stops f.1

-- ---- integers

-- the digits that stand behind `0x`, behind `0`, or from the first byte on

hex_from : (z : Bytes) → slice_index z 0 ≡ 48 → (slice_index z 1 ≡ 120) ⊎ (slice_index z 1 ≡ 88)
    → Ending IsHex z
hex_from z first second =
    elim (true_or_false (is_in class.Hex (slice_index z 2))) [
      | inl h ↦
          let less = class_within class.Hex z 2 refl h in
          let r = run class.Hex z 2 (omega arith) in
          inl (
            r.end,
            (
              record {
                some = omega (arith, run_some class.Hex z 2 r less h);
                within = r.within;
                first = first;
                second = second;
                each = r.each;
              },
              λ m x. run_most class.Hex z 2 r m x.each x.within,
            ),
          )
      | inr h ↦ inr (λ m x. false≢true (sym h ∙ x.each 2 (omega arith) (omega (arith, x.some))))
    ]

hex : (z : Bytes) → Ending IsHex z
hex z =
    elim (same_or_not (slice_index z 0) 48) [
      | inl first ↦ elim (either_or_not (slice_index z 1) 120 88)
          [ inl second ↦ hex_from z first second | inr other ↦ inr (λ m x. other x.second) ]
      | inr other ↦ inr (λ m x. other x.first)
    ]

octal_from : (z : Bytes) → slice_index z 0 ≡ 48 → Ending IsOctal z
octal_from z first =
    elim (true_or_false (is_in class.Octal (slice_index z 1))) [
      | inl h ↦
          let less = class_within class.Octal z 1 refl h in
          let r = run class.Octal z 1 (omega arith) in
          inl (
            r.end,
            (
              record {
                some = omega (arith, run_some class.Octal z 1 r less h);
                within = r.within;
                first = first;
                each = r.each;
              },
              λ m x. run_most class.Octal z 1 r m x.each x.within,
            ),
          )
      | inr h ↦ inr (λ m x. false≢true (sym h ∙ x.each 1 (omega arith) (omega (arith, x.some))))
    ]

octal : (z : Bytes) → Ending IsOctal z
octal z =
    elim (same_or_not (slice_index z 0) 48)
    [ inl first ↦ octal_from z first | inr other ↦ inr (λ m x. other x.first) ]

decimal : (z : Bytes) → Run class.Digit z 0 → is_in class.Digit (slice_index z 0) ≡ true
    → (n : ℕ) × Longest IsDecimal z n
decimal z r h =
    let less = class_within class.Digit z 0 refl h in
    let some = run_some class.Digit z 0 r less h in
    elim (same_or_not (slice_index z 0) 48) [
      | inl e ↦ (
        1,
        (
          record {
            some = omega arith;
            within = omega arith;
            each = λ k after before. r.each k after (omega arith);
            zero_alone = λ is. refl;
          },
          λ m d. omega (arith, d.zero_alone e),
        ),
      )
      | inr other ↦ (
        r.end,
        (
          record {
            some = some;
            within = r.within;
            each = r.each;
            zero_alone = λ is. absurd (other is);
          },
          λ m d. run_most class.Digit z 0 r m d.each d.within,
        ),
      )
    ]

-- ---- numbers

-- whether an identifier's byte follows
follows : (z : Bytes) (n : ℕ)
    → ((n < length z) × (is_in class.Ident (slice_index z n) ≡ true)) ⊎ RunStopsAt class.Ident z n
follows z n =
    elim (true_or_false (is_in class.Ident (slice_index z n)))
    [ inl h ↦ inl (class_within class.Ident z n refl h, h) | inr h ↦ inr (λ less. h) ]

-- the longest literal, an integer: it fits, or it is too large, or an identifier's byte follows
integer_of : (z : Bytes) (n v : ℕ) → IsIntegerText z n v → IsLongest z n → Front z
integer_of z n v is longest =
    elim (follows z n) [
      | inl f ↦
          (piece.Fault error.BadNumber, (n, number_from_integer z n v is, longest, f.0, f.1))
      | inr stops ↦ elim (cases_lt v (2 ^ 64)) [
        | inl small ↦ (piece.Token n (kind.Integer v), (is, small, longest, stops))
        | inr large ↦ (piece.Fault error.IntegerOverflow, (n, v, is, longest, stops, large))
      ]
    ]

float_of : (z : Bytes) (n : ℕ) → Longest IsFloat z n → Front z
float_of z n is =
    elim (follows z n) [
      | inl f ↦ (
        piece.Fault error.BadNumber,
        (n, inr (inr (inr is.0)), long_float z n is, f.0, f.1),
      )
      | inr stops ↦ (piece.Token n kind.Float, (is.0, long_float z n is, stops))
    ]

number_or_not : (z : Bytes) → BeginsNumber z ⊎ (BeginsNumber z → ⊥)
number_or_not z =
    elim (true_or_false (is_in class.Digit (slice_index z 0))) [
      | inl d ↦ inl (inl d)
      | inr no_digit ↦ elim (same_or_not (slice_index z 0) 46) [
        | inl point ↦ elim (true_or_false (is_in class.Digit (slice_index z 1))) [
          | inl d ↦ inl (inr (point, d))
          | inr other ↦ inr
              (λ begins. elim begins
              [ inl d ↦ false≢true (sym no_digit ∙ d) | inr p ↦ false≢true (sym other ∙ p.1) ])
        ]
        | inr other ↦ inr
            (λ begins. elim begins
            [ inl d ↦ false≢true (sym no_digit ∙ d) | inr p ↦ other p.0 ])
      ]
    ]

number : (z : Bytes) → BeginsNumber z → Front z
number z begins =
    let r = run class.Digit z 0 (omega arith) in
    elim (float z r) [
      | inl f ↦ float_of z f.0 f.1
      | inr none ↦ elim (hex z) [
        | inl h ↦
            integer_of z h.0 (digits_value 16 (slice_range z 2 h.0)) (inr (inl (h.1.0, refl)))
            (long_hex z h.0 none h.1)
        | inr no_hex ↦ elim (octal z) [
          | inl o ↦
              integer_of z o.0 (digits_value 8 (slice_range z 1 o.0)) (inr (inr (o.1.0, refl)))
              (long_octal z o.0 none no_hex o.1)
          | inr no_octal ↦
              let d = decimal z r (digit_begins z begins none) in
              integer_of z d.0 (digits_value 10 (slice_range z 0 d.0)) (inl (d.1.0, refl))
              (long_decimal z d.0 none no_hex no_octal d.1)
        ]
      ]
    ]

-- ---- tokens

ident : (z : Bytes) → is_in class.Ident (slice_index z 0) ≡ true
    → is_in class.Digit (slice_index z 0) ≡ false → Front z
ident z h no_digit =
    let less = class_within class.Ident z 0 refl h in
    let r = run class.Ident z 0 (omega arith) in
    let is : Longest IsIdentText z r.end = (
      record {
        some = run_some class.Ident z 0 r less h;
        within = r.within;
        each = r.each;
        first = no_digit;
      },
      λ m w. run_most class.Ident z 0 r m w.each w.within,
    ) in
    (piece.Token r.end kind.Ident, (is.0, long_ident z r.end h no_digit is))

no_string : (z : Bytes) → IsQuote (slice_index z 0) → NoFront IsString z → NoFront IsLiteral z
no_string z quote none m (inl w) =
    quote_is_no_ident (slice_index z 0) quote (w.each 0 (omega arith) (omega (arith, w.some)))
no_string z quote none m (inr (inl t)) = none m t
no_string z quote none m (inr (inr d)) = begins_no_quote z (number_first z m d) quote

-- what the search for the closing quote answers
string_of : (z : Bytes) (r : Option ℕ) → IsQuote (slice_index z 0)
    → MatchOption r (NoFront IsString z) (Longest IsString z) → Front z
string_of z None quote none =
    (piece.Fault error.UnterminatedString, (quote, no_string z quote none))
string_of z (Some n) quote is = (piece.Token n kind.Str, (is.0, long_string z n quote is))

string : (z : Bytes) → 0 < length z → IsQuote (slice_index z 0) → Front z
string z some quote =
    let r = closing (slice_index z 0) false 1 (drop 1 z) in
    string_of z r quote (string_answer z r some quote refl)

module _ (z : Bytes) (some : 0 < length z) (no_blank : is_in class.Blank (slice_index z 0) ≡ false)
    (no_mark : HasNoComment z) where
  symbol : NoFront IsLiteral z → (IsQuote (slice_index z 0) → ⊥) → Front z
  symbol none no_quote =
      elim (true_or_false (is_symbol (slice_index z 0))) [
        | inl h ↦ (
          piece.Token 1 (kind.Symbol (slice_index z 0)),
          (refl, some, refl, h, none, no_mark),
        )
        | inr h ↦
            (piece.Fault error.UnexpectedCharacter, (some, no_blank, no_mark, none, h, no_quote))
      ]

  -- where no number begins
  word : (BeginsNumber z → ⊥) → Front z
  word no_number =
      elim (true_or_false (is_in class.Ident (slice_index z 0))) [
        | inl h ↦ elim (true_or_false (is_in class.Digit (slice_index z 0)))
            [ inl d ↦ absurd (no_number (inl d)) | inr d ↦ ident z h d ]
        | inr no_ident ↦ elim (either_or_not (slice_index z 0) 34 39) [
          | inl quote ↦ string z some quote
          | inr no_quote ↦ symbol (no_long z no_ident no_number no_quote) no_quote
        ]
      ]

  token : Front z
  token = elim (number_or_not z) [ inl begins ↦ number z begins | inr other ↦ word other ]

-- ---- the front

spaces : (z : Bytes) → is_in class.Blank (slice_index z 0) ≡ true → Front z
spaces z h =
    let less = class_within class.Blank z 0 refl h in
    let r = run class.Blank z 0 (omega arith) in (
      piece.Blank r.end,
      inl (record {
        some = run_some class.Blank z 0 r less h;
        within = r.within;
        each = r.each;
        stops = r.stops;
      }),
    )

line : (z : Bytes) → slice_index z 0 ≡ 47 → slice_index z 1 ≡ 47 → Front z
line z first second =
    let two = byte_within z 1 46 second in
    let r = run class.Line z 2 (omega arith) in (
      piece.Blank r.end,
      inr
          (inl (record {
            first = first;
            second = second;
            some = r.after;
            within = r.within;
            each = r.each;
            stops = r.stops;
          })),
    )

comment : (z : Bytes) → slice_index z 0 ≡ 47 → slice_index z 1 ≡ 42 → Front z
comment z first second =
    elim (block z first second) [
      | inl b ↦ (piece.Blank b.0, inr (inr b.1))
      | inr none ↦ (piece.Fault error.UnterminatedComment, (first, second, none))
    ]

-- the front of a text that is not empty
some_front : (z : Bytes) → 0 < length z → Front z
some_front z some =
    elim (true_or_false (is_in class.Blank (slice_index z 0))) [
      | inl h ↦ spaces z h
      | inr no_blank ↦ elim (same_or_not (slice_index z 0) 47) [
        | inl first ↦ elim (same_or_not (slice_index z 1) 47) [
          | inl second ↦ line z first second
          | inr no_line ↦ elim (same_or_not (slice_index z 1) 42) [
            | inl second ↦ comment z first second
            | inr no_block ↦ token z some no_blank (λ e. (no_line, no_block))
          ]
        ]
        | inr other ↦ token z some no_blank (λ e. absurd (other e))
      ]
    ]

-- something stands at the front of each text
pub total : (z : Bytes) → (p : Piece) × Stands z p
total [] = (piece.End, refl)
total (b ∷ z) = some_front (b ∷ z) (omega arith)
