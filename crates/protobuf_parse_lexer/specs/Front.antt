-- No public clause rests on this file.
-- What the scanners' answers say of the front of a text.
use Rattle.std.proofs.Common.{MatchOption, length-drop, ◌||◌, ◌≡◌, ℕ, zero, suc, ◌+◌, ◌-◌, ◌*◌, ◌<◌}
use Rattle.std.proofs.Common.{◌≤◌, Bool, true, false, eqb, List, [], ◌∷◌, length, take, drop}
use Rattle.std.proofs.Common.{get_or, slice_index, Option, Some, None, refl, sym, ap, ◌∙◌, subst}
use Rattle.std.proofs.Common.{inl, inr, ⊎_elim, ◌⊎◌, arith}
use Rattle.std.specs.Char as char
use Rattle.std.specs.Str.Parse.{digits_value, digits_value_after}
use Rattle.std.proofs.Math.Nat.{mul-le-mul_left}
use Rattle.std.proofs.lemmas.Int.Digits.{digits_value_more}
use Rattle.std.proofs.lemmas.Bool.{false≢true, cases_lt}
use Rattle.std.proofs.lemmas.Bool.Decides.{nat_tests}
use Rattle.protobuf_parse_lexer.specs.declared.lexer.bytes.ByteClass.TheVariants as class
use Rattle.protobuf_parse_lexer.specs.Scan.{closing, EndsFraction, BeginsNumber}
use Rattle.protobuf_parse_lexer.specs.Escapes.{chosen}
use Rattle.protobuf_parse_lexer.specs.Text.{Bytes, is_in, AllIn, RunStopsAt, IsQuote, IsIdentText}
use Rattle.protobuf_parse_lexer.specs.Text.{IsString, IsDecimal, IsHex, IsOctal, IsLetterE}
use Rattle.protobuf_parse_lexer.specs.Text.{IsExponent, IsFloat, IsNumberText, IsIntegerText}
use Rattle.protobuf_parse_lexer.specs.Text.{IsLiteral, IsLongest, NoFront, is_rest}
use Rattle.protobuf_parse_lexer.specs.Longest.{Longest}
use Rattle.protobuf_parse_lexer.specs.Text.{is_empty}

-- more digits spell no less
pub after_ge : (radix n : ℕ) (ds : List ℕ) → 1 ≤ radix → n ≤ digits_value_after radix n ds
after_ge radix n [] some = omega arith
after_ge radix n (d ∷ ds) some =
    let more = after_ge radix (n * radix + char.digit_value d) ds some in
    omega (arith, mul-le-mul_left n some)

after_front : (radix n i : ℕ) (ds : List ℕ)
    → digits_value_after radix (digits_value_after radix n (take i ds)) (drop i ds)
    ≡ digits_value_after radix n ds
after_front radix n zero ds = refl
after_front radix n (suc i) [] = refl
after_front radix n (suc i) (d ∷ ds) = after_front radix (n * radix + char.digit_value d) i ds

-- the digits so far and one more spell no more than all of them
pub value_so_far : (radix i : ℕ) (ds : List ℕ) → 1 ≤ radix → i < length ds
    → digits_value radix (take i ds) * radix + char.digit_value (get_or ds i 0)
    ≤ digits_value radix ds
value_so_far radix i ds some within =
    omega (
      arith,
      digits_value_more radix ds i within,
      after_front radix 0 (i + 1) ds,
      after_ge radix (digits_value radix (take (i + 1) ds)) (drop (i + 1) ds) some,
    )

-- ---- the first byte of each literal

quote_is_no_digit : (b : ℕ) → IsQuote b → is_in class.Digit b ≡ true → ⊥
quote_is_no_digit b (inl e) h = false≢true (subst (λ x. is_in class.Digit x ≡ true) e h)
quote_is_no_digit b (inr e) h = false≢true (subst (λ x. is_in class.Digit x ≡ true) e h)

pub quote_is_no_ident : (b : ℕ) → IsQuote b → is_in class.Ident b ≡ true → ⊥
quote_is_no_ident b (inl e) h = false≢true (subst (λ x. is_in class.Ident x ≡ true) e h)
quote_is_no_ident b (inr e) h = false≢true (subst (λ x. is_in class.Ident x ≡ true) e h)

zero_is_digit : (b : ℕ) → b ≡ 48 → is_in class.Digit b ≡ true
zero_is_digit b e = subst (λ x. is_in class.Digit x ≡ true) (sym e) refl

digit_no_point : (b : ℕ) → is_in class.Digit b ≡ true → b ≡ 46 → ⊥
digit_no_point b h e = false≢true (subst (λ x. is_in class.Digit x ≡ true) e h)

digit_no_letter : (b : ℕ) → is_in class.Digit b ≡ true → IsLetterE b → ⊥
digit_no_letter b h (inl e) = false≢true (subst (λ x. is_in class.Digit x ≡ true) e h)
digit_no_letter b h (inr e) = false≢true (subst (λ x. is_in class.Digit x ≡ true) e h)

point_no_letter : (b : ℕ) → b ≡ 46 → IsLetterE b → ⊥
point_no_letter b h (inl e) = omega arith
point_no_letter b h (inr e) = omega arith

point_no_ident : (b : ℕ) → b ≡ 46 → is_in class.Ident b ≡ true → ⊥
point_no_ident b e h = false≢true (subst (λ x. is_in class.Ident x ≡ true) e h)

point_no_quote : (b : ℕ) → b ≡ 46 → IsQuote b → ⊥
point_no_quote b e (inl q) = omega arith
point_no_quote b e (inr q) = omega arith

-- the byte after the first digits of a float
pub after_whole : (z : Bytes) (n : ℕ) (f : IsFloat z n)
    → (slice_index z f.whole ≡ 46) ⊎ IsLetterE (slice_index z f.whole)
after_whole z n f =
    elim f.fraction [
      | inl e ↦ elim f.exponent [
        | inl g ↦ absurd (omega (arith, f.marked))
        | inr g ↦ inr (subst (λ k. IsLetterE (slice_index z k)) e g.letter)
      ]
      | inr p ↦ inl p.0
    ]

mark_no_digit : (z : Bytes) (k : ℕ) → (slice_index z k ≡ 46) ⊎ IsLetterE (slice_index z k)
    → is_in class.Digit (slice_index z k) ≡ true → ⊥
mark_no_digit z k (inl e) h = digit_no_point _ h e
mark_no_digit z k (inr e) h = digit_no_letter _ h e

float_first : (z : Bytes) (n : ℕ) → IsFloat z n → BeginsNumber z
float_first z n f =
    elim (cases_lt 0 f.whole) [
      | inl h ↦ inl (f.digits 0 (omega arith) h)
      | inr h ↦
          let none : f.whole ≡ 0 = omega arith in
          elim f.some [
            | inl g ↦ absurd (omega arith)
            | inr g ↦ elim f.fraction [
              | inl e ↦ absurd (omega arith)
              | inr p ↦ inr (
                subst (λ k. slice_index z k ≡ 46) none p.0,
                p.2 1 (omega arith) (omega arith),
              )
            ]
          ]
    ]

pub number_first : (z : Bytes) (m : ℕ) → IsNumberText z m → BeginsNumber z
number_first z m (inl d) = inl (d.each 0 (omega arith) (omega (arith, d.some)))
number_first z m (inr (inl h)) = inl (zero_is_digit _ h.first)
number_first z m (inr (inr (inl h))) = inl (zero_is_digit _ h.first)
number_first z m (inr (inr (inr f))) = float_first z m f

pub begins_no_quote : (z : Bytes) → BeginsNumber z → IsQuote (slice_index z 0) → ⊥
begins_no_quote z (inl h) q = quote_is_no_digit _ q h
begins_no_quote z (inr h) q = point_no_quote _ h.0 q

begins_no_ident : (z : Bytes) → BeginsNumber z → is_in class.Ident (slice_index z 0) ≡ true
    → is_in class.Digit (slice_index z 0) ≡ false → ⊥
begins_no_ident z (inl h) w d = false≢true (sym d ∙ h)
begins_no_ident z (inr h) w d = point_no_ident _ h.0 w

octal_is_digit : (b : ℕ) → is_in class.Octal b ≡ true → is_in class.Digit b ≡ true
octal_is_digit b h = grind (arith, nat_tests)

pub octal_digits : (z : Bytes) (n : ℕ) → IsOctal z n → AllIn class.Digit z 0 n
octal_digits z n o k after before =
    ⊎_elim
    (λ h. octal_is_digit (slice_index z k) (o.each k h before))
    (λ h. let none : k ≡ 0 = omega arith in
    zero_is_digit (slice_index z k) (subst (λ i. slice_index z i ≡ 48) (sym none) o.first))
    (cases_lt 0 k)

digit_is_hex : (b : ℕ) → is_in class.Digit b ≡ true → is_in class.Hex b ≡ true
digit_is_hex b h = rw h refl

pub octal_hex : (z : Bytes) (n : ℕ) → IsOctal z n → AllIn class.Hex z 1 n
octal_hex z n o k after before =
    digit_is_hex (slice_index z k) (octal_is_digit (slice_index z k) (o.each k after before))

-- digits end before a float does
digits_below : (z : Bytes) (m n : ℕ) → IsFloat z n → AllIn class.Digit z 0 m → m ≤ n
digits_below z m n f each =
    ⊎_elim (λ h.
    absurd (mark_no_digit z f.whole (after_whole z n f)
    (each f.whole (omega arith) (omega (arith, f.marked))))) (λ h. h) (cases_lt n m)

pub digits_no_float : (z : Bytes) (n : ℕ) → IsFloat z n → AllIn class.Digit z 0 n → ⊥
digits_no_float z n f each =
    mark_no_digit z f.whole (after_whole z n f) (each f.whole (omega arith) f.marked)

pub x_no_digit : (b : ℕ) → (b ≡ 120) ⊎ (b ≡ 88) → is_in class.Digit b ≡ true → ⊥
x_no_digit b (inl e) h = false≢true (subst (λ x. is_in class.Digit x ≡ true) e h)
x_no_digit b (inr e) h = false≢true (subst (λ x. is_in class.Digit x ≡ true) e h)

x_no_mark : (b : ℕ) → (b ≡ 120) ⊎ (b ≡ 88) → (b ≡ 46) ⊎ IsLetterE b → ⊥
x_no_mark b (inl e) (inl g) = omega arith
x_no_mark b (inr e) (inl g) = omega arith
x_no_mark b (inl e) (inr (inl g)) = omega arith
x_no_mark b (inl e) (inr (inr g)) = omega arith
x_no_mark b (inr e) (inr (inl g)) = omega arith
x_no_mark b (inr e) (inr (inr g)) = omega arith

pub x_no_float : (z : Bytes) (n : ℕ) → IsFloat z n → slice_index z 0 ≡ 48
    → (slice_index z 1 ≡ 120) ⊎ (slice_index z 1 ≡ 88) → ⊥
x_no_float z n f zero_first x =
    elim (cases_lt 1 f.whole) [
      | inl more ↦ x_no_digit (slice_index z 1) x (f.digits 1 (omega arith) more)
      | inr less ↦ elim (cases_lt 0 f.whole) [
        | inl one ↦ let is : f.whole ≡ 1 = omega arith in
            x_no_mark (slice_index z 1) x
            (subst (λ k. (slice_index z k ≡ 46) ⊎ IsLetterE (slice_index z k)) is
            (after_whole z n f))
        | inr none ↦ let is : f.whole ≡ 0 = omega arith in
            mark_no_digit z 0
            (subst (λ k. (slice_index z k ≡ 46) ⊎ IsLetterE (slice_index z k)) is
            (after_whole z n f)) (zero_is_digit _ zero_first)
      ]
    ]

pub hex_no_float : (z : Bytes) (m n : ℕ) → IsFloat z n → IsHex z m → ⊥
hex_no_float z m n f h = x_no_float z n f h.first h.second

-- ---- the longest of one kind is the longest of all

pub long_number : (z : Bytes) (n : ℕ) → BeginsNumber z → ((m : ℕ) → IsNumberText z m → m ≤ n)
    → IsLongest z n
long_number z n begins most m (inl w) =
    absurd (begins_no_ident z begins (w.each 0 (omega arith) (omega (arith, w.some))) w.first)
long_number z n begins most m (inr (inl t)) = absurd (begins_no_quote z begins t.quote)
long_number z n begins most m (inr (inr d)) = most m d

pub long_ident : (z : Bytes) (n : ℕ) → is_in class.Ident (slice_index z 0) ≡ true
    → is_in class.Digit (slice_index z 0) ≡ false → Longest IsIdentText z n → IsLongest z n
long_ident z n word no_digit most m (inl w) = most.1 m w
long_ident z n word no_digit most m (inr (inl t)) = absurd (quote_is_no_ident _ t.quote word)
long_ident z n word no_digit most m (inr (inr d)) =
    absurd (begins_no_ident z (number_first z m d) word no_digit)

pub long_string : (z : Bytes) (n : ℕ) → IsQuote (slice_index z 0) → Longest IsString z n
    → IsLongest z n
long_string z n quote most m (inl w) =
    absurd (quote_is_no_ident _ quote (w.each 0 (omega arith) (omega (arith, w.some))))
long_string z n quote most m (inr (inl t)) = most.1 m t
long_string z n quote most m (inr (inr d)) = absurd (begins_no_quote z (number_first z m d) quote)

pub no_long : (z : Bytes) → is_in class.Ident (slice_index z 0) ≡ false → (BeginsNumber z → ⊥)
    → (IsQuote (slice_index z 0) → ⊥) → NoFront IsLiteral z
no_long z no_ident no_number no_quote m (inl w) =
    false≢true (sym no_ident ∙ w.each 0 (omega arith) (omega (arith, w.some)))
no_long z no_ident no_number no_quote m (inr (inl t)) = no_quote t.quote
no_long z no_ident no_number no_quote m (inr (inr d)) = no_number (number_first z m d)

-- ---- strings

some_same : {a b : ℕ} → ◌≡◌ {A = Option ℕ} (Some a) (Some b) → a ≡ b
some_same e = cc

empty_rest : (quote : ℕ) (is_escaped : Bool) → is_rest quote is_escaped [] ≡ true → ⊥
empty_rest quote true e = false≢true e
empty_rest quote false e = false≢true e

empty_front : (m : ℕ) (z : Bytes) → m ≤ length z → is_empty (take m z) ≡ true → m ≡ 0
empty_front zero z within e = refl
empty_front (suc m) [] within e = absurd (omega arith)
empty_front (suc m) (b ∷ z) within e = absurd (false≢true e)

-- where `closing` says that a string ends, one does
abbrev EndsThere : ℕ → Bool → ℕ → ℕ → Bytes → Type 0
EndsThere quote is_escaped at n z = (m : ℕ) × (n ≡ at + m) × (0 < m) × (m ≤ length z)
    × (is_rest quote is_escaped (take m z) ≡ true)

ends_there : (quote : ℕ) (is_escaped : Bool) (at n : ℕ) (z : Bytes)
    → closing quote is_escaped at z ≡ Some n → EndsThere quote is_escaped at n z
ends_there quote is_escaped at n [] e = cc
ends_there quote true at n (b ∷ z) e =
    elim (chosen (eqb b 10 || eqb b 0) None _ _ e) [
      | inl h ↦ let none = h.1 in cc
      | inr h ↦
          let bad = h.0 in
          let p = ends_there quote false (at + 1) n z h.1 in
          (suc p.0, omega (arith, p.1), omega arith, omega (arith, p.3), rw bad p.4)
    ]
ends_there quote false at n (b ∷ z) e =
    elim (chosen (eqb b 10 || eqb b 0) None _ _ e) [
      | inl h ↦ let none = h.1 in cc
      | inr h ↦
          let bad = h.0 in
          elim (chosen (eqb b quote) (Some (at + 1)) _ _ h.1) [
            | inl g ↦ let same = g.0 in
                let is : at + 1 ≡ n = some_same g.1 in
                (1, omega arith, omega arith, omega arith, rw (bad, same) refl)
            | inr g ↦
                let same = g.0 in
                let p = ends_there quote (eqb b 92) (at + 1) n z g.1 in
                (suc p.0, omega (arith, p.1), omega arith, omega (arith, p.3), rw (bad, same) p.4)
          ]
    ]

-- where a string ends, `closing` says so
pub found_there : (quote : ℕ) (is_escaped : Bool) (at m : ℕ) (z : Bytes) → m ≤ length z
    → is_rest quote is_escaped (take m z) ≡ true → closing quote is_escaped at z ≡ Some (at + m)
found_there quote is_escaped at zero z within e = absurd (empty_rest quote is_escaped e)
found_there quote is_escaped at (suc m) [] within e = absurd (omega arith)
found_there quote true at (suc m) (b ∷ z) within e =
    elim (chosen (eqb b 10 || eqb b 0) false _ _ e) [
      | inl h ↦ absurd (false≢true h.1)
      | inr h ↦
          let bad = h.0 in
          let moved : at + 1 + m ≡ at + suc m = omega arith in
          rw bad (found_there quote false (at + 1) m z (omega arith) h.1 ∙ ap (λ k. Some k) moved)
    ]
found_there quote false at (suc m) (b ∷ z) within e =
    elim (chosen (eqb b 10 || eqb b 0) false _ _ e) [
      | inl h ↦ absurd (false≢true h.1)
      | inr h ↦
          let bad = h.0 in
          elim (chosen (eqb b quote) (is_empty (take m z)) _ _ h.1) [
            | inl g ↦
                let same = g.0 in
                let none = empty_front m z (omega arith) g.1 in
                let moved : at + 1 ≡ at + suc m = omega arith in
                rw (bad, same) (ap (λ k. Some k) moved)
            | inr g ↦
                let same = g.0 in
                let moved : at + 1 + m ≡ at + suc m = omega arith in
                rw (bad, same) (found_there quote (eqb b 92) (at + 1) m z (omega arith) g.1
                ∙ ap (λ k. Some k) moved)
          ]
    ]

-- what `closing` answers is the longest string there
pub string_answer : (z : Bytes) (r : Option ℕ) → 0 < length z → IsQuote (slice_index z 0)
    → r ≡ closing (slice_index z 0) false 1 (drop 1 z)
    → MatchOption r (NoFront IsString z) (Longest IsString z)
string_answer z None some quote e =
    λ m t. let found = found_there (slice_index z 0) false 1 (m - 1) (drop 1 z)
    (omega (arith, t.within, t.some, length-drop 1 z)) t.rest in cc
string_answer z (Some n) some quote e =
    let p = ends_there (slice_index z 0) false 1 n (drop 1 z) (sym e) in
    let less : n - 1 ≡ p.0 = omega (arith, p.1) in (
      record {
        some = omega (arith, p.1);
        within = omega (arith, p.1, p.3, length-drop 1 z);
        quote =
            quote;
        rest = rw less p.4;
      },
      λ m t.
          let found = found_there (slice_index z 0) false 1 (m - 1) (drop 1 z)
          (omega (arith, t.within, t.some, length-drop 1 z)) t.rest in
          let same : 1 + (m - 1) ≡ n = some_same (sym found ∙ sym e) in
          omega arith,
    )

-- ---- numbers

pub number_from_integer : (z : Bytes) (n v : ℕ) → IsIntegerText z n v → IsNumberText z n
number_from_integer z n v (inl d) = inl d.0
number_from_integer z n v (inr (inl h)) = inr (inl h.0)
number_from_integer z n v (inr (inr o)) = inr (inr (inl o.0))

hex_most : (z : Bytes) (n : ℕ) → NoFront IsFloat z → Longest IsHex z n → (m : ℕ) → IsNumberText z m
    → m ≤ n
hex_most z n no_float hex m (inl d) = omega (arith, d.zero_alone hex.0.first, hex.0.some)
hex_most z n no_float hex m (inr (inl h)) = hex.1 m h
hex_most z n no_float hex m (inr (inr (inl o))) =
    absurd (x_no_digit (slice_index z 1) hex.0.second
    (octal_digits z m o 1 (omega arith) (omega (arith, o.some))))
hex_most z n no_float hex m (inr (inr (inr f))) = absurd (no_float m f)

pub long_hex : (z : Bytes) (n : ℕ) → NoFront IsFloat z → Longest IsHex z n → IsLongest z n
long_hex z n no_float hex =
    long_number z n (inl (zero_is_digit _ hex.0.first)) (hex_most z n no_float hex)

octal_most : (z : Bytes) (n : ℕ) → NoFront IsFloat z → NoFront IsHex z → Longest IsOctal z n
    → (m : ℕ) → IsNumberText z m → m ≤ n
octal_most z n no_float no_hex octal m (inl d) =
    omega (arith, d.zero_alone octal.0.first, octal.0.some)
octal_most z n no_float no_hex octal m (inr (inl h)) = absurd (no_hex m h)
octal_most z n no_float no_hex octal m (inr (inr (inl o))) = octal.1 m o
octal_most z n no_float no_hex octal m (inr (inr (inr f))) = absurd (no_float m f)

pub long_octal : (z : Bytes) (n : ℕ) → NoFront IsFloat z → NoFront IsHex z → Longest IsOctal z n
    → IsLongest z n
long_octal z n no_float no_hex octal =
    long_number z n (inl (zero_is_digit _ octal.0.first)) (octal_most z n no_float no_hex octal)

decimal_most : (z : Bytes) (n : ℕ) → NoFront IsFloat z → NoFront IsHex z → NoFront IsOctal z
    → Longest IsDecimal z n → (m : ℕ) → IsNumberText z m → m ≤ n
decimal_most z n no_float no_hex no_octal decimal m (inl d) = decimal.1 m d
decimal_most z n no_float no_hex no_octal decimal m (inr (inl h)) = absurd (no_hex m h)
decimal_most z n no_float no_hex no_octal decimal m (inr (inr (inl o))) = absurd (no_octal m o)
decimal_most z n no_float no_hex no_octal decimal m (inr (inr (inr f))) = absurd (no_float m f)

pub long_decimal : (z : Bytes) (n : ℕ) → NoFront IsFloat z → NoFront IsHex z → NoFront IsOctal z
    → Longest IsDecimal z n → IsLongest z n
long_decimal z n no_float no_hex no_octal decimal =
    long_number z n (number_first z n (inl decimal.0))
    (decimal_most z n no_float no_hex no_octal decimal)

float_most : (z : Bytes) (n : ℕ) → Longest IsFloat z n → (m : ℕ) → IsNumberText z m → m ≤ n
float_most z n float m (inl d) = digits_below z m n float.0 d.each
float_most z n float m (inr (inl h)) = absurd (hex_no_float z m n float.0 h)
float_most z n float m (inr (inr (inl o))) = digits_below z m n float.0 (octal_digits z m o)
float_most z n float m (inr (inr (inr f))) = float.1 m f

pub long_float : (z : Bytes) (n : ℕ) → Longest IsFloat z n → IsLongest z n
long_float z n float = long_number z n (float_first z n float.0) (float_most z n float)

digit_within : (z : Bytes) (k : ℕ) → is_in class.Digit (slice_index z k) ≡ true → k < length z
digit_within [] k h = absurd (false≢true h)
digit_within (b ∷ z) zero h = omega arith
digit_within (b ∷ z) (suc k) h = let more = digit_within z k h in omega arith

-- a point and a digit are a float
pub point_float : (z : Bytes) → slice_index z 0 ≡ 46 → is_in class.Digit (slice_index z 1) ≡ true
    → IsFloat z 2
point_float z p d = record {
  whole = 0;
  point = 2;
  digits = λ k after before. absurd (omega arith);
  fraction =
      inr (
        p,
        omega arith,
        λ k after before. let is : 1 ≡ k = omega arith in
            subst (λ i. is_in class.Digit (slice_index z i) ≡ true) is d,
      );
  exponent = inl refl;
  some = inr (omega arith);
  marked = omega arith;
  within = digit_within z 1 d;
}

pub digit_begins : (z : Bytes) → BeginsNumber z → NoFront IsFloat z
    → is_in class.Digit (slice_index z 0) ≡ true
digit_begins z (inl h) none = h
digit_begins z (inr h) none = absurd (none 2 (point_float z h.0 h.1))

-- ---- floats

-- the digits that stand there and the longest fraction after them
module _ (z : Bytes) (whole point : ℕ) (each : AllIn class.Digit z 0 whole)
    (stops : RunStopsAt class.Digit z whole) (fraction : EndsFraction z whole point) where
  within_float : (n : ℕ) (f : IsFloat z n) → f.point ≤ n
  within_float n f =
      elim f.exponent [
        | inl e ↦ omega arith
        | inr x ↦ elim x.begins
            [ inl b ↦ omega (arith, x.some) | inr b ↦ omega (arith, x.some, b.0) ]
      ]

  pub same_whole : (n : ℕ) (f : IsFloat z n) → f.whole ≡ whole
  same_whole n f =
      elim (cases_lt whole f.whole) [
        | inl more ↦ absurd
            (false≢true (sym (stops (omega (arith, f.marked, f.within)))
            ∙ f.digits whole (omega arith) more))
        | inr less ↦ elim (cases_lt f.whole whole) [
          | inl more ↦ absurd
              (mark_no_digit z f.whole (after_whole z n f) (each f.whole (omega arith) more))
          | inr same ↦ omega arith
        ]
      ]

  after_it : whole ≤ point
  after_it = elim fraction.ends [ inl q ↦ omega (arith, q.0) | inr q ↦ omega (arith, q.1) ]

  pub below : (n : ℕ) (f : IsFloat z n) → f.point ≤ point
  below n f =
      let e = same_whole n f in
      let inside = within_float n f in
      let whole_le = after_it in
      elim f.fraction [
        | inl p ↦ omega arith
        | inr p ↦ elim fraction.ends [
          | inl q ↦ absurd (q.1 (subst (λ k. slice_index z k ≡ 46) e p.0))
          | inr q ↦ elim (cases_lt point f.point) [
            | inl more ↦ absurd
                (false≢true (sym (q.3 (omega (arith, f.within)))
                ∙ p.2 point (omega (arith, q.1)) more))
            | inr less ↦ less
          ]
        ]
      ]

  at_letter : (n : ℕ) (f : IsFloat z n) → IsLetterE (slice_index z f.point) → f.point ≡ point
  at_letter n f letter =
      let e = same_whole n f in
      let le = below n f in
      elim (cases_lt f.point point) [
        | inl more ↦ elim f.fraction [
          | inl p ↦ elim fraction.ends [
            | inl q ↦ omega (arith, q.0)
            | inr q ↦ let is : f.point ≡ whole = omega arith in
                absurd (point_no_letter (slice_index z whole) q.0
                (subst (λ k. IsLetterE (slice_index z k)) is letter))
          ]
          | inr p ↦ elim fraction.ends [
            | inl q ↦ absurd (q.1 (subst (λ k. slice_index z k ≡ 46) e p.0))
            | inr q ↦ absurd
                (digit_no_letter (slice_index z f.point)
                (q.2 f.point (omega (arith, p.1)) more) letter)
          ]
        ]
        | inr same ↦ omega arith
      ]

  float_cases : (n : ℕ) → IsFloat z n → (n ≤ point) ⊎ IsExponent point z n
  float_cases n f =
      elim f.exponent [
        | inl g ↦ inl (omega (arith, below n f))
        | inr x ↦ inr
            (subst (λ k. IsExponent k z n) (at_letter n f x.letter) x)
      ]

  own_fraction : (point ≡ whole)
      ⊎ ((slice_index z whole ≡ 46) × (whole + 1 ≤ point) × AllIn class.Digit z (whole + 1) point)
  own_fraction = elim fraction.ends [ inl q ↦ inl q.0 | inr q ↦ inr (q.0, q.1, q.2) ]

  after_letter : (n : ℕ) → IsExponent point z n → point < n
  after_letter n x =
      elim x.begins [ inl b ↦ omega (arith, x.some) | inr b ↦ omega (arith, x.some, b.0) ]

  pub exponent_float : (n : ℕ) → (0 < whole) ⊎ (whole + 1 < point) → Longest (IsExponent point) z n
      → Longest IsFloat z n
  exponent_float n some x = (
    record {
      whole = whole;
      point = point;
      digits = each;
      fraction = own_fraction;
      exponent =
          inr x.0;
      some = some;
      marked = omega (arith, after_letter n x.0, after_it);
      within =
          x.0.within;
    },
    λ m f. elim (float_cases m f) [ inl h ↦ omega (arith, after_letter n x.0) | inr y ↦ x.1 m y ],
  )

  pub fraction_float : (0 < whole) ⊎ (whole + 1 < point) → NoFront (IsExponent point) z
      → whole < point
      → Longest IsFloat z point
  fraction_float some none more = (
    record {
      whole = whole;
      point = point;
      digits = each;
      fraction = own_fraction;
      exponent =
          inl refl;
      some = some;
      marked = more;
      within = fraction.within;
    },
    λ m f. elim (float_cases m f) [ inl h ↦ h | inr y ↦ absurd (none m y) ],
  )

  pub no_float : NoFront (IsExponent point) z → point ≤ whole → NoFront IsFloat z
  no_float none less m f =
      elim (float_cases m f) [ inl h ↦ omega (arith, f.marked, same_whole m f) | inr y ↦ none m y ]
