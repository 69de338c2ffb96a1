-- A token's text tells its kind.
use Rattle.std.proofs.Common.{◌≡◌, ℕ, suc, ◌+◌, ◌-◌, ◌<◌, ◌≤◌, Bool, true, false, ◌&&◌, ◌||◌, eqb}
use Rattle.std.proofs.Common.{[], ◌∷◌, length, take, drop, get_or, refl, sym, ap}
use Rattle.std.proofs.Common.{◌∙◌, subst, inl, inr, ⊎_elim, ◌⊎◌, arith, get_or-drop, get_or-take}
use Rattle.std.proofs.Common.{length-drop}
use Rattle.std.specs.Prelude.{◌^◌, if◌then◌else◌, nat_lt, nat_le, slice_range, ◌==◌}
use Rattle.std.specs.List.{list_all}
use Rattle.std.specs.Str.Parse.{digits_value}
use Rattle.std.proofs.lemmas.Bool.{false≢true, cases_lt, lt-ltb}
use Rattle.std.proofs.lemmas.Bool.Decides.{nat_tests}
use Rattle.std.proofs.lemmas.List.{drop-take, length-take-le}
use Rattle.std.proofs.lemmas.List.Folds.{list_all_at}
use Rattle.protobuf_parse_lexer.specs.declared.lexer.bytes.ByteClass.{ByteClass}
use Rattle.protobuf_parse_lexer.specs.declared.lexer.bytes.ByteClass.TheVariants as class
use Rattle.protobuf_parse_lexer.specs.declared.lexer.token.TokenKind.{TokenKind}
use Rattle.protobuf_parse_lexer.specs.declared.lexer.token.TokenKind.TheVariants as kind
use Rattle.protobuf_parse_lexer.specs.Text.{Bytes, is_in, AllIn, IsQuote, IsFloat, IsLetterE}
use Rattle.protobuf_parse_lexer.specs.Text.{IsIntegerText, IsToken, is_symbol}
use Rattle.protobuf_parse_lexer.specs.TokenKinds.{integer_kind, number_kind, kind_of}
use Rattle.protobuf_parse_lexer.specs.Tokens.{is_opening, is_closing}
use Rattle.protobuf_parse_lexer.specs.Front.{number_first, octal_digits, after_whole, x_no_float}
use Rattle.protobuf_parse_lexer.specs.Front.{x_no_digit}
use Rattle.protobuf_parse_lexer.specs.Total.{true_or_false}
use Rattle.protobuf_parse_lexer.proofs.Unique.{no_digit, no_ident, symbol_tests, not_true}
use Rattle.protobuf_parse_lexer.proofs.Unique.{and_true, or_true, same_byte}

-- ---- the tests in order

abbrev kind_by : Bool → Bool → Bool → Bool → TokenKind → ℕ → TokenKind
kind_by d w q p number b =
    if d then number
    else (if w then kind.Ident
    else (if q then kind.Str else (if p then kind.Symbol b else kind.Float)))

by_digit : (d w q p : Bool) (k : TokenKind) (b : ℕ) → d ≡ true → kind_by d w q p k b ≡ k
by_digit d w q p k b hd = rw hd refl

by_ident : (d w q p : Bool) (k : TokenKind) (b : ℕ) → d ≡ false → w ≡ true
    → kind_by d w q p k b ≡ kind.Ident
by_ident d w q p k b hd hw = rw (hd, hw) refl

by_quote : (d w q p : Bool) (k : TokenKind) (b : ℕ) → d ≡ false → w ≡ false → q ≡ true
    → kind_by d w q p k b ≡ kind.Str
by_quote d w q p k b hd hw hq = rw (hd, hw, hq) refl

by_point : (d w q p : Bool) (k : TokenKind) (b : ℕ) → d ≡ false → w ≡ false → q ≡ false → p ≡ false
    → kind_by d w q p k b ≡ kind.Float
by_point d w q p k b hd hw hq hp = rw (hd, hw, hq, hp) refl

by_symbol : (d w q p : Bool) (k : TokenKind) (b : ℕ) → d ≡ false → w ≡ false → q ≡ false
    → p ≡ true → kind_by d w q p k b ≡ kind.Symbol b
by_symbol d w q p k b hd hw hq hp = rw (hd, hw, hq, hp) refl

abbrev is_quoted : ℕ → Bool
is_quoted b = eqb b 34 || eqb b 39

abbrev is_single : Bytes → Bool
is_single w = eqb (length w) 1

module _ (w : Bytes) where
  digit_kind : is_in class.Digit (get_or w 0 0) ≡ true → kind_of w ≡ number_kind w
  unfolding kind_of
  digit_kind = by_digit (is_in class.Digit (get_or w 0 0)) (is_in class.Ident (get_or w 0 0))
      (is_quoted (get_or w 0 0)) (is_single w) (number_kind w) (get_or w 0 0)

  ident_kind : is_in class.Digit (get_or w 0 0) ≡ false → is_in class.Ident (get_or w 0 0) ≡ true
      → kind_of w ≡ kind.Ident
  unfolding kind_of
  ident_kind = by_ident (is_in class.Digit (get_or w 0 0)) (is_in class.Ident (get_or w 0 0))
      (is_quoted (get_or w 0 0)) (is_single w) (number_kind w) (get_or w 0 0)

  quote_kind : is_in class.Digit (get_or w 0 0) ≡ false → is_in class.Ident (get_or w 0 0) ≡ false
      → is_quoted (get_or w 0 0) ≡ true → kind_of w ≡ kind.Str
  unfolding kind_of
  quote_kind = by_quote (is_in class.Digit (get_or w 0 0)) (is_in class.Ident (get_or w 0 0))
      (is_quoted (get_or w 0 0)) (is_single w) (number_kind w) (get_or w 0 0)

  point_kind : is_in class.Digit (get_or w 0 0) ≡ false → is_in class.Ident (get_or w 0 0) ≡ false
      → is_quoted (get_or w 0 0) ≡ false → is_single w ≡ false → kind_of w ≡ kind.Float
  unfolding kind_of
  point_kind = by_point (is_in class.Digit (get_or w 0 0)) (is_in class.Ident (get_or w 0 0))
      (is_quoted (get_or w 0 0)) (is_single w) (number_kind w) (get_or w 0 0)

  symbol_kind : is_in class.Digit (get_or w 0 0) ≡ false → is_in class.Ident (get_or w 0 0) ≡ false
      → is_quoted (get_or w 0 0) ≡ false → is_single w ≡ true
      → kind_of w ≡ kind.Symbol (get_or w 0 0)
  unfolding kind_of
  symbol_kind = by_symbol (is_in class.Digit (get_or w 0 0)) (is_in class.Ident (get_or w 0 0))
      (is_quoted (get_or w 0 0)) (is_single w) (number_kind w) (get_or w 0 0)

-- ---- integers

by_value : (all : Bool) (d v : ℕ) → all ≡ true → v ≡ d → v < 2 ^ 64
    → (if all && nat_lt d (2 ^ 64) then kind.Integer d else kind.Float) ≡ kind.Integer v
by_value all d v h e small =
    let fits : nat_lt d (2 ^ 64) ≡ true = lt-ltb d (2 ^ 64) (omega arith) in
    rw (h, fits) (ap (λ n. kind.Integer n) (sym e))

by_none : (all fits : Bool) (d : ℕ) → all ≡ false
    → (if all && fits then kind.Integer d else kind.Float) ≡ kind.Float
by_none all fits d h = rw h refl

all_each : (test : ℕ → Bool) (ds : Bytes)
    → ((k : ℕ) → k < length ds → test (get_or ds k 0) ≡ true) → list_all test ds ≡ true
all_each test [] h = refl
all_each test (d ∷ ds) h =
    rw (h 0 (omega arith)) (all_each test ds (λ k less. h (suc k) (omega arith)))

-- digits whose value fits
pub integer_there : (c : ByteClass) (radix v : ℕ) (ds : Bytes)
    → ((k : ℕ) → k < length ds → is_in c (get_or ds k 0) ≡ true) → v ≡ digits_value radix ds
    → v < 2 ^ 64 → integer_kind c radix ds ≡ kind.Integer v
integer_there c radix v ds each e small =
    by_value (list_all (is_in c) ds) (digits_value radix ds) v (all_each (is_in c) ds each) e small

-- any other bytes
pub integer_lacks : (c : ByteClass) (radix : ℕ) (ds : Bytes) (k : ℕ) → k < length ds
    → is_in c (get_or ds k 0) ≡ false → integer_kind c radix ds ≡ kind.Float
integer_lacks c radix ds k less h =
    by_none (list_all (is_in c) ds) (nat_lt (digits_value radix ds) (2 ^ 64))
    (digits_value radix ds)
    (list_all_at (is_in c) ds k 0 less h)

abbrev number_by : Bool → Bool → TokenKind → TokenKind → TokenKind → TokenKind
number_by z x h o d = if z then (if x then h else o) else d

by_hex : (z x : Bool) (h o d : TokenKind) → z ≡ true → x ≡ true → number_by z x h o d ≡ h
by_hex z x h o d hz hx = rw (hz, hx) refl

by_octal : (z x : Bool) (h o d : TokenKind) → z ≡ true → x ≡ false → number_by z x h o d ≡ o
by_octal z x h o d hz hx = rw (hz, hx) refl

by_decimal : (z x : Bool) (h o d : TokenKind) → z ≡ false → number_by z x h o d ≡ d
by_decimal z x h o d hz = rw hz refl

abbrev has_zero : Bytes → Bool
has_zero w = eqb (get_or w 0 0) 48 && nat_le 2 (length w)

abbrev has_x : Bytes → Bool
has_x w = eqb (get_or w 1 0) 120 || eqb (get_or w 1 0) 88

module _ (w : Bytes) where
  hex_kind : has_zero w ≡ true → has_x w ≡ true → number_kind w
      ≡ integer_kind class.Hex 16 (drop 2 w)
  unfolding number_kind
  hex_kind = by_hex (has_zero w) (has_x w) (integer_kind class.Hex 16 (drop 2 w))
      (integer_kind class.Octal 8 (drop 1 w)) (integer_kind class.Digit 10 w)

  octal_kind : has_zero w ≡ true → has_x w ≡ false → number_kind w
      ≡ integer_kind class.Octal 8 (drop 1 w)
  unfolding number_kind
  octal_kind = by_octal (has_zero w) (has_x w) (integer_kind class.Hex 16 (drop 2 w))
      (integer_kind class.Octal 8 (drop 1 w)) (integer_kind class.Digit 10 w)

  decimal_kind : has_zero w ≡ false → number_kind w ≡ integer_kind class.Digit 10 w
  unfolding number_kind
  decimal_kind = by_decimal (has_zero w) (has_x w) (integer_kind class.Hex 16 (drop 2 w))
      (integer_kind class.Octal 8 (drop 1 w)) (integer_kind class.Digit 10 w)

-- ---- the text of a token

not_one : (n : ℕ) → 1 < n → eqb n 1 ≡ false
not_one n h = grind (arith, nat_tests)

pub and_both : (a b : Bool) → a ≡ true → b ≡ true → (a && b) ≡ true
and_both a b p q = rw (p, q) refl

x_seen : (b : ℕ) → (b ≡ 120) ⊎ (b ≡ 88) → (eqb b 120 || eqb b 88) ≡ true
x_seen b (inl e) = rw e refl
x_seen b (inr e) = rw e refl

x_is : (b : ℕ) → (eqb b 120 || eqb b 88) ≡ true → (b ≡ 120) ⊎ (b ≡ 88)
x_is b h =
    ⊎_elim (λ e. inl (same_byte b 120 e)) (λ e. inr (same_byte b 88 e))
    (or_true (eqb b 120) (eqb b 88) h)

long_enough : (n : ℕ) → 2 ≤ n → nat_le 2 n ≡ true
long_enough n h = grind (arith, nat_tests)

is_long : (n : ℕ) → nat_le 2 n ≡ true → 2 ≤ n
is_long n h = grind (arith, nat_tests)

mark_no_octal : (b : ℕ) → (b ≡ 46) ⊎ IsLetterE b → is_in class.Octal b ≡ false
mark_no_octal b (inl e) = rw e refl
mark_no_octal b (inr (inl e)) = rw e refl
mark_no_octal b (inr (inr e)) = rw e refl

mark_no_digit : (b : ℕ) → (b ≡ 46) ⊎ IsLetterE b → is_in class.Digit b ≡ false
mark_no_digit b (inl e) = rw e refl
mark_no_digit b (inr (inl e)) = rw e refl
mark_no_digit b (inr (inr e)) = rw e refl

quote_tests : (b : ℕ) → IsQuote b
    → (is_in class.Digit b ≡ false) × (is_in class.Ident b ≡ false) × (is_quoted b ≡ true)
quote_tests b (inl e) = (rw e refl, rw e refl, rw e refl)
quote_tests b (inr e) = (rw e refl, rw e refl, rw e refl)

point_tests : (b : ℕ) → b ≡ 46
    → (is_in class.Digit b ≡ false) × (is_in class.Ident b ≡ false) × (is_quoted b ≡ false)
    × (eqb b 46 ≡ true)
point_tests b e = (rw e refl, rw e refl, rw e refl, rw e refl)

float_end : (z : Bytes) (n : ℕ) (f : IsFloat z n) → f.point ≤ n
float_end z n f =
    elim f.exponent [
      | inl e ↦ omega arith
      | inr x ↦ elim x.begins
          [ inl b ↦ omega (arith, x.some) | inr b ↦ omega (arith, x.some, b.0) ]
    ]

-- a float that begins with a digit has its point or exponent behind it
digits_before : (z : Bytes) (n : ℕ) (f : IsFloat z n) → is_in class.Digit (get_or z 0 0) ≡ true
    → 0 < f.whole
digits_before z n f h =
    elim (cases_lt 0 f.whole) [
      | inl more ↦ more
      | inr none ↦
          let is : f.whole ≡ 0 = omega arith in
          absurd
          (false≢true (sym (mark_no_digit (get_or z 0 0)
          (subst (λ k. (get_or z k 0 ≡ 46) ⊎ IsLetterE (get_or z k 0)) is (after_whole z n f)))
          ∙ h))
    ]

zero_is_digit : (b : ℕ) → b ≡ 48 → is_in class.Digit b ≡ true
zero_is_digit b e = rw e refl

-- a float that begins with a point has a digit behind it
point_long : (z : Bytes) (n : ℕ) (f : IsFloat z n) → get_or z 0 0 ≡ 46 → 1 < n
point_long z n f e =
    let end = float_end z n f in
    elim f.some [
      | inl more ↦ absurd
          (false≢true (sym (point_tests (get_or z 0 0) e).0 ∙ f.digits 0 (omega arith) more))
      | inr more ↦ omega arith
    ]

integer_within : (z : Bytes) (n v : ℕ) → IsIntegerText z n v → n ≤ length z
integer_within z n v (inl d) = d.0.within
integer_within z n v (inr (inl h)) = h.0.within
integer_within z n v (inr (inr o)) = o.0.within

module _ (z : Bytes) (n : ℕ) (within : n ≤ length z) where
  len : length (take n z) ≡ n
  len = length-take-le n z within

  at : (k : ℕ) → k < n → get_or (take n z) k 0 ≡ get_or z k 0
  at k less = get_or-take n z k 0 less

  tested : (test : ℕ → Bool) (b : Bool) (k : ℕ) → k < n → test (get_or z k 0) ≡ b
      → test (get_or (take n z) k 0) ≡ b
  tested test b k less e = ap test (at k less) ∙ e

  behind : (i : ℕ) → i ≤ n → drop i (take n z) ≡ slice_range z i n
  behind i less =
      let e : i + (n - i) ≡ n = omega arith in
      ap (λ m. drop i (take m z)) (sym e) ∙ drop-take i (n - i) z

  behind_at : (i k : ℕ) → i + k < n → get_or (slice_range z i n) k 0 ≡ get_or z (i + k) 0
  behind_at i k less = get_or-take (n - i) (drop i z) k 0 (omega arith) ∙ get_or-drop i z k 0

  behind_len : (i : ℕ) → i ≤ n → length (slice_range z i n) ≡ n - i
  behind_len i less = length-take-le (n - i) (drop i z) (omega (arith, length-drop i z))

  -- the digits behind the first i bytes
  behind_value : (c : ByteClass) (radix i v : ℕ) → i ≤ n → AllIn c z i n
      → v ≡ digits_value radix (slice_range z i n) → v < 2 ^ 64
      → integer_kind c radix (drop i (take n z)) ≡ kind.Integer v
  behind_value c radix i v less each e small =
      ap (integer_kind c radix) (behind i less)
      ∙ integer_there c radix v (slice_range z i n)
      (λ k more.
      let inside : k < n - i = omega (arith, behind_len i less) in
      ap (is_in c) (behind_at i k (omega arith)) ∙ each (i + k) (omega arith) (omega arith)) e small

  -- a byte that is no such digit
  behind_other : (c : ByteClass) (radix i k : ℕ) → i + k < n → is_in c (get_or z (i + k) 0) ≡ false
      → integer_kind c radix (drop i (take n z)) ≡ kind.Float
  behind_other c radix i k less h =
      ap (integer_kind c radix) (behind i (omega arith))
      ∙ integer_lacks c radix (slice_range z i n) k (omega (arith, behind_len i (omega arith)))
      (ap (is_in c) (behind_at i k less) ∙ h)

  zero_there : get_or z 0 0 ≡ 48 → 2 ≤ n → has_zero (take n z) ≡ true
  zero_there e more =
      and_both (eqb (get_or (take n z) 0 0) 48) (nat_le 2 (length (take n z)))
      (tested (λ b. eqb b 48) true 0 (omega arith) (ap (λ b. eqb b 48) e))
      (long_enough (length (take n z)) (omega (arith, len)))

  zero_seen : has_zero (take n z) ≡ true → (get_or z 0 0 ≡ 48) × (2 ≤ n)
  zero_seen h =
      let p = and_true (eqb (get_or (take n z) 0 0) 48) (nat_le 2 (length (take n z))) h in
      let more : 2 ≤ n = omega (arith, len, is_long (length (take n z)) p.1) in
      (sym (at 0 (omega arith)) ∙ same_byte (get_or (take n z) 0 0) 48 p.0, more)

  decimal_there : (v : ℕ) → 0 < n → AllIn class.Digit z 0 n → (get_or z 0 0 ≡ 48 → n ≡ 1)
      → v ≡ digits_value 10 (slice_range z 0 n) → v < 2 ^ 64
      → number_kind (take n z) ≡ kind.Integer v
  decimal_there v some each alone e small =
      decimal_kind (take n z)
      (not_true _
      (λ h. let p = zero_seen h in
      absurd (omega (arith, alone p.0, p.1))))
      ∙ behind_value class.Digit 10 0 v (omega arith) each e small

  integer_text : (v : ℕ) → IsIntegerText z n v → v < 2 ^ 64
      → kind_of (take n z) ≡ kind.Integer v
  integer_text v (inl d) small =
      digit_kind (take n z)
      (tested (is_in class.Digit) true 0 d.0.some (d.0.each 0 (omega arith) d.0.some))
      ∙ decimal_there v d.0.some d.0.each d.0.zero_alone d.1 small
  integer_text v (inr (inl h)) small =
      let some = h.0.some in
      digit_kind (take n z)
      (tested (is_in class.Digit) true 0 (omega arith) (zero_is_digit _ h.0.first))
      ∙ hex_kind (take n z) (zero_there h.0.first (omega arith))
      (x_seen (get_or (take n z) 1 0)
      (subst (λ b. (b ≡ 120) ⊎ (b ≡ 88)) (sym (at 1 (omega arith))) h.0.second))
      ∙ behind_value class.Hex 16 2 v (omega arith) h.0.each h.1 small
  integer_text v (inr (inr o)) small =
      let some = o.0.some in
      digit_kind (take n z)
      (tested (is_in class.Digit) true 0 (omega arith) (zero_is_digit _ o.0.first))
      ∙ octal_kind (take n z) (zero_there o.0.first some)
      (not_true _
      (λ h. x_no_digit (get_or z 1 0)
      (subst (λ b. (b ≡ 120) ⊎ (b ≡ 88)) (at 1 (omega arith)) (x_is (get_or (take n z) 1 0) h))
      (octal_digits z n o.0 1 (omega arith) (omega arith))))
      ∙ behind_value class.Octal 8 1 v (omega arith) o.0.each o.1 small

  float_digit : (f : IsFloat z n) → 0 < f.whole → number_kind (take n z) ≡ kind.Float
  float_digit f some =
      elim (true_or_false (has_zero (take n z))) [
        | inl h ↦
            let p = zero_seen h in
            let marked = f.marked in
            let there : 1 + (f.whole - 1) ≡ f.whole = omega arith in
            octal_kind (take n z) h
            (not_true _
            (λ x. x_no_float z n f p.0
            (subst (λ b. (b ≡ 120) ⊎ (b ≡ 88)) (at 1 (omega (arith, p.1)))
            (x_is (get_or (take n z) 1 0) x))))
            ∙ behind_other class.Octal 8 1 (f.whole - 1) (omega arith)
            (subst (λ k. is_in class.Octal (get_or z k 0) ≡ false) (sym there)
            (mark_no_octal (get_or z f.whole 0) (after_whole z n f)))
        | inr h ↦
            let marked = f.marked in
            let same : 0 + f.whole ≡ f.whole = omega arith in
            decimal_kind (take n z) h
            ∙ behind_other class.Digit 10 0 f.whole (omega arith)
            (subst (λ k. is_in class.Digit (get_or z k 0) ≡ false) (sym same)
            (mark_no_digit (get_or z f.whole 0) (after_whole z n f)))
      ]

  float_text : IsFloat z n → kind_of (take n z) ≡ kind.Float
  float_text f =
      let marked = f.marked in
      elim (number_first z n (inr (inr (inr f)))) [
        | inl d ↦
            digit_kind (take n z) (tested (is_in class.Digit) true 0 (omega arith) d)
            ∙ float_digit f (digits_before z n f d)
        | inr p ↦
            let t = point_tests (get_or z 0 0) p.0 in
            let two : 1 < n = point_long z n f p.0 in
            point_kind (take n z) (tested (is_in class.Digit) false 0 (omega arith) t.0)
            (tested (is_in class.Ident) false 0 (omega arith) t.1)
            (tested is_quoted false 0 (omega arith) t.2)
            (not_one (length (take n z)) (omega (arith, len)))
      ]

-- a token's text tells its kind
pub token_kind : (z : Bytes) (n : ℕ) (k : TokenKind) → IsToken z n k → kind_of (take n z) ≡ k
token_kind z n kind.Ident t =
    ident_kind (take n z) (tested z n t.0.within (is_in class.Digit) false 0 t.0.some t.0.first)
    (tested z n t.0.within (is_in class.Ident) true 0 t.0.some (t.0.each 0 (omega arith) t.0.some))
token_kind z n kind.Str t =
    let q = quote_tests (get_or z 0 0) t.0.quote in
    quote_kind (take n z) (tested z n t.0.within (is_in class.Digit) false 0 t.0.some q.0)
    (tested z n t.0.within (is_in class.Ident) false 0 t.0.some q.1)
    (tested z n t.0.within is_quoted true 0 t.0.some q.2)
token_kind z n (kind.Integer v) t = integer_text z n (integer_within z n v t.0) v t.0 t.1
token_kind z n kind.Float t = float_text z n t.0.within t.0
token_kind z n (kind.Symbol b) t =
    let some : 0 < n = omega (arith, t.0) in
    let within : n ≤ length z = omega (arith, t.0, t.1) in
    let q = symbol_tests (get_or z 0 0) (subst (λ x. is_symbol x ≡ true) t.2 t.3) in
    let one : length (take n z) ≡ 1 = len z n within ∙ t.0 in
    symbol_kind (take n z)
    (tested z n within (is_in class.Digit) false 0 some (no_digit z t.1 t.4))
    (tested z n within (is_in class.Ident) false 0 some (no_ident z t.1 t.4))
    (tested z n within is_quoted false 0 some q.1)
    (ap (λ m. eqb m 1) one)
    ∙ ap (λ x. kind.Symbol x) (at z n within 0 some ∙ sym t.2)

-- ---- brackets

symbols_alone : (test : TokenKind → Bool) (d w q p : Bool) (k : TokenKind) (b : ℕ) → test k ≡ false
    → test kind.Ident ≡ false → test kind.Str ≡ false → test kind.Float ≡ false
    → (p && test (kind.Symbol b)) ≡ false → test (kind_by d w q p k b) ≡ false
symbols_alone test true w q p k b n i s f y = n
symbols_alone test false true q p k b n i s f y = i
symbols_alone test false false true p k b n i s f y = s
symbols_alone test false false false true k b n i s f y = y
symbols_alone test false false false false k b n i s f y = f

either : (test : TokenKind → Bool) (a : Bool) (d : ℕ) → test (kind.Integer d) ≡ false
    → test kind.Float ≡ false → test (if a then kind.Integer d else kind.Float) ≡ false
either test true d i f = i
either test false d i f = f

number_tested : (test : TokenKind → Bool)
    → ((c : ByteClass) (r : ℕ) (ds : Bytes) → test (integer_kind c r ds) ≡ false) → (z x : Bool)
    (w : Bytes) →
    test (number_by z x (integer_kind class.Hex 16 (drop 2 w))
    (integer_kind class.Octal 8 (drop 1 w)) (integer_kind class.Digit 10 w)) ≡ false
number_tested test none true true w = none class.Hex 16 (drop 2 w)
number_tested test none true false w = none class.Octal 8 (drop 1 w)
number_tested test none false x w = none class.Digit 10 w

-- only symbols may be seen by the test, and only by this byte
symbol_first : (test : TokenKind → Bool) (w : Bytes)
    → ((c : ByteClass) (r : ℕ) (ds : Bytes) → test (integer_kind c r ds) ≡ false)
    → test kind.Ident ≡ false → test kind.Str ≡ false → test kind.Float ≡ false
    → (is_single w && test (kind.Symbol (get_or w 0 0))) ≡ false → test (kind_of w) ≡ false
unfolding kind_of number_kind
symbol_first test w none i s f y =
    symbols_alone test (is_in class.Digit (get_or w 0 0)) (is_in class.Ident (get_or w 0 0))
    (is_quoted (get_or w 0 0)) (is_single w) (number_kind w) (get_or w 0 0)
    (number_tested test none (has_zero w) (has_x w) w) i s f y

by_first : (w : Bytes) (b : ℕ) → is_single w ≡ true → get_or w 0 0 ≡ b
    → is_in class.Digit b ≡ false → is_in class.Ident b ≡ false → is_quoted b ≡ false
    → kind_of w ≡ kind.Symbol b
by_first w b p e d i q =
    symbol_kind w (ap (is_in class.Digit) e ∙ d) (ap (is_in class.Ident) e ∙ i) (ap is_quoted e ∙ q)
    p
    ∙ ap (λ x. kind.Symbol x) e

three_cases : (x i j k : ℕ) → (eqb x i || eqb x j || eqb x k) ≡ true
    → (x ≡ i) ⊎ (x ≡ j) ⊎ (x ≡ k)
three_cases x i j k h =
    ⊎_elim
    (λ p. ⊎_elim (λ e. inl (same_byte x i e)) (λ e. inr (inl (same_byte x j e)))
    (or_true (eqb x i) (eqb x j) p)) (λ e. inr (inr (same_byte x k e)))
    (or_true (eqb x i || eqb x j) (eqb x k) h)

abbrev opens : ℕ → Bool
opens b = b == 123 || b == 91 || b == 60

abbrev closes : ℕ → Bool
closes b = b == 125 || b == 93 || b == 62

opening_yes : (w : Bytes) → is_single w ≡ true → opens (get_or w 0 0) ≡ true
    → is_opening (kind_of w) ≡ true
opening_yes w p h =
    elim (three_cases (get_or w 0 0) 123 91 60 h) [
      | inl e ↦ ap is_opening (by_first w 123 p e refl refl refl)
      | inr (inl e) ↦ ap is_opening (by_first w 91 p e refl refl refl)
      | inr (inr e) ↦ ap is_opening (by_first w 60 p e refl refl refl)
    ]

closing_yes : (w : Bytes) → is_single w ≡ true → closes (get_or w 0 0) ≡ true
    → is_closing (kind_of w) ≡ true
closing_yes w p h =
    elim (three_cases (get_or w 0 0) 125 93 62 h) [
      | inl e ↦ ap is_closing (by_first w 125 p e refl refl refl)
      | inr (inl e) ↦ ap is_closing (by_first w 93 p e refl refl refl)
      | inr (inr e) ↦ ap is_closing (by_first w 62 p e refl refl refl)
    ]

-- a text is an opening bracket just where it is one byte
pub opening_first : (w : Bytes) → is_opening (kind_of w)
    ≡ (eqb (length w) 1 && opens (get_or w 0 0))
opening_first w =
    elim (true_or_false (is_single w && opens (get_or w 0 0))) [
      | inl h ↦
          let p = and_true (is_single w) (opens (get_or w 0 0)) h in
          opening_yes w p.0 p.1 ∙ sym h
      | inr h ↦
          symbol_first is_opening w
          (λ c r ds. either is_opening (list_all (is_in c) ds && nat_lt (digits_value r ds)
          (2 ^ 64))
          (digits_value r ds) refl refl) refl refl refl h ∙ sym h
    ]

-- a text is a closing bracket just where it is one byte
pub closing_first : (w : Bytes) → is_closing (kind_of w)
    ≡ (eqb (length w) 1 && closes (get_or w 0 0))
closing_first w =
    elim (true_or_false (is_single w && closes (get_or w 0 0))) [
      | inl h ↦
          let p = and_true (is_single w) (closes (get_or w 0 0)) h in
          closing_yes w p.0 p.1 ∙ sym h
      | inr h ↦
          symbol_first is_closing w
          (λ c r ds. either is_closing (list_all (is_in c) ds && nat_lt (digits_value r ds)
          (2 ^ 64))
          (digits_value r ds) refl refl) refl refl refl h ∙ sym h
    ]
