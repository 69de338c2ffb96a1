-- No public clause rests on this file.
-- The escapes of a string literal (of a letter, of octal or hexadecimal digits, of the number of a
-- character) are told apart by the byte behind the backslash, so that at most one stands there.
use Rattle.std.proofs.Common.{◌≡◌, ℕ, ◌+◌, ◌-◌, ◌<◌, ◌≤◌, Bool, true, false, cond, eqb, ◌||◌, List}
use Rattle.std.proofs.Common.{[], ◌∷◌, length, slice_index, slice_range, Option, Some, None}
use Rattle.std.proofs.Common.{MatchOption, refl, sym, ap, ◌∙◌, subst, inl, inr, ⊎_elim, ◌⊎◌, arith}
use Rattle.std.proofs.Common.{get_or-take, get_or-drop, length-take, length-drop}
use Rattle.std.specs.Char.{digit_value}
use Rattle.std.specs.Str.Parse.{digits_value}
use Rattle.std.proofs.lemmas.Bool.Decides.{nat_tests}
use Rattle.std.proofs.lemmas.Bool.{false≢true, cases_lt}
use Rattle.protobuf_parse_base.specs.Characters as char
use Rattle.protobuf_parse_lexer.specs.Text.{Bytes, is_in, AllIn}
use Rattle.protobuf_parse_lexer.specs.Tokens.{letter_byte, IsDigits, IsEscape, letter, octal, hex}
use Rattle.protobuf_parse_lexer.specs.Tokens.{short, long}
use Rattle.protobuf_parse_lexer.specs.PieceParts.{NamesByte, NamesNoByte, NamesChar, NamesNoChar}
use Rattle.protobuf_parse_lexer.specs.PieceParts.{HasEscape, HasNoEscape, HasPart, HasNoPart}
use Rattle.protobuf_parse_lexer.specs.declared.lexer.bytes.ByteClass.{ByteClass}
use Rattle.protobuf_parse_lexer.specs.declared.lexer.bytes.ByteClass.TheVariants as class
use Rattle.protobuf_parse_lexer.specs.declared.lexer.str_lit.Part.{Part}

pub chosen : {X : Type 0} (t : Bool) (x y z : X) → cond t x y ≡ z
    → ((t ≡ true) × (x ≡ z)) ⊎ ((t ≡ false) × (y ≡ z))
chosen true x y z e = inl (refl, e)
chosen false x y z e = inr (refl, e)

pub in_range : (z : Bytes) (i n : ℕ) → AllIn class.Hex z i n → i ≤ n → n ≤ length z → (k : ℕ)
    → k < length (slice_range z i n) → is_in class.Hex (slice_index (slice_range z i n) k) ≡ true
in_range z i n each order within k small =
    let len : length (slice_range z i n) ≡ n - i = simp (length-take, length-drop) (omega arith) in
    let below : k < n - i = omega arith in
    rw (get_or-take, get_or-drop) (each (i + k) (omega arith) (omega arith))

-- ---- the second byte of an escape says which it is

sort_of : ℕ → ℕ
sort_of b = cond (is_in class.Octal b) 0
    (cond (eqb b char.small_x || eqb b char.capital_x) 1
    (cond (eqb b char.small_u) 2 (cond (eqb b char.capital_u) 3 4)))

letter_sort : (b v : ℕ) → letter_byte b ≡ Some v → sort_of b ≡ 4
unfolding sort_of
letter_sort b v e = grind (arith, nat_tests, e)

octal_sort : (b : ℕ) → is_in class.Octal b ≡ true → sort_of b ≡ 0
unfolding sort_of
octal_sort b h = rw h refl

hex_sort : (b : ℕ) → (b ≡ char.small_x) ⊎ (b ≡ char.capital_x) → sort_of b ≡ 1
unfolding sort_of
hex_sort b (inl e) = subst (λ x. sort_of x ≡ 1) (sym e) refl
hex_sort b (inr e) = subst (λ x. sort_of x ≡ 1) (sym e) refl

number_sort : (b k s : ℕ) → b ≡ k → sort_of k ≡ s → sort_of b ≡ s
unfolding sort_of
number_sort b k s e h = subst (λ x. sort_of x ≡ s) (sym e) h

first_digit : (c : ByteClass) (z : Bytes) (from limit n : ℕ) → IsDigits c z from limit n
    → is_in c (slice_index z from) ≡ true
first_digit c z from limit n d = d.each from (omega arith) d.some

short_sort : (b : ℕ) → b ≡ char.small_u → sort_of b ≡ 2
unfolding sort_of
short_sort b e = number_sort b char.small_u 2 e refl

long_sort : (b : ℕ) → b ≡ char.capital_u → sort_of b ≡ 3
unfolding sort_of
long_sort b e = number_sort b char.capital_u 3 e refl

-- the sort of an escape that stands there
abbrev kind_of : {z : Bytes} {n : ℕ} {w : Bytes} → IsEscape z n w → ℕ
kind_of (letter b e) = 4
kind_of (octal n d s) = 0
kind_of (hex n x d) = 1
kind_of (short u l e s) = 2
kind_of (long u l e s) = 3

sorted : {z : Bytes} {n : ℕ} {w : Bytes} (e : IsEscape z n w)
    → sort_of (slice_index z 1) ≡ kind_of e
sorted {z} (letter b e) = letter_sort (slice_index z 1) b e
sorted {z} (octal n d s) = octal_sort (slice_index z 1) (first_digit class.Octal z 1 4 n d)
sorted {z} (hex n x d) = hex_sort (slice_index z 1) x
sorted {z} (short u l e s) = short_sort (slice_index z 1) u
sorted {z} (long u l e s) = long_sort (slice_index z 1) u

abbrev Same : ℕ → Bytes → ℕ → Bytes → Type 0
Same m u n v = (m ≡ n) × (u ≡ v)

-- ---- one escape stands there

digits_no_longer : (c : ByteClass) (z : Bytes) (from limit m n : ℕ) → IsDigits c z from limit m
    → IsDigits c z from limit n → m < n → ⊥
digits_no_longer c z from limit m n a b less =
    let short_b = b.short in
    let within = b.within in
    let some = a.some in
    false≢true (sym (a.stops (omega arith) (omega arith)) ∙ b.each m (omega arith) less)

pub one_digits : (c : ByteClass) (z : Bytes) (from limit m n : ℕ) → IsDigits c z from limit m
    → IsDigits c z from limit n → m ≡ n
one_digits c z from limit m n a b =
    ⊎_elim (λ h. absurd (digits_no_longer c z from limit m n a b h))
    (λ h. ⊎_elim (λ g. absurd (digits_no_longer c z from limit n m b a g)) (λ g. omega arith)
    (cases_lt n m)) (cases_lt m n)

one_byte : (b c : ℕ) (o : Option ℕ) → o ≡ Some b → o ≡ Some c → b ≡ c
one_byte b c o p q = cc

pub one_escape : {z : Bytes} {m n : ℕ} {u v : Bytes} (a : IsEscape z m u) (b : IsEscape z n v)
    → Same m u n v
one_escape {z} (letter b e) (letter c f) =
    (refl, ap (λ x. x ∷ []) (one_byte b c (letter_byte (slice_index z 1)) e f))
one_escape {z} (letter b e) (octal n d s) =
    absurd (omega (
      arith,
      letter_sort (slice_index z 1) b e,
      octal_sort (slice_index z 1) (first_digit class.Octal z 1 4 n d),
    ))
one_escape {z} (letter b e) (hex n x d) =
    absurd (omega (arith, letter_sort (slice_index z 1) b e, hex_sort (slice_index z 1) x))
one_escape {z} (letter b e) (short u l each s) =
    absurd (omega (arith, letter_sort (slice_index z 1) b e, short_sort (slice_index z 1) u))
one_escape {z} (letter b e) (long u l each s) =
    absurd (omega (arith, letter_sort (slice_index z 1) b e, long_sort (slice_index z 1) u))
one_escape {z} (octal n d s) (letter b e) =
    absurd (omega (
      arith,
      letter_sort (slice_index z 1) b e,
      octal_sort (slice_index z 1) (first_digit class.Octal z 1 4 n d),
    ))
one_escape {z} (octal m d s) (octal n e t) =
    let is = one_digits class.Octal z 1 4 m n d e in
    (is, ap (λ k. digits_value 8 (slice_range z 1 k) ∷ []) is)
one_escape {z} (octal m d s) (hex n x e) =
    absurd (omega (
      arith,
      octal_sort (slice_index z 1) (first_digit class.Octal z 1 4 m d),
      hex_sort (slice_index z 1) x,
    ))
one_escape {z} (octal m d s) (short u l e t) =
    absurd (omega (
      arith,
      octal_sort (slice_index z 1) (first_digit class.Octal z 1 4 m d),
      short_sort (slice_index z 1) u,
    ))
one_escape {z} (octal m d s) (long u l e t) =
    absurd (omega (
      arith,
      octal_sort (slice_index z 1) (first_digit class.Octal z 1 4 m d),
      long_sort (slice_index z 1) u,
    ))
one_escape {z} (hex n x d) (letter b e) =
    absurd (omega (arith, letter_sort (slice_index z 1) b e, hex_sort (slice_index z 1) x))
one_escape {z} (hex n x d) (octal m e t) =
    absurd (omega (
      arith,
      octal_sort (slice_index z 1) (first_digit class.Octal z 1 4 m e),
      hex_sort (slice_index z 1) x,
    ))
one_escape {z} (hex m x d) (hex n y e) =
    let is = one_digits class.Hex z 2 4 m n d e in
    (is, ap (λ k. digits_value 16 (slice_range z 2 k) ∷ []) is)
one_escape {z} (hex n x d) (short u l e t) =
    absurd (omega (arith, hex_sort (slice_index z 1) x, short_sort (slice_index z 1) u))
one_escape {z} (hex n x d) (long u l e t) =
    absurd (omega (arith, hex_sort (slice_index z 1) x, long_sort (slice_index z 1) u))
one_escape {z} (short u l each s) (letter b e) =
    absurd (omega (arith, letter_sort (slice_index z 1) b e, short_sort (slice_index z 1) u))
one_escape {z} (short u l each s) (octal n d t) =
    absurd (omega (
      arith,
      octal_sort (slice_index z 1) (first_digit class.Octal z 1 4 n d),
      short_sort (slice_index z 1) u,
    ))
one_escape {z} (short u l each s) (hex n x d) =
    absurd (omega (arith, hex_sort (slice_index z 1) x, short_sort (slice_index z 1) u))
one_escape {z} (short u l each s) (short v k e t) = (refl, refl)
one_escape {z} (short u l each s) (long v k e t) =
    absurd (omega (arith, short_sort (slice_index z 1) u, long_sort (slice_index z 1) v))
one_escape {z} (long u l each s) (letter b e) =
    absurd (omega (arith, letter_sort (slice_index z 1) b e, long_sort (slice_index z 1) u))
one_escape {z} (long u l each s) (octal n d t) =
    absurd (omega (
      arith,
      octal_sort (slice_index z 1) (first_digit class.Octal z 1 4 n d),
      long_sort (slice_index z 1) u,
    ))
one_escape {z} (long u l each s) (hex n x d) =
    absurd (omega (arith, hex_sort (slice_index z 1) x, long_sort (slice_index z 1) u))
one_escape {z} (long u l each s) (short v k e t) =
    absurd (omega (arith, short_sort (slice_index z 1) v, long_sort (slice_index z 1) u))
one_escape {z} (long u l each s) (long v k e t) = (refl, refl)

-- ---- what the scanners of an escape found

hex_value : (b : ℕ) → is_in class.Hex b ≡ true → digit_value b ≤ 15
hex_value b h = grind (arith, nat_tests)

two_digits : (ds : List ℕ) → length ds ≤ 2
    → ((k : ℕ) → k < length ds → is_in class.Hex (slice_index ds k) ≡ true)
    → digits_value 16 ds ≤ 255
two_digits [] few each = omega arith
two_digits (a ∷ []) few each = omega (arith, hex_value a (each 0 (omega arith)))
two_digits (a ∷ b ∷ []) few each =
    omega (arith, hex_value a (each 0 (omega arith)), hex_value b (each 1 (omega arith)))
two_digits (a ∷ b ∷ c ∷ ds) few each = absurd (omega arith)

-- two hexadecimal digits are a byte
hex_small : (z : Bytes) (n : ℕ) → IsDigits class.Hex z 2 4 n
    → digits_value 16 (slice_range z 2 n) ≤ 255
hex_small z n d =
    let few : length (slice_range z 2 n)
    ≤ 2 = simp (length-take, length-drop) (omega (arith, d.short)) in
    two_digits (slice_range z 2 n) few (in_range z 2 n d.each (omega (arith, d.some)) d.within)

octal_none : {z : Bytes} {n : ℕ} {w : Bytes} → is_in class.Octal (slice_index z 1) ≡ true
    → NamesNoByte class.Octal 8 1 z → IsEscape z n w → ⊥
octal_none {z} at bad (letter b e) =
    omega (arith, octal_sort (slice_index z 1) at, letter_sort (slice_index z 1) b e)
octal_none {z} at bad (octal n d s) = bad n d s
octal_none {z} at bad (hex n x d) =
    omega (arith, octal_sort (slice_index z 1) at, hex_sort (slice_index z 1) x)
octal_none {z} at bad (short u l e s) =
    omega (arith, octal_sort (slice_index z 1) at, short_sort (slice_index z 1) u)
octal_none {z} at bad (long u l e s) =
    omega (arith, octal_sort (slice_index z 1) at, long_sort (slice_index z 1) u)

hex_none : {z : Bytes} {n : ℕ} {w : Bytes}
    → (slice_index z 1 ≡ char.small_x) ⊎ (slice_index z 1 ≡ char.capital_x)
    → NamesNoByte class.Hex 16 2 z → IsEscape z n w → ⊥
hex_none {z} at bad (letter b e) =
    omega (arith, hex_sort (slice_index z 1) at, letter_sort (slice_index z 1) b e)
hex_none {z} at bad (octal n d s) =
    omega (
      arith,
      hex_sort (slice_index z 1) at,
      octal_sort (slice_index z 1) (first_digit class.Octal z 1 4 n d),
    )
hex_none {z} at bad (hex n x d) = bad n d (hex_small z n d)
hex_none {z} at bad (short u l e s) =
    omega (arith, hex_sort (slice_index z 1) at, short_sort (slice_index z 1) u)
hex_none {z} at bad (long u l e s) =
    omega (arith, hex_sort (slice_index z 1) at, long_sort (slice_index z 1) u)

short_none : {z : Bytes} {n : ℕ} {w : Bytes} → slice_index z 1 ≡ char.small_u → NamesNoChar 6 z
    → IsEscape z n w → ⊥
short_none {z} at bad (letter b e) =
    omega (arith, short_sort (slice_index z 1) at, letter_sort (slice_index z 1) b e)
short_none {z} at bad (octal n d s) =
    omega (
      arith,
      short_sort (slice_index z 1) at,
      octal_sort (slice_index z 1) (first_digit class.Octal z 1 4 n d),
    )
short_none {z} at bad (hex n x d) =
    omega (arith, short_sort (slice_index z 1) at, hex_sort (slice_index z 1) x)
short_none {z} at bad (short u l e s) = bad l e s
short_none {z} at bad (long u l e s) =
    omega (arith, short_sort (slice_index z 1) at, long_sort (slice_index z 1) u)

long_none : {z : Bytes} {n : ℕ} {w : Bytes} → slice_index z 1 ≡ char.capital_u → NamesNoChar 10 z
    → IsEscape z n w → ⊥
long_none {z} at bad (letter b e) =
    omega (arith, long_sort (slice_index z 1) at, letter_sort (slice_index z 1) b e)
long_none {z} at bad (octal n d s) =
    omega (
      arith,
      long_sort (slice_index z 1) at,
      octal_sort (slice_index z 1) (first_digit class.Octal z 1 4 n d),
    )
long_none {z} at bad (hex n x d) =
    omega (arith, long_sort (slice_index z 1) at, hex_sort (slice_index z 1) x)
long_none {z} at bad (short u l e s) =
    omega (arith, long_sort (slice_index z 1) at, short_sort (slice_index z 1) u)
long_none {z} at bad (long u l e s) = bad l e s

letter_none : {z : Bytes} {n : ℕ} {w : Bytes} → is_in class.Octal (slice_index z 1) ≡ false
    → ((slice_index z 1 ≡ char.small_x) ⊎ (slice_index z 1 ≡ char.capital_x) → ⊥)
    → (slice_index z 1 ≡ char.small_u → ⊥)
    → (slice_index z 1 ≡ char.capital_u → ⊥) →
    letter_byte (slice_index z 1) ≡ None → IsEscape z n w → ⊥
letter_none {z} no_octal no_hex no_short no_long bad (letter b e) = cc
letter_none {z} no_octal no_hex no_short no_long bad (octal n d s) =
    false≢true (sym no_octal ∙ first_digit class.Octal z 1 4 n d)
letter_none {z} no_octal no_hex no_short no_long bad (hex n x d) = no_hex x
letter_none {z} no_octal no_hex no_short no_long bad (short u l e s) = no_short u
letter_none {z} no_octal no_hex no_short no_long bad (long u l e s) = no_long u

pub octal_front : (z : Bytes) (r : Option Part) → is_in class.Octal (slice_index z 1) ≡ true
    → MatchOption r (NamesNoByte class.Octal 8 1 z) (NamesByte class.Octal 8 1 z)
    → MatchOption r (HasNoEscape z) (HasEscape z)
octal_front z (Some e) at h = subst (HasEscape z) (sym h.is) (octal h.end h.digits h.small)
octal_front z None at bad = λ n w e. octal_none at bad e

pub hex_front : (z : Bytes) (r : Option Part)
    → (slice_index z 1 ≡ char.small_x) ⊎ (slice_index z 1 ≡ char.capital_x)
    → MatchOption r (NamesNoByte class.Hex 16 2 z) (NamesByte class.Hex 16 2 z)
    → MatchOption r (HasNoEscape z) (HasEscape z)
hex_front z (Some e) at h = subst (HasEscape z) (sym h.is) (hex h.end at h.digits)
hex_front z None at bad = λ n w e. hex_none at bad e

pub short_front : (z : Bytes) (r : Option Part) → slice_index z 1 ≡ char.small_u
    → MatchOption r (NamesNoChar 6 z) (NamesChar 6 z) → MatchOption r (HasNoEscape z) (HasEscape z)
short_front z (Some e) at h = subst (HasEscape z) (sym h.is) (short at h.within h.each h.scalar)
short_front z None at bad = λ n w e. short_none at bad e

pub long_front : (z : Bytes) (r : Option Part) → slice_index z 1 ≡ char.capital_u
    → MatchOption r (NamesNoChar 10 z) (NamesChar 10 z)
    → MatchOption r (HasNoEscape z) (HasEscape z)
long_front z (Some e) at h = subst (HasEscape z) (sym h.is) (long at h.within h.each h.scalar)
long_front z None at bad = λ n w e. long_none at bad e

pub no_letter : (z : Bytes) → is_in class.Octal (slice_index z 1) ≡ false
    → (slice_index z 1 ≡ char.small_x → ⊥) → (slice_index z 1 ≡ char.capital_x → ⊥)
    → (slice_index z 1 ≡ char.small_u → ⊥)
    → (slice_index z 1 ≡ char.capital_u → ⊥) →
    letter_byte (slice_index z 1) ≡ None → HasNoEscape z
no_letter z o x y u v bad n w e = letter_none o (λ h. ⊎_elim x y h) u v bad e

-- ---- parts

letter_within : (z : Bytes) (b : ℕ) → letter_byte (slice_index z 1) ≡ Some b → 2 ≤ length z
letter_within [] b e = cc
letter_within (x ∷ []) b e = cc
letter_within (x ∷ y ∷ z) b e = omega arith

pub escape_bounds : {z : Bytes} {n : ℕ} {w : Bytes} → IsEscape z n w → (0 < n) × (n ≤ length z)
escape_bounds {z} (letter b e) = (omega arith, letter_within z b e)
escape_bounds (octal n d s) = (omega (arith, d.some), d.within)
escape_bounds (hex n x d) = (omega (arith, d.some), d.within)
escape_bounds (short u l e s) = (omega arith, l)
escape_bounds (long u l e s) = (omega arith, l)

pub escape_part : (z : Bytes) (r : Option Part) → slice_index z 0 ≡ char.backslash
    → MatchOption r (HasNoEscape z) (HasEscape z) → MatchOption r (HasNoPart z) (HasPart z)
escape_part z (Some p) is e = let bounds = escape_bounds e in
    record { some = bounds.0; within = bounds.1; is = inl (is, e) }
escape_part z None is bad = (is, bad)
