-- No public clause rests on this file.
-- The function that says what string literals mean agrees with the relations of `Tokens`,
-- both ways.
use Rattle.std.proofs.Common.{◌≡◌, ◌<◌, ◌≤◌, ℕ, zero, suc, ◌+◌, ◌-◌, min, nat_le, ◌==◌, Bool, true}
use Rattle.std.proofs.Common.{false, cond, List, [], ◌∷◌, ◌++◌, length, take, drop, slice_index}
use Rattle.std.proofs.Common.{slice_range, Option, Some, None, MatchOption, refl}
use Rattle.std.proofs.Common.{sym, ap, subst, ◌∙◌, inl, inr, ◌⊎◌, arith, get_or-take, length-take}
use Rattle.std.proofs.Common.{length-drop, ◌&&◌}
use Rattle.std.proofs.Math.Utf8.{scalar}
use Rattle.std.proofs.lemmas.Bool.{false≢true, cases_lt, eqb-true}
use Rattle.std.proofs.lemmas.Bool.Decides.{nat_tests}
use Rattle.std.proofs.lemmas.List.{get_or-drop}
use Rattle.std.proofs.lemmas.Str.{IsUtf8-from_is_utf8, is_utf8-from_IsUtf8}
use Rattle.std.specs.Str.{IsUtf8, is_utf8}
use Rattle.std.specs.Str.Parse.{digits_value}
use Rattle.protobuf_parse_base.specs.Characters as char
use Rattle.protobuf_parse_grammar.specs.Readers.{and_left, and_right, false_by}
use Rattle.protobuf_parse_lexer.specs.PieceParts.{NamesByte, NamesNoByte, NamesChar, NamesNoChar}
use Rattle.protobuf_parse_lexer.specs.PieceParts.{HasEscape, HasNoEscape, IsPart, HasPart}
use Rattle.protobuf_parse_lexer.specs.PieceParts.{HasNoPart}
use Rattle.protobuf_parse_lexer.specs.Decoding.{meaning_bytes}
use Rattle.protobuf_parse_lexer.specs.Text.{Bytes, is_in, AllIn, RunStopsAt}
use Rattle.protobuf_parse_lexer.specs.Tokens.{letter_byte, IsDigits, IsEscape, letter, Decodes}
use Rattle.protobuf_parse_lexer.specs.Tokens.{done, as_is, escape, DecodesAll, none, piece}
use Rattle.protobuf_parse_lexer.specs.Tokens.{StandsFor}
use Rattle.protobuf_parse_lexer.specs.declared.lexer.bytes.ByteClass.{ByteClass}
use Rattle.protobuf_parse_lexer.specs.declared.lexer.bytes.ByteClass.TheVariants as class
use Rattle.protobuf_parse_lexer.specs.declared.lexer.str_lit.Meaning.TheVariants as meaning
use Rattle.protobuf_parse_lexer.specs.declared.lexer.str_lit.Part.{Part}
use Rattle.protobuf_parse_lexer.specs.Escapes.{one_digits, one_escape, escape_bounds, escape_part}
use Rattle.protobuf_parse_lexer.specs.Escapes.{octal_front, hex_front, short_front, long_front}
use Rattle.protobuf_parse_lexer.specs.Escapes.{no_letter}
use Rattle.protobuf_parse_lexer.specs.Decoder.{run, digits_end, byte_if, char_if, byte_part}
use Rattle.protobuf_parse_lexer.specs.Decoder.{char_part, letter_part, escape_by, front_part}
use Rattle.protobuf_parse_lexer.specs.Decoder.{before, part_then, decode_upto, decode_piece, both}
use Rattle.protobuf_parse_lexer.specs.Decoder.{decode, text_when, text_of}

-- ---- digits

run-within : (c : ByteClass) (bs : Bytes) → run c bs ≤ length bs
run-within c [] = omega arith
run-within c (b ∷ bs) = go (is_in c b) (run-within c bs)
  where
    go : (t : Bool) → run c bs ≤ length bs → cond t (suc (run c bs)) 0 ≤ length (b ∷ bs)
    go true h = omega (arith, h)
    go false h = omega arith

run-each : (c : ByteClass) (bs : Bytes) (k : ℕ) → k < run c bs → is_in c (slice_index bs k) ≡ true
run-each c [] k h = absurd (omega (arith, h))
run-each c (b ∷ bs) k h = go (is_in c b) refl k h (run-each c bs)
  where
    go : (t : Bool) → is_in c b ≡ t → (k : ℕ) → k < cond t (suc (run c bs)) 0
        → ((j : ℕ) → j < run c bs → is_in c (slice_index bs j) ≡ true)
        → is_in c (slice_index (b ∷ bs) k) ≡ true
    go false e k h f = absurd (omega (arith, h))
    go true e zero h f = e
    go true e (suc k) h f = f k (omega (arith, h))

run-stops : (c : ByteClass) (bs : Bytes) → run c bs < length bs
    → is_in c (slice_index bs (run c bs)) ≡ false
run-stops c [] h = absurd (omega (arith, h))
run-stops c (b ∷ bs) h = go (is_in c b) refl h (run-stops c bs)
  where
    go : (t : Bool) → is_in c b ≡ t → cond t (suc (run c bs)) 0 < length (b ∷ bs)
        → (run c bs < length bs → is_in c (slice_index bs (run c bs)) ≡ false)
        → is_in c (slice_index (b ∷ bs) (cond t (suc (run c bs)) 0)) ≡ false
    go false e h f = e
    go true e h f = f (omega (arith, h))

module _ (c : ByteClass) (z : Bytes) (from limit : ℕ) where
  window : Bytes
  window = take (limit - from) (drop from z)

  window-length : length window ≡ min (limit - from) (length z - from)
  unfolding window
  window-length = simp (length-take, length-drop) refl

  window-at : (k : ℕ) → k < limit - from → slice_index window k ≡ slice_index z (from + k)
  unfolding window
  window-at k h = get_or-take (limit - from) (drop from z) k 0 h ∙ get_or-drop from z k 0

  end-is : digits_end c z from limit ≡ from + run c window
  unfolding digits_end window
  end-is = refl

  end-each : AllIn c z from (digits_end c z from limit)
  end-each k after before =
      let e = end-is in
      let l = window-length in
      let w = run-within c window in
      let at : from + (k - from) ≡ k = omega arith in
      let h : is_in c (slice_index window (k - from))
      ≡ true = run-each c window (k - from) (omega arith) in
      subst (λ (i : ℕ). is_in c (slice_index z i) ≡ true) at
      (rw (← window-at (k - from) (omega arith)) h)

  end-stops : digits_end c z from limit < limit → RunStopsAt c z (digits_end c z from limit)
  end-stops short within =
      let e = end-is in
      let l = window-length in
      let h : is_in c (slice_index window (run c window))
      ≡ false = run-stops c window (omega arith) in
      rw e (rw (← window-at (run c window) (omega arith)) h)

  end-bounds : from < digits_end c z from limit
      → (digits_end c z from limit ≤ length z) × (digits_end c z from limit ≤ limit)
  end-bounds some = (
    omega (arith, end-is, window-length, run-within c window),
    omega (arith, end-is, window-length, run-within c window),
  )

  end-digits : from < digits_end c z from limit
      → IsDigits c z from limit (digits_end c z from limit)
  end-digits some = let b = end-bounds some in
      record { some = some; within = b.0; short = b.1; each = end-each; stops = end-stops }

  -- where a digit stands, there are digits
  end-some : (n : ℕ) → IsDigits c z from limit n → from < digits_end c z from limit
  end-some n d = go (cases_lt from (digits_end c z from limit))
    where
      go : (from < digits_end c z from limit) ⊎ (digits_end c z from limit ≤ from)
          → from < digits_end c z from limit
      go (inl h) = h
      go (inr h) =
          let e = end-is in
          let is : digits_end c z from limit ≡ from = omega arith in
          let stop : is_in c (slice_index z from)
          ≡ false = subst (λ (i : ℕ). is_in c (slice_index z i) ≡ false) is
          (end-stops (omega (arith, d.some, d.short)) (omega (arith, d.some, d.within))) in
          absurd (false≢true (sym stop ∙ d.each from (omega arith) d.some))

-- ---- what stands at the front

le-to : (a b : ℕ) → a ≤ b → nat_le a b ≡ true
le-to a b h = grind (arith, nat_tests)

le-from : (a b : ℕ) → nat_le a b ≡ true → a ≤ b
le-from a b h = grind (arith, nat_tests)

same-to : (a b : ℕ) → a ≡ b → (a == b) ≡ true
same-to a b h = grind (arith, nat_tests)

and-both : (a b : Bool) → a ≡ true → b ≡ true → (a && b) ≡ true
and-both a b e h = rw (e, h) refl

module _ (c : ByteClass) (radix from : ℕ) (z : Bytes) where
  byte-front-at : (n v : ℕ) (t : Bool) → digits_end c z from 4 ≡ n
      → digits_value radix (slice_range z from n) ≡ v → (nat_le (suc from) n && nat_le v 255) ≡ t
      → MatchOption (byte_if t n v) (NamesNoByte c radix from z) (NamesByte c radix from z)
  byte-front-at n v true at is e =
      let some : from < digits_end c z from 4 =
      omega (arith, at, le-from (suc from) n (and_left _ _ e)) in
      let small : v ≤ 255 = le-from v 255 (and_right _ _ e) in
      record {
        end = n;
        digits = subst (IsDigits c z from 4) at (end-digits c z from 4 some);
        small = rw is small;
        is = rw is refl;
      }
  byte-front-at n v false at is e = λ m d small.
      let some : from < digits_end c z from 4 = end-some c z from 4 m d in
      let same : n ≡ m = sym at
      ∙ one_digits c z from 4 (digits_end c z from 4) m (end-digits c z from 4 some) d in
      let v_is : v ≡ digits_value radix (slice_range z from m) = sym is
      ∙ ap (λ (k : ℕ). digits_value radix (slice_range z from k)) same in
      let t : (nat_le (suc from) n && nat_le v 255)
      ≡ true = and-both _ _ (le-to (suc from) n (omega arith)) (le-to v 255 (omega arith)) in
      false≢true (sym e ∙ t)

  byte-front : MatchOption (byte_part c radix from z) (NamesNoByte c radix from z)
      (NamesByte c radix from z)
  unfolding byte_part
  byte-front = byte-front-at (digits_end c z from 4)
      (digits_value radix (slice_range z from (digits_end c z from 4))) _ refl refl refl

module _ (n : ℕ) (z : Bytes) where
  all-end : n ≤ length z → 2 ≤ n → AllIn class.Hex z 2 n → digits_end class.Hex z 2 n ≡ n
  all-end within more each = go (cases_lt (digits_end class.Hex z 2 n) n)
    where
      go : (digits_end class.Hex z 2 n < n) ⊎ (n ≤ digits_end class.Hex z 2 n)
          → digits_end class.Hex z 2 n ≡ n
      go (inl h) =
          let after : 2 ≤ digits_end class.Hex z 2 n = omega (arith, end-is class.Hex z 2 n) in
          absurd (false≢true (sym (end-stops class.Hex z 2 n h (omega arith))
          ∙ each (digits_end class.Hex z 2 n) after h))
      go (inr h) = go2 (cases_lt 2 (digits_end class.Hex z 2 n))
        where
          go2 : (2 < digits_end class.Hex z 2 n) ⊎ (digits_end class.Hex z 2 n ≤ 2)
              → digits_end class.Hex z 2 n ≡ n
          go2 (inl k) = omega (arith, (end-bounds class.Hex z 2 n k).1)
          go2 (inr k) = omega arith

  char-front-at : 2 ≤ n → (v : ℕ) (t : Bool) → digits_value 16 (slice_range z 2 n) ≡ v
      → (nat_le n (length z) && digits_end class.Hex z 2 n == n && scalar v) ≡ t
      → MatchOption (char_if t n v) (NamesNoChar n z) (NamesChar n z)
  char-front-at more v true is e =
      let l : nat_le n (length z) && digits_end class.Hex z 2 n == n ≡ true = and_left _ _ e in
      let at : digits_end class.Hex z 2 n ≡ n = eqb-true _ _ (and_right _ _ l) in
      record {
        within = le-from n (length z) (and_left _ _ l);
        each = subst (λ (k : ℕ). AllIn class.Hex z 2 k) at (end-each class.Hex z 2 n);
        scalar = rw is (and_right _ _ e);
        is = rw is refl;
      }
  char-front-at more v false is e = λ within each fits.
      let t = and-both _ _
      (and-both _ _ (le-to n (length z) within) (same-to _ _ (all-end within more each)))
      (rw (← is) fits) in
      false≢true (sym e ∙ t)

  char-front : 2 ≤ n → MatchOption (char_part n z) (NamesNoChar n z) (NamesChar n z)
  unfolding char_part
  char-front more = char-front-at more (digits_value 16 (slice_range z 2 n)) _ refl refl

no-byte : (b k : ℕ) → (b == k) ≡ false → b ≡ k → ⊥
no-byte b k h e = false≢true (sym h ∙ same-to b k e)

letter-front : (z : Bytes) (o : Option ℕ) → letter_byte (slice_index z 1) ≡ o
    → (letter_byte (slice_index z 1) ≡ None → HasNoEscape z)
    → MatchOption (letter_part o) (HasNoEscape z) (HasEscape z)
letter-front z None e none_there = none_there e
letter-front z (Some b) e none_there = letter b e

escape-front : (z : Bytes)
    → MatchOption (escape_by (slice_index z 1) z) (HasNoEscape z) (HasEscape z)
escape-front z = octal_or (is_in class.Octal second) refl
  where
    second : ℕ
    second = slice_index z 1

    Fits : Option Part → Type 0
    Fits r = MatchOption r (HasNoEscape z) (HasEscape z)

    last_or : (t : Bool) → (second == char.capital_u) ≡ t → is_in class.Octal second ≡ false
        → (second == char.small_x) ≡ false
        → (second == char.capital_x) ≡ false → (second == char.small_u) ≡ false
        → Fits (cond t (char_part 10 z) (letter_part (letter_byte second)))
    last_or true e o x y u =
        long_front z (char_part 10 z) (eqb-true second char.capital_u e)
        (char-front 10 z (omega arith))
    last_or false e o x y u =
        letter-front z (letter_byte second) refl
        (no_letter z o (no-byte second char.small_x x) (no-byte second char.capital_x y)
        (no-byte second char.small_u u) (no-byte second char.capital_u e))

    short_or : (t : Bool) → (second == char.small_u) ≡ t → is_in class.Octal second ≡ false
        → (second == char.small_x) ≡ false
        → (second == char.capital_x) ≡ false
        → Fits (cond t (char_part 6 z)
        (cond (second == char.capital_u) (char_part 10 z) (letter_part (letter_byte second))))
    short_or true e o x y =
        short_front z (char_part 6 z) (eqb-true second char.small_u e)
        (char-front 6 z (omega arith))
    short_or false e o x y = last_or (second == char.capital_u) refl o x y e

    upper_or : (t : Bool) → (second == char.capital_x) ≡ t → is_in class.Octal second ≡ false
        → (second == char.small_x) ≡ false
        → Fits (cond t (byte_part class.Hex 16 2 z)
        (cond (second == char.small_u) (char_part 6 z)
        (cond (second == char.capital_u) (char_part 10 z) (letter_part (letter_byte second)))))
    upper_or true e o x =
        hex_front z (byte_part class.Hex 16 2 z) (inr (eqb-true second char.capital_x e))
        (byte-front class.Hex 16 2 z)
    upper_or false e o x = short_or (second == char.small_u) refl o x e

    hex_or : (t : Bool) → (second == char.small_x) ≡ t → is_in class.Octal second ≡ false
        → Fits (cond t (byte_part class.Hex 16 2 z)
        (cond (second == char.capital_x) (byte_part class.Hex 16 2 z)
        (cond (second == char.small_u) (char_part 6 z)
        (cond (second == char.capital_u) (char_part 10 z) (letter_part (letter_byte second))))))
    hex_or true e o =
        hex_front z (byte_part class.Hex 16 2 z) (inl (eqb-true second char.small_x e))
        (byte-front class.Hex 16 2 z)
    hex_or false e o = upper_or (second == char.capital_x) refl o e

    octal_or : (t : Bool) → is_in class.Octal second ≡ t
        → Fits (cond t (byte_part class.Octal 8 1 z)
        (cond (second == char.small_x) (byte_part class.Hex 16 2 z)
        (cond (second == char.capital_x) (byte_part class.Hex 16 2 z)
        (cond (second == char.small_u) (char_part 6 z)
        (cond (second == char.capital_u) (char_part 10 z) (letter_part (letter_byte second)))))))
    octal_or true e = octal_front z (byte_part class.Octal 8 1 z) e (byte-front class.Octal 8 1 z)
    octal_or false e = hex_or (second == char.small_x) refl e

front-fits : (b : ℕ) (z : Bytes)
    → MatchOption (front_part b (b ∷ z)) (HasNoPart (b ∷ z)) (HasPart (b ∷ z))
unfolding front_part
front-fits b z = go (b == char.backslash) refl
  where
    go : (t : Bool) → (b == char.backslash) ≡ t
        → MatchOption
        (cond t (escape_by (slice_index (b ∷ z) 1) (b ∷ z))
        (Some (record { len = 1; meaning = meaning.Byte b }))) (HasNoPart (b ∷ z)) (HasPart (b ∷ z))
    go true e =
        escape_part (b ∷ z) (escape_by (slice_index (b ∷ z) 1) (b ∷ z))
        (eqb-true b char.backslash e)
        (escape-front (b ∷ z))
    go false e =
        record {
          some = omega arith;
          within = omega arith;
          is = inr (no-byte b char.backslash e, refl, refl);
        }

-- ---- decoding as a function is the relation

part-decodes : (b n : ℕ) (z w v : Bytes) → IsPart (b ∷ z) n w → Decodes (drop n (b ∷ z)) v
    → Decodes (b ∷ z) (w ++ v)
part-decodes b n z w v p d = go p.is d
  where
    go : ((b ≡ char.backslash) × IsEscape (b ∷ z) n w)
        ⊎ ((b ≡ char.backslash → ⊥) × (n ≡ 1) × (w ≡ b ∷ []))
        → Decodes (drop n (b ∷ z)) v → Decodes (b ∷ z) (w ++ v)
    go (inl h) d = escape n w h.0 h.1 d
    go (inr h) d = rw h.2 (as_is b h.0 (rw h.1 at d))

upto-to : (k : ℕ) (z v : Bytes) → decode_upto k z ≡ Some v → Decodes z v
upto-to zero [] v e = let p : [] ≡ v = cc in subst (Decodes []) p done
upto-to zero (b ∷ z) v e = absurd cc
upto-to (suc k) [] v e = let p : [] ≡ v = cc in subst (Decodes []) p done
upto-to (suc k) (b ∷ z) v e = go (front_part b (b ∷ z)) (front-fits b z) e (upto-to k)
  where
    go_on : (p : Part) (o : Option Bytes) → decode_upto k (drop p.len (b ∷ z)) ≡ o
        → HasPart (b ∷ z) p → before (meaning_bytes p.meaning) o ≡ Some v
        → ((y u : Bytes) → decode_upto k y ≡ Some u → Decodes y u) → Decodes (b ∷ z) v
    go_on p None h fits e f = absurd cc
    go_on p (Some u) h fits e f = let q : meaning_bytes p.meaning ++ u ≡ v = cc in
        subst (Decodes (b ∷ z)) q
        (part-decodes b p.len z (meaning_bytes p.meaning) u fits (f (drop p.len (b ∷ z)) u h))

    go : (o : Option Part) → MatchOption o (HasNoPart (b ∷ z)) (HasPart (b ∷ z))
        → part_then o (λ n. decode_upto k (drop n (b ∷ z))) ≡ Some v
        → ((y u : Bytes) → decode_upto k y ≡ Some u → Decodes y u) → Decodes (b ∷ z) v
    go None fits e f = absurd cc
    go (Some p) fits e f = go_on p (decode_upto k (drop p.len (b ∷ z))) refl fits e f

-- the part that a function found is the one that stands there
found-escape : (b n : ℕ) (z w : Bytes) (o : Option Part)
    → MatchOption o (HasNoPart (b ∷ z)) (HasPart (b ∷ z)) → b ≡ char.backslash
    → IsEscape (b ∷ z) n w
    → (rest : ℕ → Option Bytes) → part_then o rest ≡ before w (rest n)
found-escape b n z w None fits is e rest = absurd (fits.1 n w e)
found-escape b n z w (Some p) fits is e rest = go fits.is
  where
    go : ((b ≡ char.backslash) × IsEscape (b ∷ z) p.len (meaning_bytes p.meaning))
        ⊎ ((b ≡ char.backslash → ⊥) × (p.len ≡ 1) × (meaning_bytes p.meaning ≡ b ∷ []))
        → before (meaning_bytes p.meaning) (rest p.len) ≡ before w (rest n)
    go (inl h) = let same = one_escape h.1 e in rw (same.0, same.1) refl
    go (inr h) = absurd (h.0 is)

as_is_more : (k b : ℕ) (z v : Bytes) → (b ≡ char.backslash → ⊥) → decode_upto k z ≡ Some v
    → decode_upto (suc k) (b ∷ z) ≡ Some (b ∷ v)
unfolding front_part
as_is_more k b z v other e =
    let n : (b == char.backslash)
    ≡ false = false_by (b == char.backslash) (λ t. other (eqb-true b char.backslash t)) in
    rw (n, e) refl

upto-from : (k : ℕ) {z v : Bytes} → Decodes z v → length z ≤ k → decode_upto k z ≡ Some v
upto-from zero done h = refl
upto-from (suc k) done h = refl
upto-from zero (as_is b other d) h = absurd (omega (arith, h))
upto-from (suc k) (as_is {z = z} {v = v} b other d) h =
    let e : decode_upto k z ≡ Some v = upto-from k d (omega (arith, h)) in
    as_is_more k b z v other e
upto-from k {z = []} (escape n w is e d) h = absurd (omega arith)
upto-from zero {z = b ∷ z} (escape n w is e d) h = absurd (omega (arith, h))
upto-from (suc k) {z = b ∷ z} (escape {v = v} n w is e d) h =
    let bounds = escape_bounds e in
    let i : decode_upto k (drop n (b ∷ z))
    ≡ Some v =
    upto-from k d (rw (length-drop n (b ∷ z)) (omega (arith, h, bounds.0, bounds.1))) in
    found-escape b n z w (front_part b (b ∷ z)) (front-fits b z) is e
    (λ m. decode_upto k (drop m (b ∷ z))) ∙ rw i refl

piece-to : (z v : Bytes) → decode_piece z ≡ Some v → Decodes z v
unfolding decode_piece
piece-to z v e = upto-to (length z) z v e

piece-from : (z v : Bytes) → Decodes z v → decode_piece z ≡ Some v
unfolding decode_piece
piece-from z v d = upto-from (length z) d (omega arith)

pub decode-to : (zs : List Bytes) (v : Bytes) → decode zs ≡ Some v → DecodesAll zs v
decode-to [] v e = let p : [] ≡ v = cc in subst (DecodesAll []) p none
decode-to (z ∷ zs) v e = go (decode_piece z) (decode zs) refl refl e (decode-to zs)
  where
    go : (o r : Option Bytes) → decode_piece z ≡ o → decode zs ≡ r → both o r ≡ Some v
        → ((u : Bytes) → decode zs ≡ Some u → DecodesAll zs u) → DecodesAll (z ∷ zs) v
    go None r h i e f = absurd cc
    go (Some w) None h i e f = absurd cc
    go (Some w) (Some u) h i e f = let p : w ++ u ≡ v = cc in
        subst (DecodesAll (z ∷ zs)) p (piece z w (piece-to z w h) (f u i))

pub decode-from : (zs : List Bytes) (v : Bytes) → DecodesAll zs v → decode zs ≡ Some v
decode-from [] v none = refl
decode-from (z ∷ zs) v (piece {v = u} z' w d more) =
    rw (piece-from z w d, decode-from zs u more) refl

-- ---- what a string says

pub text-to : (zs : List Bytes) (v : Bytes) → text_of zs ≡ Some v → StandsFor zs v
text-to zs v e = go (decode zs) refl e
  where
    at : (w : Bytes) (b : Bool) → decode zs ≡ Some w → is_utf8 w ≡ b → cond b (Some w) None ≡ Some v
        → StandsFor zs v
    at w true h k e = let p : w
        ≡ v = cc in (
          decode-to zs v (h ∙ ap (λ (z : Bytes). Some z) p),
          subst IsUtf8 p (IsUtf8-from_is_utf8 w k),
        )
    at w false h k e = absurd cc

    go : (o : Option Bytes) → decode zs ≡ o → text_when o ≡ Some v → StandsFor zs v
    go None h e = absurd cc
    go (Some w) h e = at w (is_utf8 w) h refl e

pub text-from : (zs : List Bytes) (v : Bytes) → StandsFor zs v → text_of zs ≡ Some v
text-from zs v h = rw (decode-from zs v h.0, is_utf8-from_IsUtf8 v h.1) refl
