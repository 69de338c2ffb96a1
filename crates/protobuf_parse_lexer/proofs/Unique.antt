-- One thing stands at the front of a text.
use Rattle.std.proofs.Common.{◌≡◌, ℕ, suc, ◌-◌, ◌<◌, ◌≤◌, Bool, true, false, ◌&&◌, ◌||◌, cond, eqb}
use Rattle.std.proofs.Common.{List, [], ◌∷◌, length, take, drop, get_or, slice_index, refl, sym, ap}
use Rattle.std.proofs.Common.{◌∙◌, subst, inl, inr, ⊎_elim, ◌⊎◌, arith}
use Rattle.std.proofs.lemmas.Bool.{false≢true, cases_lt}
use Rattle.std.proofs.lemmas.Bool.Decides.{nat_tests}
use Rattle.protobuf_parse_lexer.specs.declared.lexer.bytes.ByteClass.{ByteClass}
use Rattle.protobuf_parse_lexer.specs.declared.lexer.bytes.ByteClass.TheVariants as class
use Rattle.protobuf_parse_lexer.specs.declared.lexer.front.Piece.{Piece}
use Rattle.protobuf_parse_lexer.specs.declared.lexer.front.Piece.TheVariants as piece
use Rattle.protobuf_parse_lexer.specs.declared.lexer.token.TokenKind.{TokenKind}
use Rattle.protobuf_parse_lexer.specs.declared.lexer.token.TokenKind.TheVariants as kind
use Rattle.protobuf_parse_lexer.specs.declared.error.ParserError.{ParserError}
use Rattle.protobuf_parse_lexer.specs.declared.error.ParserError.TheVariants as error
use Rattle.protobuf_parse_lexer.specs.Scan.{BeginsNumber, Stands}
use Rattle.protobuf_parse_lexer.specs.Text.{Bytes, is_in, AllIn, RunStopsAt, IsSpaces, IsLine}
use Rattle.protobuf_parse_lexer.specs.Text.{IsBlock, IsBlank, IsQuote, IsIdentText, IsString}
use Rattle.protobuf_parse_lexer.specs.Text.{IsHex, IsOctal, IsFloat, IsNumberText, IsIntegerText}
use Rattle.protobuf_parse_lexer.specs.Text.{IsLiteral, IsLongest, NoFront, HasNoComment, is_empty}
use Rattle.protobuf_parse_lexer.specs.Text.{is_symbol, IsToken, IsFault}
use Rattle.protobuf_parse_lexer.specs.Cut.{Cut, done, blank, token}
use Rattle.protobuf_parse_lexer.specs.Tokens.{Lexeme}
use Rattle.protobuf_parse_lexer.specs.Place.{after}
use Rattle.protobuf_parse_lexer.specs.declared.lexer.token.Place.{Place}
use Rattle.protobuf_parse_lexer.specs.Laws.{Ends, IsOneCut, IsOneFault}
use Rattle.protobuf_parse_lexer.specs.Front.{number_first, number_from_integer, point_float}
use Rattle.protobuf_parse_lexer.specs.Front.{octal_digits, x_no_digit, digits_no_float}
use Rattle.protobuf_parse_lexer.specs.Front.{hex_no_float}

-- ---- the first two bytes say what may stand there

data Sort : Type 0 where
  at_end : Sort
  space : Sort
  line : Sort
  block : Sort
  digit : Sort
  ident : Sort
  quote : Sort
  symbol : Sort
  other : Sort

abbrev sort_by : Bool → Bool → Bool → Bool → Bool → Bool → Bool → Bool → Sort
sort_by e s l b d w q y =
    cond e at_end
    (cond s space
    (cond l line (cond b block (cond d digit (cond w ident (cond q quote (cond y symbol other)))))))

module _ (e s l b d w q y : Bool) (he : e ≡ false) (hs : s ≡ false) (hl : l ≡ false)
    (hb : b ≡ false) where
  by_digit : d ≡ true → sort_by e s l b d w q y ≡ digit
  by_digit hd = rw (he, hs, hl, hb, hd) refl

  by_ident : d ≡ false → w ≡ true → sort_by e s l b d w q y ≡ ident
  by_ident hd hw = rw (he, hs, hl, hb, hd, hw) refl

  by_symbol : d ≡ false → w ≡ false → q ≡ false → y ≡ true → sort_by e s l b d w q y ≡ symbol
  by_symbol hd hw hq hy = rw (he, hs, hl, hb, hd, hw, hq, hy) refl

  by_other : d ≡ false → w ≡ false → q ≡ false → y ≡ false → sort_by e s l b d w q y ≡ other
  by_other hd hw hq hy = rw (he, hs, hl, hb, hd, hw, hq, hy) refl

-- a number begins there
abbrev is_number : Bytes → Bool
is_number z = is_in class.Digit (get_or z 0 0)
    || (eqb (get_or z 0 0) 46 && is_in class.Digit (get_or z 1 0))

sort : Bytes → Sort
sort z =
    let b = get_or z 0 0 in
    let c = get_or z 1 0 in
    sort_by (is_empty z) (is_in class.Blank b) (eqb b 47 && eqb c 47) (eqb b 47 && eqb c 42)
    (is_in class.Digit b || (eqb b 46 && is_in class.Digit c)) (is_in class.Ident b)
    (eqb b 34 || eqb b 39) (is_symbol b)

not_empty : (z : Bytes) → 0 < length z → is_empty z ≡ false
not_empty [] h = absurd (omega arith)
not_empty (b ∷ z) h = refl

not_empty_at : (z : Bytes) (k b : ℕ) → get_or z k 0 ≡ suc b → is_empty z ≡ false
not_empty_at [] k b h = absurd (omega arith)
not_empty_at (x ∷ z) k b h = refl

end_sort : (z : Bytes) → length z ≡ 0 → sort z ≡ at_end
unfolding sort
end_sort [] h = refl
end_sort (b ∷ z) h = absurd (omega arith)

space_sort : (z : Bytes) → 0 < length z → is_in class.Blank (get_or z 0 0) ≡ true → sort z ≡ space
unfolding sort
space_sort z some h = let e = not_empty z some in rw (e, h) refl

line_sort : (z : Bytes) → get_or z 0 0 ≡ 47 → get_or z 1 0 ≡ 47 → sort z ≡ line
unfolding sort
line_sort z a b = let e = not_empty_at z 0 46 a in rw (e, a, b) refl

block_sort : (z : Bytes) → get_or z 0 0 ≡ 47 → get_or z 1 0 ≡ 42 → sort z ≡ block
unfolding sort
block_sort z a b = let e = not_empty_at z 0 46 a in rw (e, a, b) refl

digit_tests : (b : ℕ) → is_in class.Digit b ≡ true
    → (is_in class.Blank b ≡ false) × (eqb b 47 ≡ false)
digit_tests b h = (grind (arith, nat_tests), grind (arith, nat_tests))

ident_tests : (b : ℕ) → is_in class.Ident b ≡ true
    → (is_in class.Blank b ≡ false) × (eqb b 47 ≡ false)
ident_tests b h = (grind (arith, nat_tests), grind (arith, nat_tests))

or_right : (s : Bool) → (s || true) ≡ true
or_right true = refl
or_right false = refl

number_tests : (z : Bytes) → BeginsNumber z
    → (is_in class.Blank (get_or z 0 0) ≡ false) × (eqb (get_or z 0 0) 47 ≡ false)
number_tests z (inl h) = digit_tests (get_or z 0 0) h
number_tests z (inr h) = let p = h.0 in (rw p refl, rw p refl)

number_begins : (z : Bytes) → BeginsNumber z → is_number z ≡ true
number_begins z (inl h) =
    ap (λ u. u || (eqb (get_or z 0 0) 46 && is_in class.Digit (get_or z 1 0))) h
number_begins z (inr h) =
    let p : eqb (get_or z 0 0) 46 ≡ true = ap (λ b. eqb b 46) h.0 in
    let q : (eqb (get_or z 0 0) 46 && is_in class.Digit (get_or z 1 0))
    ≡ true = ap (λ u. u && is_in class.Digit (get_or z 1 0)) p ∙ h.1 in
    ap (λ u. is_in class.Digit (get_or z 0 0) || u) q ∙ or_right (is_in class.Digit (get_or z 0 0))

digit_sort : (z : Bytes) → 0 < length z → BeginsNumber z → sort z ≡ digit
unfolding sort
digit_sort z some h =
    let e = not_empty z some in
    let t = number_tests z h in
    by_digit (is_empty z) (is_in class.Blank (get_or z 0 0))
    (eqb (get_or z 0 0) 47 && eqb (get_or z 1 0) 47)
    (eqb (get_or z 0 0) 47 && eqb (get_or z 1 0) 42) (is_number z)
    (is_in class.Ident (get_or z 0 0)) (eqb (get_or z 0 0) 34 || eqb (get_or z 0 0) 39)
    (is_symbol (get_or z 0 0)) e t.0 (ap (λ u. u && eqb (get_or z 1 0) 47) t.1)
    (ap (λ u. u && eqb (get_or z 1 0) 42) t.1) (number_begins z h)

-- where no number begins
pub not_true : (t : Bool) → (t ≡ true → ⊥) → t ≡ false
not_true true h = absurd (h refl)
not_true false h = refl

pub or_true : (s t : Bool) → (s || t) ≡ true → (s ≡ true) ⊎ (t ≡ true)
or_true true t h = inl refl
or_true false t h = inr h

pub and_true : (s t : Bool) → (s && t) ≡ true → (s ≡ true) × (t ≡ true)
and_true true t h = (refl, h)
and_true false t h = absurd (false≢true h)

pub same_byte : (b c : ℕ) → eqb b c ≡ true → b ≡ c
same_byte b c h = grind (arith, nat_tests)

is_number_begins : (z : Bytes) → is_number z ≡ true → BeginsNumber z
is_number_begins z h =
    ⊎_elim (λ d. inl d)
    (λ p. let q = and_true (eqb (get_or z 0 0) 46) (is_in class.Digit (get_or z 1 0)) p in
    inr (same_byte (get_or z 0 0) 46 q.0, q.1))
    (or_true (is_in class.Digit (get_or z 0 0))
    (eqb (get_or z 0 0) 46 && is_in class.Digit (get_or z 1 0)) h)

ident_no_point : (b : ℕ) → is_in class.Ident b ≡ true → b ≡ 46 → ⊥
ident_no_point b h e = false≢true (subst (λ x. is_in class.Ident x ≡ true) e h)

ident_sort : (z : Bytes) → 0 < length z → is_in class.Ident (get_or z 0 0) ≡ true
    → is_in class.Digit (get_or z 0 0) ≡ false → sort z ≡ ident
unfolding sort
ident_sort z some h no_digit =
    let e = not_empty z some in
    let t = ident_tests (get_or z 0 0) h in
    let d : is_number z ≡ false = not_true _
    (λ g. ⊎_elim (λ a. false≢true (sym no_digit ∙ a)) (λ a. ident_no_point (get_or z 0 0) h a.0)
    (is_number_begins z g)) in
    by_ident (is_empty z) (is_in class.Blank (get_or z 0 0))
    (eqb (get_or z 0 0) 47 && eqb (get_or z 1 0) 47)
    (eqb (get_or z 0 0) 47 && eqb (get_or z 1 0) 42) (is_number z)
    (is_in class.Ident (get_or z 0 0)) (eqb (get_or z 0 0) 34 || eqb (get_or z 0 0) 39)
    (is_symbol (get_or z 0 0)) e t.0 (ap (λ u. u && eqb (get_or z 1 0) 47) t.1)
    (ap (λ u. u && eqb (get_or z 1 0) 42) t.1) d h

quote_sort : (z : Bytes) → IsQuote (get_or z 0 0) → sort z ≡ quote
unfolding sort
quote_sort z (inl a) = let e = not_empty_at z 0 33 a in rw (e, a) refl
quote_sort z (inr a) = let e = not_empty_at z 0 38 a in rw (e, a) refl

and_bytes : (b c j k : ℕ) → (eqb b j && eqb c k) ≡ true → (b ≡ j) × (c ≡ k)
and_bytes b c j k h = (grind (arith, nat_tests), grind (arith, nat_tests))

one_each : (c : ByteClass) (z : Bytes) → is_in c (get_or z 0 0) ≡ true → AllIn c z 0 1
one_each c z h k after before = let zero_is : 0 ≡ k = omega arith in
    subst (λ i. is_in c (get_or z i 0) ≡ true) zero_is h

pub no_digit : (z : Bytes) → 0 < length z → NoFront IsLiteral z
    → is_in class.Digit (get_or z 0 0) ≡ false
no_digit z some none =
    not_true _
    (λ h. none 1
    (inr (inr
    (inl (record {
      some = omega arith;
      within = omega arith;
      each = one_each class.Digit z h;
      zero_alone = λ e. refl;
    })))))

no_number : (z : Bytes) → 0 < length z → NoFront IsLiteral z → is_number z ≡ false
no_number z some none =
    not_true _
    (λ g. ⊎_elim (λ a. false≢true (sym (no_digit z some none) ∙ a))
    (λ a. none 2 (inr (inr (inr (inr (inr (point_float z a.0 a.1))))))) (is_number_begins z g))

pub no_ident : (z : Bytes) → 0 < length z → NoFront IsLiteral z
    → is_in class.Ident (get_or z 0 0) ≡ false
no_ident z some none =
    not_true _
    (λ h. none 1
    (inl (record {
      some = omega arith;
      within = omega arith;
      each = one_each class.Ident z h;
      first = no_digit z some none;
    })))

no_comment : (z : Bytes) → HasNoComment z
    → ((eqb (get_or z 0 0) 47 && eqb (get_or z 1 0) 47) ≡ false)
    × ((eqb (get_or z 0 0) 47 && eqb (get_or z 1 0) 42) ≡ false)
no_comment z h = (
  not_true _ (λ e. let p = and_bytes (get_or z 0 0) (get_or z 1 0) 47 47 e in (h p.0).0 p.1),
  not_true _ (λ e. let p = and_bytes (get_or z 0 0) (get_or z 1 0) 47 42 e in (h p.0).1 p.1),
)

pub symbol_tests : (b : ℕ) → is_symbol b ≡ true
    → (is_in class.Blank b ≡ false) × ((eqb b 34 || eqb b 39) ≡ false)
symbol_tests b h = (grind (arith, nat_tests), grind (arith, nat_tests))

no_quote : (b : ℕ) → (IsQuote b → ⊥) → (eqb b 34 || eqb b 39) ≡ false
no_quote b h =
    not_true _
    (λ e. ⊎_elim (λ a. h (inl (same_byte b 34 a))) (λ a. h (inr (same_byte b 39 a)))
    (or_true (eqb b 34) (eqb b 39) e))

symbol_sort : (z : Bytes) → 0 < length z → is_symbol (get_or z 0 0) ≡ true → NoFront IsLiteral z
    → HasNoComment z → sort z ≡ symbol
unfolding sort
symbol_sort z some h none no_mark =
    let e = not_empty z some in
    let t = symbol_tests (get_or z 0 0) h in
    let c = no_comment z no_mark in
    let d = no_number z some none in
    let w = no_ident z some none in
    by_symbol (is_empty z) (is_in class.Blank (get_or z 0 0))
    (eqb (get_or z 0 0) 47 && eqb (get_or z 1 0) 47)
    (eqb (get_or z 0 0) 47 && eqb (get_or z 1 0) 42) (is_number z)
    (is_in class.Ident (get_or z 0 0)) (eqb (get_or z 0 0) 34 || eqb (get_or z 0 0) 39)
    (is_symbol (get_or z 0 0)) e t.0 c.0 c.1 d w t.1 h

other_sort : (z : Bytes) → IsFault z error.UnexpectedCharacter → sort z ≡ other
unfolding sort
other_sort z f =
    let e = not_empty z f.0 in
    let c = no_comment z f.2 in
    let d = no_number z f.0 f.3 in
    let w = no_ident z f.0 f.3 in
    let q = no_quote (get_or z 0 0) f.5 in
    by_other (is_empty z) (is_in class.Blank (get_or z 0 0))
    (eqb (get_or z 0 0) 47 && eqb (get_or z 1 0) 47)
    (eqb (get_or z 0 0) 47 && eqb (get_or z 1 0) 42) (is_number z)
    (is_in class.Ident (get_or z 0 0)) (eqb (get_or z 0 0) 34 || eqb (get_or z 0 0) 39)
    (is_symbol (get_or z 0 0)) e f.1 c.0 c.1 d w q f.4

-- ---- what may stand there by its sort

abbrev DigitAt : Bytes → Piece → Type 0
DigitAt z p =
    ((n : ℕ) × (v : ℕ) × (p ≡ piece.Token n (kind.Integer v)) × IsToken z n (kind.Integer v))
    ⊎ ((n : ℕ) × (p ≡ piece.Token n kind.Float) × IsToken z n kind.Float)
    ⊎ ((p ≡ piece.Fault error.BadNumber) × IsFault z error.BadNumber)
    ⊎ ((p ≡ piece.Fault error.IntegerOverflow) × IsFault z error.IntegerOverflow)

abbrev At : Sort → Bytes → Piece → Type 0
At at_end z p = p ≡ piece.End
At space z p = (n : ℕ) × (p ≡ piece.Blank n) × IsSpaces z n
At line z p = (n : ℕ) × (p ≡ piece.Blank n) × IsLine z n
At block z p = ((n : ℕ) × (p ≡ piece.Blank n) × IsBlock z n)
    ⊎ ((p ≡ piece.Fault error.UnterminatedComment) × IsFault z error.UnterminatedComment)
At digit z p = DigitAt z p
At ident z p = (n : ℕ) × (p ≡ piece.Token n kind.Ident) × IsIdentText z n × IsLongest z n
At quote z p = ((n : ℕ) × (p ≡ piece.Token n kind.Str) × IsString z n × IsLongest z n)
    ⊎ ((p ≡ piece.Fault error.UnterminatedString) × NoFront IsLiteral z)
At symbol z p = p ≡ piece.Token 1 (kind.Symbol (get_or z 0 0))
At other z p = p ≡ piece.Fault error.UnexpectedCharacter

at : (s : Sort) (z : Bytes) (p : Piece) → sort z ≡ s → At s z p → At (sort z) z p
at s z p e h = subst (λ t. At t z p) (sym e) h

number_some : (z : Bytes) (n : ℕ) → IsNumberText z n → (0 < n) × (n ≤ length z)
number_some z n (inl d) = (d.some, d.within)
number_some z n (inr (inl h)) = (omega (arith, h.some), h.within)
number_some z n (inr (inr (inl o))) = (omega (arith, o.some), o.within)
number_some z n (inr (inr (inr f))) = (omega (arith, f.marked), f.within)

numbered : (z : Bytes) (n : ℕ) → IsNumberText z n → sort z ≡ digit
numbered z n is = let b = number_some z n is in digit_sort z (omega arith) (number_first z n is)

view : (z : Bytes) (p : Piece) → Stands z p → At (sort z) z p
view z piece.End h = at at_end z _ (end_sort z h) refl
view z (piece.Blank n) (inl s) =
    at space z _
    (space_sort z (omega (arith, s.some, s.within))
    (s.each 0 (omega arith) (omega (arith, s.some)))) (n, refl, s)
view z (piece.Blank n) (inr (inl s)) = at line z _ (line_sort z s.first s.second) (n, refl, s)
view z (piece.Blank n) (inr (inr s)) =
    at block z _ (block_sort z s.first s.second) (inl (n, refl, s))
view z (piece.Token n kind.Ident) t =
    at ident z _
    (ident_sort z (omega (arith, t.0.some, t.0.within))
    (t.0.each 0 (omega arith) (omega (arith, t.0.some))) t.0.first) (n, refl, t.0, t.1)
view z (piece.Token n kind.Str) t = at quote z _ (quote_sort z t.0.quote) (inl (n, refl, t.0, t.1))
view z (piece.Token n (kind.Integer v)) t =
    at digit z _ (numbered z n (number_from_integer z n v t.0)) (inl (n, v, refl, t))
view z (piece.Token n (kind.Symbol b)) t =
    let h : is_symbol (get_or z 0 0) ≡ true = subst (λ x. is_symbol x ≡ true) t.2 t.3 in
    let n_is = t.0 in
    let b_is = t.2 in
    at symbol z _ (symbol_sort z t.1 h t.4 t.5) cc
view z (piece.Fault error.UnterminatedComment) f =
    at block z _ (block_sort z f.0 f.1) (inr (refl, f))
view z (piece.Fault error.UnterminatedString) f = at quote z _ (quote_sort z f.0) (inr (refl, f.1))
view z (piece.Fault error.BadNumber) f =
    at digit z _ (numbered z f.0 f.1) (inr (inr (inl (refl, f))))
view z (piece.Fault error.IntegerOverflow) f =
    at digit z _ (numbered z f.0 (number_from_integer z f.0 f.1 f.2)) (inr (inr (inr (refl, f))))
view z (piece.Token n kind.Float) t =
    at digit z _ (numbered z n (inr (inr (inr t.0)))) (inr (inl (n, refl, t)))
view z (piece.Fault error.UnexpectedCharacter) f = at other z _ (other_sort z f) refl
view z (piece.Fault _) f = absurd f

-- ---- one length of each

order : (m n : ℕ) → (m < n → ⊥) → (n < m → ⊥) → m ≡ n
order m n a b = ⊎_elim (λ h. absurd (a h))
    (λ h. ⊎_elim (λ g. absurd (b g)) (λ g. omega arith) (cases_lt n m)) (cases_lt m n)

no_longer : (c : ByteClass) (z : Bytes) (i m n : ℕ) → RunStopsAt c z m → AllIn c z i n → i ≤ m
    → n ≤ length z → m < n → ⊥
no_longer c z i m n stops each after within more =
    false≢true (sym (stops (omega arith)) ∙ each m after more)

one_spaces : (z : Bytes) (m n : ℕ) → IsSpaces z m → IsSpaces z n → m ≡ n
one_spaces z m n a b =
    order m n (no_longer class.Blank z 0 m n a.stops b.each (omega arith) b.within)
    (no_longer class.Blank z 0 n m b.stops a.each (omega arith) a.within)

one_line : (z : Bytes) (m n : ℕ) → IsLine z m → IsLine z n → m ≡ n
one_line z m n a b = order m n (no_longer class.Line z 2 m n a.stops b.each a.some b.within)
    (no_longer class.Line z 2 n m b.stops a.each b.some a.within)

sooner : (z : Bytes) (m n : ℕ) → IsBlock z m → IsBlock z n → m < n → ⊥
sooner z m n a b less = b.earlier (m - 2) (omega (arith, a.some)) (omega (arith, a.some)) a.closes

one_block : (z : Bytes) (m n : ℕ) → IsBlock z m → IsBlock z n → m ≡ n
one_block z m n a b = order m n (sooner z m n a b) (sooner z n m b a)

one_long : (z : Bytes) (m n : ℕ) → IsLiteral z m → IsLongest z m → IsLiteral z n → IsLongest z n
    → m ≡ n
one_long z m n a p b q = omega (arith, p n b, q m a)

integer_long : (z : Bytes) (n v : ℕ) → IsIntegerText z n v → IsLiteral z n
integer_long z n v is = inr (inr (number_from_integer z n v is))

octal_no_hex : (z : Bytes) (n m : ℕ) → IsOctal z n → IsHex z m → ⊥
octal_no_hex z n m o h =
    x_no_digit (slice_index z 1) h.second
    (octal_digits z n o 1 (omega arith) (omega (arith, o.some)))

one_value : (z : Bytes) (n v w : ℕ) → IsIntegerText z n v → IsIntegerText z n w → v ≡ w
one_value z n v w (inl a) (inl b) = a.1 ∙ sym b.1
one_value z n v w (inl a) (inr (inl b)) = absurd (omega (arith, a.0.zero_alone b.0.first, b.0.some))
one_value z n v w (inl a) (inr (inr b)) = absurd (omega (arith, a.0.zero_alone b.0.first, b.0.some))
one_value z n v w (inr (inl a)) (inl b) = absurd (omega (arith, b.0.zero_alone a.0.first, a.0.some))
one_value z n v w (inr (inl a)) (inr (inl b)) = a.1 ∙ sym b.1
one_value z n v w (inr (inl a)) (inr (inr b)) = absurd (octal_no_hex z n n b.0 a.0)
one_value z n v w (inr (inr a)) (inl b) = absurd (omega (arith, b.0.zero_alone a.0.first, a.0.some))
one_value z n v w (inr (inr a)) (inr (inl b)) = absurd (octal_no_hex z n n a.0 b.0)
one_value z n v w (inr (inr a)) (inr (inr b)) = a.1 ∙ sym b.1

integer_no_float : (z : Bytes) (n v : ℕ) → IsIntegerText z n v → IsFloat z n → ⊥
integer_no_float z n v (inl a) f = digits_no_float z n f a.0.each
integer_no_float z n v (inr (inl a)) f = hex_no_float z n n f a.0
integer_no_float z n v (inr (inr a)) f = digits_no_float z n f (octal_digits z n a.0)

no_stop : (z : Bytes) (m n : ℕ) → m ≡ n → RunStopsAt class.Ident z m → n < length z
    → is_in class.Ident (get_or z n 0) ≡ true → ⊥
no_stop z m n e stops more letter =
    false≢true (sym (subst (λ k. RunStopsAt class.Ident z k) e stops more) ∙ letter)

-- an integer that fits is no fault
no_follows : (z : Bytes) (n v : ℕ) → IsIntegerText z n v → IsLongest z n
    → RunStopsAt class.Ident z n → IsFault z error.BadNumber → ⊥
no_follows z n v is long stops f =
    no_stop z n f.0 (one_long z n f.0 (integer_long z n v is) long (inr (inr f.1)) f.2) stops f.3
    f.4

same_integer : (z : Bytes) (m n v w : ℕ) → m ≡ n → IsIntegerText z m v → IsIntegerText z n w → v ≡ w
same_integer z m n v w e a b = one_value z n v w (subst (λ k. IsIntegerText z k v) e a) b

no_too_large : (z : Bytes) (n v : ℕ) → IsToken z n (kind.Integer v)
    → IsFault z error.IntegerOverflow → ⊥
no_too_large z n v t f =
    let e = one_long z n f.0 (integer_long z n v t.0) t.2 (integer_long z f.0 f.1 f.2) f.3 in
    omega (arith, same_integer z n f.0 v f.1 e t.0 f.2, t.1, f.5)

float_no_follows : (z : Bytes) (n : ℕ) → IsToken z n kind.Float → IsFault z error.BadNumber → ⊥
float_no_follows z n t f =
    no_stop z n f.0 (one_long z n f.0 (inr (inr (inr (inr (inr t.0))))) t.1 (inr (inr f.1)) f.2) t.2
    f.3 f.4

float_no_integer : (z : Bytes) (m n v : ℕ) → IsFloat z m → IsLongest z m → IsIntegerText z n v
    → IsLongest z n → ⊥
float_no_integer z m n v f p i q =
    let e = one_long z m n (inr (inr (inr (inr (inr f))))) p (integer_long z n v i) q in
    integer_no_float z n v i (subst (λ k. IsFloat z k) e f)

one_digit : (z : Bytes) (p q : Piece) → DigitAt z p → DigitAt z q → p ≡ q
one_digit z p q (inl a) (inl b) =
    let e = one_long z a.0 b.0 (integer_long z a.0 a.1 a.3.0) a.3.2
    (integer_long z b.0 b.1 b.3.0) b.3.2 in
    let v = same_integer z a.0 b.0 a.1 b.1 e a.3.0 b.3.0 in
    cc (a.2, b.2)
one_digit z p q (inl a) (inr (inl b)) =
    absurd (float_no_integer z b.0 a.0 a.1 b.2.0 b.2.1 a.3.0 a.3.2)
one_digit z p q (inl a) (inr (inr (inl b))) = absurd (no_follows z a.0 a.1 a.3.0 a.3.2 a.3.3 b.1)
one_digit z p q (inl a) (inr (inr (inr b))) = absurd (no_too_large z a.0 a.1 a.3 b.1)
one_digit z p q (inr (inl a)) (inl b) =
    absurd (float_no_integer z a.0 b.0 b.1 a.2.0 a.2.1 b.3.0 b.3.2)
one_digit z p q (inr (inl a)) (inr (inl b)) =
    let e = one_long z a.0 b.0 (inr (inr (inr (inr (inr a.2.0))))) a.2.1
    (inr (inr (inr (inr (inr b.2.0))))) b.2.1 in cc (a.1, b.1)
one_digit z p q (inr (inl a)) (inr (inr (inl b))) = absurd (float_no_follows z a.0 a.2 b.1)
one_digit z p q (inr (inl a)) (inr (inr (inr b))) =
    absurd (float_no_integer z a.0 b.1.0 b.1.1 a.2.0 a.2.1 b.1.2 b.1.3)
one_digit z p q (inr (inr (inl a))) (inl b) = absurd (no_follows z b.0 b.1 b.3.0 b.3.2 b.3.3 a.1)
one_digit z p q (inr (inr (inl a))) (inr (inl b)) = absurd (float_no_follows z b.0 b.2 a.1)
one_digit z p q (inr (inr (inl a))) (inr (inr (inl b))) = a.0 ∙ sym b.0
one_digit z p q (inr (inr (inl a))) (inr (inr (inr b))) =
    absurd (no_follows z b.1.0 b.1.1 b.1.2 b.1.3 b.1.4 a.1)
one_digit z p q (inr (inr (inr a))) (inl b) = absurd (no_too_large z b.0 b.1 b.3 a.1)
one_digit z p q (inr (inr (inr a))) (inr (inl b)) =
    absurd (float_no_integer z b.0 a.1.0 a.1.1 b.2.0 b.2.1 a.1.2 a.1.3)
one_digit z p q (inr (inr (inr a))) (inr (inr (inl b))) =
    absurd (no_follows z a.1.0 a.1.1 a.1.2 a.1.3 a.1.4 b.1)
one_digit z p q (inr (inr (inr a))) (inr (inr (inr b))) = a.0 ∙ sym b.0

one_at : (s : Sort) (z : Bytes) (p q : Piece) → At s z p → At s z q → p ≡ q
one_at at_end z p q a b = a ∙ sym b
one_at space z p q a b = let e = one_spaces z a.0 b.0 a.2 b.2 in cc (a.1, b.1)
one_at line z p q a b = let e = one_line z a.0 b.0 a.2 b.2 in cc (a.1, b.1)
one_at block z p q (inl a) (inl b) = let e = one_block z a.0 b.0 a.2 b.2 in cc (a.1, b.1)
one_at block z p q (inl a) (inr b) = absurd (b.1.2 a.0 a.2)
one_at block z p q (inr a) (inl b) = absurd (a.1.2 b.0 b.2)
one_at block z p q (inr a) (inr b) = a.0 ∙ sym b.0
one_at digit z p q a b = one_digit z p q a b
one_at ident z p q a b = let e = one_long z a.0 b.0 (inl a.2) a.3 (inl b.2) b.3 in cc (a.1, b.1)
one_at quote z p q (inl a) (inl b) =
    let e = one_long z a.0 b.0 (inr (inl a.2)) a.3 (inr (inl b.2)) b.3 in cc (a.1, b.1)
one_at quote z p q (inl a) (inr b) = absurd (b.1 a.0 (inr (inl a.2)))
one_at quote z p q (inr a) (inl b) = absurd (a.1 b.0 (inr (inl b.2)))
one_at quote z p q (inr a) (inr b) = a.0 ∙ sym b.0
one_at symbol z p q a b = a ∙ sym b
one_at other z p q a b = a ∙ sym b

-- one thing stands there
pub one : (z : Bytes) (p q : Piece) → Stands z p → Stands z q → p ≡ q
one z p q a b = one_at (sort z) z p q (view z p a) (view z q b)

pub one_fault : IsOneFault
one_fault rest f g a b = let e = one rest (piece.Fault f) (piece.Fault g) a b in cc

-- ---- and so a text is cut in one way

ends : (z : Bytes) → Ends z → (p : Piece) × Stands z p × ((n : ℕ) → p ≡ piece.Blank n → ⊥)
    × ((n : ℕ) (k : TokenKind) → p ≡ piece.Token n k → ⊥)
ends z (inl e) = (piece.End, e, λ n h. cc, λ n k h. cc)
ends z (inr f) = (piece.Fault f.0, f.1, λ n h. cc, λ n k h. cc)

no_blank : (z : Bytes) (n : ℕ) → Ends z → IsBlank z n → ⊥
no_blank z n e is = let p = ends z e in p.2 n (one z p.0 (piece.Blank n) p.1 is)

no_token : (z : Bytes) (n : ℕ) (k : TokenKind) → Ends z → IsToken z n k → ⊥
no_token z n k e is = let p = ends z e in p.3 n k (one z p.0 (piece.Token n k) p.1 is)

no_both : (z : Bytes) (m n : ℕ) (k : TokenKind) → IsBlank z m → IsToken z n k → ⊥
no_both z m n k a b = let e = one z (piece.Blank m) (piece.Token n k) a b in cc

same_blank : (z : Bytes) (m n : ℕ) → IsBlank z m → IsBlank z n → m ≡ n
same_blank z m n a b = let e = one z (piece.Blank m) (piece.Blank n) a b in cc

same_token : (z : Bytes) (m n : ℕ) (j k : TokenKind) → IsToken z m j → IsToken z n k
    → (m ≡ n) × (j ≡ k)
same_token z m n j k a b = let e = one z (piece.Token m j) (piece.Token n k) a b in (cc, cc)

one_cut_from : {p q t : Place} {z : Bytes} {ts us : List Lexeme} {r s : Bytes} → Cut p z ts q r
    → Ends r → Cut p z us t s → Ends s → (ts ≡ us) × (q ≡ t) × (r ≡ s)
one_cut_from done a done b = (refl, refl, refl)
one_cut_from done a (blank n is c) b = absurd (no_blank _ n a is)
one_cut_from done a (token n k is c) b = absurd (no_token _ n k a is)
one_cut_from (blank m is c) a done b = absurd (no_blank _ m b is)
one_cut_from {p} {q} {t} {z} {ts} {us} {r} {s} (blank m is c) a (blank n is' c') b =
    let e = same_blank z n m is' is in
    one_cut_from c a (subst (λ i. Cut (after p (take i z)) (drop i z) us t s) e c') b
one_cut_from (blank m is c) a (token n k is' c') b = absurd (no_both _ m n k is is')
one_cut_from (token m j is c) a done b = absurd (no_token _ m j b is)
one_cut_from (token m j is c) a (blank n is' c') b = absurd (no_both _ n m j is' is)
one_cut_from {p} {q} {t} {z} {r = r} {s = s} (token {ts = ts} m j is c) a
    (token {ts = us} n k is' c') b =
    let e = same_token z n m k j is' is in
    let rest = one_cut_from c a (subst (λ i. Cut (after p (take i z)) (drop i z) us t s) e.0 c') b
    in
    let same = rest.0 in
    let m_is = e.0 in
    let k_is = e.1 in
    (cc, rest.1, rest.2)

pub one_cut : IsOneCut
one_cut text ts us p q r s a e b f = one_cut_from a e b f

pub no_fault_at_end : (z : Bytes) (e : ParserError) → z ≡ [] → IsFault z e → ⊥
no_fault_at_end z e is h = let p = one z piece.End (piece.Fault e) (ap length is) h in cc
