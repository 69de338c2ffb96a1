-- Bytes that are no line feed and no part of a longer character count one column each.
use Rattle.std.proofs.Common.{◌≡◌, ℕ, zero, suc, ◌+◌, ◌-◌, ◌<◌, ◌≤◌, ◌⊎◌, true, false, eqb, ltb, []}
use Rattle.std.proofs.Common.{◌∷◌, length, take, get_or, refl, sym, ap, ◌∙◌, subst, inl, inr, arith}
use Rattle.std.proofs.Common.{length-take, get_or-take}
use Rattle.std.proofs.lemmas.List.{take_more}
use Rattle.std.proofs.lemmas.List.Sums.{fold-append}
use Rattle.std.proofs.lemmas.Bool.Decides.{nat_tests}
use Rattle.protobuf_parse_lexer.specs.Place.{step, after}
use Rattle.protobuf_parse_lexer.specs.Scan.{AllPass, IsNarrow, is_narrow}
use Rattle.protobuf_parse_lexer.specs.Text.{Bytes, is_in, is_symbol, IsHex, IsIntegerText, IsToken}
use Rattle.protobuf_parse_lexer.specs.declared.lexer.bytes.ByteClass.TheVariants as class
use Rattle.protobuf_parse_lexer.specs.declared.lexer.token.Place.{Place}
use Rattle.protobuf_parse_lexer.specs.declared.lexer.token.TokenKind.{TokenKind}
use Rattle.protobuf_parse_lexer.specs.declared.lexer.token.TokenKind.TheVariants as kind

-- ---- the place behind them

step_narrow : (p : Place) (b : ℕ) → is_narrow b ≡ true
    → step p b ≡ record { line = p.line; col = p.col + 1 }
step_narrow p b is =
    let a : eqb b 10 ≡ false = grind (arith, nat_tests) in
    let c : ltb b 128 ≡ true = grind (arith, nat_tests) in
    rw (a, c) refl

in_column : (p : Place) (c d : ℕ) → c ≡ d
    → ◌≡◌ {A = Place} (record { line = p.line; col = c }) (record { line = p.line; col = d })
in_column p c d e = ap (λ n. record { line = p.line; col = n }) e

-- one byte more
pub after_next : (p : Place) (z : Bytes) (i : ℕ) → i < length z
    → after p (take (i + 1) z) ≡ step (after p (take i z)) (get_or z i 0)
after_next p z i within = ap (after p) (take_more z i 0 within)
    ∙ fold-append step p (take i z) (get_or z i 0 ∷ [])

-- n narrow bytes more
pub after_run : (p : Place) (z : Bytes) (i n : ℕ) → i + n ≤ length z → AllPass is_narrow z i (i + n)
    → after p (take (i + n) z)
    ≡ record { line = (after p (take i z)).line; col = (after p (take i z)).col + n }
after_run p z i zero within narrow =
    let same : i + 0 ≡ i = omega arith in
    ap (λ k. after p (take k z)) same
    ∙ in_column (after p (take i z)) _ ((after p (take i z)).col + 0) (omega arith)
after_run p z i (suc n) within narrow =
    let next : i + suc n ≡ i + n + 1 = omega arith in
    let before = after_run p z i n (omega arith) (λ k from to. narrow k from (omega arith)) in
    ap (λ k. after p (take k z)) next ∙ after_next p z (i + n) (omega arith)
    ∙ step_narrow (after p (take (i + n) z)) (get_or z (i + n) 0)
    (narrow (i + n) (omega arith) (omega arith))
    ∙ ap (λ (q : Place). record { line = q.line; col = q.col + 1 }) before
    ∙ in_column (after p (take i z)) ((after p (take i z)).col + n + 1)
    ((after p (take i z)).col + suc n) (omega arith)

pub run_place : (p now : Place) (z : Bytes) (i n : ℕ) → now ≡ after p (take i z) → i ≤ n
    → n ≤ length z → AllPass is_narrow z i n
    → ◌≡◌ {A = Place} (record { line = now.line; col = now.col + (n - i) }) (after p (take n z))
run_place p now z i n is from within narrow =
    let e : i + (n - i) ≡ n = omega arith in
    let run = after_run p z i (n - i) (omega arith)
    (subst (AllPass is_narrow z i) (sym e) narrow) in
    ap (λ (q : Place). record { line = q.line; col = q.col + (n - i) }) is ∙ sym run
    ∙ ap (λ k. after p (take k z)) e

pub after_narrow : (p : Place) (z : Bytes) → AllPass is_narrow z 0 (length z)
    → after p z ≡ record { line = p.line; col = p.col + length z }
after_narrow p [] narrow = in_column p p.col (p.col + length {A = ℕ} []) (omega arith)
after_narrow p (b ∷ z) narrow =
    ap (λ q. after q z) (step_narrow p b (narrow 0 (omega arith) (omega arith)))
    ∙ after_narrow (record { line = p.line; col = p.col + 1 }) z
    (λ k from less. narrow (suc k) (omega arith) (omega arith))
    ∙ in_column p (p.col + 1 + length z) (p.col + length (b ∷ z)) (omega arith)

-- ---- the bytes of tokens

abbrev Narrow : ℕ → Type 0
Narrow b = is_narrow b ≡ true

ident_narrow : (b : ℕ) → is_in class.Ident b ≡ true → Narrow b
ident_narrow b h = grind (arith, nat_tests)

hex_narrow : (b : ℕ) → is_in class.Hex b ≡ true → Narrow b
hex_narrow b h = grind (arith, nat_tests)

digit_narrow : (b : ℕ) → is_in class.Digit b ≡ true → Narrow b
digit_narrow b h = grind (arith, nat_tests)

octal_narrow : (b : ℕ) → is_in class.Octal b ≡ true → Narrow b
octal_narrow b h = grind (arith, nat_tests)

symbol_narrow : (b : ℕ) → is_symbol b ≡ true → Narrow b
symbol_narrow b h = grind (arith, nat_tests)

same_narrow : (b c : ℕ) → b ≡ c → Narrow c → Narrow b
same_narrow b c e is = subst Narrow (sym e) is

letter_x : (b : ℕ) → (b ≡ 120) ⊎ (b ≡ 88) → Narrow b
letter_x b (inl e) = same_narrow b 120 e refl
letter_x b (inr e) = same_narrow b 88 e refl

front_narrow : (z : Bytes) (n : ℕ) → ((i : ℕ) → i < n → Narrow (get_or z i 0))
    → AllPass is_narrow (take n z) 0 (length (take n z))
front_narrow z n each i from within =
    let less : i < n = omega (arith, length-take n z) in
    subst Narrow (sym (get_or-take n z i 0 less)) (each i less)

hex_text : (z : Bytes) (n : ℕ) → IsHex z n → (i : ℕ) → i < n → Narrow (get_or z i 0)
hex_text z n h zero less = same_narrow (get_or z 0 0) 48 h.first refl
hex_text z n h (suc zero) less = letter_x (get_or z 1 0) h.second
hex_text z n h (suc (suc i)) less =
    hex_narrow (get_or z (suc (suc i)) 0) (h.each (suc (suc i)) (omega arith) less)

integer_text : (z : Bytes) (n v : ℕ) → IsIntegerText z n v → (i : ℕ) → i < n → Narrow (get_or z i 0)
integer_text z n v (inl d) i less = digit_narrow (get_or z i 0) (d.0.each i (omega arith) less)
integer_text z n v (inr (inl h)) i less = hex_text z n h.0 i less
integer_text z n v (inr (inr o)) zero less = same_narrow (get_or z 0 0) 48 o.0.first refl
integer_text z n v (inr (inr o)) (suc i) less =
    octal_narrow (get_or z (suc i) 0) (o.0.each (suc i) (omega arith) less)

pub space_narrow : (b : ℕ) → b ≡ 32 → Narrow b
space_narrow b e = same_narrow b 32 e refl

symbol_text : (z : Bytes) (b : ℕ) → b ≡ get_or z 0 0 → is_symbol b ≡ true → (i : ℕ) → i < 1
    → Narrow (get_or z i 0)
symbol_text z b e is zero less = subst Narrow e (symbol_narrow b is)
symbol_text z b e is (suc i) less = absurd (omega arith)

pub token_narrow : (z : Bytes) (n : ℕ) (k : TokenKind) → IsToken z n k → IsNarrow k (take n z)
token_narrow z n kind.Ident t =
    front_narrow z n (λ i less. ident_narrow (get_or z i 0) (t.0.each i (omega arith) less))
token_narrow z n kind.Str t = tt
token_narrow z n (kind.Integer v) t = front_narrow z n (integer_text z n v t.0)
token_narrow z n kind.Float t = tt
token_narrow z n (kind.Symbol b) t =
    front_narrow z n (λ i less. symbol_text z b t.2 t.3 i (omega arith))

pub narrow_of : (k : TokenKind) (z : Bytes) → IsNarrow k z
    → (k ≡ kind.Ident) ⊎ ((v : ℕ) × (k ≡ kind.Integer v)) ⊎ ((b : ℕ) × (k ≡ kind.Symbol b))
    → AllPass is_narrow z 0 (length z)
narrow_of k z h (inl e) = subst (λ (x : TokenKind). IsNarrow x z) e h
narrow_of k z h (inr (inl e)) = subst (λ (x : TokenKind). IsNarrow x z) e.1 h
narrow_of k z h (inr (inr e)) = subst (λ (x : TokenKind). IsNarrow x z) e.1 h
