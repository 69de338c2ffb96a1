-- What stands between the quotes of a string.
use Rattle.std.proofs.Common.{◌≡◌, ℕ, zero, suc, ◌+◌, ◌-◌, ◌<◌, ◌≤◌, Bool, true, false, cond, eqb}
use Rattle.std.proofs.Common.{leb, ◌||◌, ◌&&◌, [], ◌∷◌, ◌++◌, length, take, drop, slice_index, refl}
use Rattle.std.proofs.Common.{sym, ap, ◌∙◌, subst, inl, inr, arith, length-append, IsUtf8}
use Rattle.std.specs.Str.{IsCharBoundary}
use Rattle.std.proofs.lemmas.Bool.{false≢true, eqb-true, le-leb, and_from}
use Rattle.std.proofs.lemmas.Bool.Decides.{nat_tests}
use Rattle.std.proofs.lemmas.Str.{IsCharBoundary-after_ascii}
use Rattle.protobuf_parse_lexer.specs.Text.{Bytes, IsQuote, IsString, is_rest, is_empty}
use Rattle.protobuf_parse_lexer.specs.Tokens.{is_quote, unquoted}
use Rattle.protobuf_parse_lexer.specs.Laws.{StringsAreQuoted}
use Rattle.protobuf_parse_lexer.specs.Escapes.{chosen}

quote_test : (q : ℕ) → IsQuote q → is_quote q ≡ true
quote_test q (inl e) = subst (λ b. is_quote b ≡ true) (sym e) refl
quote_test q (inr e) = subst (λ b. is_quote b ≡ true) (sym e) refl

last_byte : (w : Bytes) (q : ℕ) → slice_index (w ++ q ∷ []) (length w) ≡ q
last_byte [] q = refl
last_byte (b ∷ w) q = last_byte w q

front_bytes : (w : Bytes) (q : ℕ) → take (length w) (w ++ q ∷ []) ≡ w
front_bytes [] q = refl
front_bytes (b ∷ w) q = ap (λ x. b ∷ x) (front_bytes w q)

picked : (t : Bool) (x : Bytes) → t ≡ true → cond t x [] ≡ x
picked t x e = rw e refl

pub unquoted-quoted : (q : ℕ) (w : Bytes) → IsQuote q → unquoted (q ∷ (w ++ q ∷ [])) ≡ w
unquoted-quoted q w is = picked _ _ quotes ∙ ap (λ n. take n (w ++ q ∷ [])) inner ∙ front_bytes w q
  where
    len : length (w ++ q ∷ []) ≡ length w + 1
    len = length-append w (q ∷ [])

    inner : length (q ∷ (w ++ q ∷ [])) - 1 - 1 ≡ length w
    inner = omega (arith, len)

    last : length (q ∷ (w ++ q ∷ [])) - 1 ≡ suc (length w)
    last = omega (arith, len)

    quotes : (leb 2 (length (q ∷ (w ++ q ∷ []))) && is_quote q
        && is_quote (slice_index (q ∷ (w ++ q ∷ [])) (length (q ∷ (w ++ q ∷ [])) - 1))) ≡ true
    quotes =
        and_from _ _
        (and_from _ _ (le-leb 2 (length (q ∷ (w ++ q ∷ []))) (omega (arith, len)))
        (quote_test q is))
        (ap (λ k. is_quote (slice_index (q ∷ (w ++ q ∷ [])) k)) last ∙ ap is_quote (last_byte w q)
        ∙ quote_test q is)

-- the rest of a string ends with its quote
abbrev EndsWith : ℕ → Bytes → Type 0
EndsWith q u = (w : Bytes) × (u ≡ w ++ q ∷ [])

more_before : (q b : ℕ) (u : Bytes) → EndsWith q u → EndsWith q (b ∷ u)
more_before q b u e = (b ∷ e.0, ap (λ x. b ∷ x) e.1)

only_quote : (q b : ℕ) (u : Bytes) → eqb b q ≡ true → is_empty u ≡ true → EndsWith q (b ∷ u)
only_quote q b [] e h = ([], ap (λ x. x ∷ []) (eqb-true b q e))
only_quote q b (x ∷ u) e h = absurd (false≢true h)

rest_ends : (q : ℕ) (is_escaped : Bool) (u : Bytes) → is_rest q is_escaped u ≡ true → EndsWith q u
rest_ends q true [] e = absurd (false≢true e)
rest_ends q false [] e = absurd (false≢true e)
rest_ends q true (b ∷ u) e =
    elim (chosen (eqb b 10 || eqb b 0) false _ _ e)
    [ inl h ↦ absurd (false≢true h.1) | inr h ↦ more_before q b u (rest_ends q false u h.1) ]
rest_ends q false (b ∷ u) e =
    elim (chosen (eqb b 10 || eqb b 0) false _ _ e) [
      | inl h ↦ absurd (false≢true h.1)
      | inr h ↦ elim (chosen (eqb b q) (is_empty u) _ _ h.1) [
        | inl g ↦ only_quote q b u g.0 g.1
        | inr g ↦ more_before q b u
            (rest_ends q (eqb b 92) u g.1)
      ]
    ]

split_first : (z : Bytes) (n : ℕ) → 0 < n → n ≤ length z
    → take n z ≡ slice_index z 0 ∷ take (n - 1) (drop 1 z)
split_first z zero some within = absurd (omega arith)
split_first [] (suc n) some within = absurd (omega arith)
split_first (b ∷ z) (suc n) some within = let less : n ≡ suc n - 1 = omega arith in
    ap (λ k. b ∷ take k z) less

string_quoted : (z : Bytes) (n : ℕ) → IsString z n
    → take n z ≡ slice_index z 0 ∷ (unquoted (take n z) ++ slice_index z 0 ∷ [])
string_quoted z n s =
    let q = slice_index z 0 in
    let rest = rest_ends q false (take (n - 1) (drop 1 z)) s.rest in
    let is : take n z ≡ q ∷ (rest.0 ++ q ∷ []) = split_first z n s.some s.within
    ∙ ap (λ u. q ∷ u) rest.1 in
    is ∙ ap (λ w. q ∷ (w ++ q ∷ [])) (sym (unquoted-quoted q rest.0 s.quote) ∙ ap unquoted (sym is))

pub strings_quoted : StringsAreQuoted
strings_quoted z n t = string_quoted z n t.0

quote_small : (b : ℕ) → is_quote b ≡ true → b < 128
quote_small b h = grind (arith, nat_tests)

-- a text may be cut behind the quote at its front
pub after_quote : (z bytes : Bytes) → IsUtf8 z → bytes ≡ z → is_quote (slice_index bytes 0) ≡ true
    → 2 ≤ length bytes → IsCharBoundary z 1
after_quote z bytes utf8 same quote some =
    IsCharBoundary-after_ascii z 0 utf8 (omega (arith, ap length same))
    (quote_small (slice_index z 0) (subst (λ u. is_quote (slice_index u 0) ≡ true) same quote))
