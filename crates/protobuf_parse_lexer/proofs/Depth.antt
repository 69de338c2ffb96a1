-- A count of brackets, token by token.
use Rattle.std.proofs.Common.{◌≡◌, ℕ, ◌+◌, ◌-◌, ◌<◌, ◌≤◌, Bool, true, false, List, refl, sym, ap}
use Rattle.std.proofs.Common.{◌∙◌, subst, inl, inr, ◌⊎◌, arith, take, map, length, get_or, count_by}
use Rattle.std.proofs.Common.{Some}
use Rattle.std.proofs.lemmas.Bool.{cases_lt}
use Rattle.std.proofs.lemmas.Bool.Decides.{nat_tests}
use Rattle.std.proofs.lemmas.List.{get_or-map, length-map}
use Rattle.std.proofs.lemmas.Option.{slice_get-get_or}
use Rattle.std.proofs.lemmas.List.Sums.{count_by_more_yes, count_by_more_no}
use Rattle.protobuf_parse_lexer.specs.Tokens.{Lexeme, lexeme, is_opening, is_closing, opened}
use Rattle.protobuf_parse_lexer.specs.Tokens.{closed, IsDeep, DeepensAt}
use Rattle.protobuf_parse_lexer.specs.declared.lexer.token.TokenKind.{TokenKind}
use Rattle.protobuf_parse_lexer.specs.declared.lexer.token.TokenKind.TheVariants as kind
use Rattle.protobuf_parse_lexer.specs.declared.lexer.token.Token.{Token}

opening_char : (c : ℕ) → is_opening (kind.Symbol c) ≡ true → is_closing (kind.Symbol c) ≡ false
opening_char c h = grind (arith, nat_tests)

-- an opening bracket closes none
pub opening_is_no_closing : (k : TokenKind) → is_opening k ≡ true → is_closing k ≡ false
opening_is_no_closing (kind.Symbol c) h = opening_char c h
opening_is_no_closing _ h = refl

-- what one more token makes of the counts
abbrev pub Counts : TokenKind → ℕ → ℕ → ℕ → ℕ → Type 0
Counts k o c o' c' =
    ((is_opening k ≡ true) × (o' ≡ o + 1) × (c' ≡ c))
    ⊎ ((is_opening k ≡ false) × (is_closing k ≡ true) × (o' ≡ o) × (c' ≡ c + 1))
    ⊎ ((is_opening k ≡ false) × (is_closing k ≡ false) × (o' ≡ o) × (c' ≡ c))

module _ (xs : List Token) (i : ℕ) (d : Token) (within : i < length xs) where
  inside : i < length (map lexeme xs)
  inside = omega (arith, length-map xs lexeme)

  token_at : get_or (map lexeme xs) i (lexeme d) ≡ lexeme (get_or xs i d)
  token_at = get_or-map lexeme xs i d (lexeme d) within

  kind_at : (test : TokenKind → Bool) (b : Bool) → test (lexeme (get_or xs i d)).kind ≡ b
      → test (get_or (map lexeme xs) i (lexeme d)).kind ≡ b
  kind_at test b e = ap (λ (t : Lexeme). test t.kind) token_at ∙ e

  yes : (test : TokenKind → Bool) → test (lexeme (get_or xs i d)).kind ≡ true
      → count_by (λ (t : Lexeme). test t.kind) (take (i + 1) (map lexeme xs))
      ≡ count_by (λ (t : Lexeme). test t.kind) (take i (map lexeme xs)) + 1
  yes test e = count_by_more_yes (λ (t : Lexeme). test t.kind) (map lexeme xs) i (lexeme d) inside
      (kind_at test true e)

  no : (test : TokenKind → Bool) → test (lexeme (get_or xs i d)).kind ≡ false
      → count_by (λ (t : Lexeme). test t.kind) (take (i + 1) (map lexeme xs))
      ≡ count_by (λ (t : Lexeme). test t.kind) (take i (map lexeme xs))
  no test e = count_by_more_no (λ (t : Lexeme). test t.kind) (map lexeme xs) i (lexeme d) inside
      (kind_at test false e)

  pub next : (o c o' c' : ℕ) → o ≡ opened (take i (map lexeme xs))
      → c ≡ closed (take i (map lexeme xs)) → Counts (lexeme (get_or xs i d)).kind o c o' c' →
      (o' ≡ opened (take (i + 1) (map lexeme xs))) × (c' ≡ closed (take (i + 1) (map lexeme xs)))
  next o c o' c' p q (inl h) = (
    h.1 ∙ ap (λ n. n + 1) p ∙ sym (yes is_opening h.0),
    h.2 ∙ q
        ∙ sym (no is_closing (opening_is_no_closing (lexeme (get_or xs i d)).kind h.0)),
  )
  next o c o' c' p q (inr (inl h)) =
      (h.2 ∙ p ∙ sym (no is_opening h.0), h.3 ∙ ap (λ n. n + 1) q ∙ sym (yes is_closing h.1))
  next o c o' c' p q (inr (inr h)) =
      (h.2 ∙ p ∙ sym (no is_opening h.0), h.3 ∙ q ∙ sym (no is_closing h.1))

  -- the test of the difference says that they are deep there
  deep_there : (o c : ℕ) → o ≡ opened (take (i + 1) (map lexeme xs))
      → c ≡ closed (take (i + 1) (map lexeme xs)) → 100 < o - c
      → IsDeep (take (i + 1) (map lexeme xs))
  deep_there o c p q more = omega arith

  pub deepens : (o c o' c' : ℕ) → o ≡ opened (take i (map lexeme xs))
      → c ≡ closed (take i (map lexeme xs)) → Counts (lexeme (get_or xs i d)).kind o c o' c'
      → 100 < o' - c' →
      ((n : ℕ) → n ≤ i → IsDeep (take n (map lexeme xs)) → ⊥)
      → DeepensAt (map lexeme xs) (get_or xs i d).place
  deepens o c o' c' p q counts more earlier =
      let now = next o c o' c' p q counts in
      record {
        count = i;
        token = lexeme (get_or xs i d);
        stands = slice_get-get_or (map lexeme xs) i (lexeme d) inside ∙ ap (λ t. Some t) token_at;
        place = refl;
        deep = deep_there o' c' now.0 now.1 more;
        earlier = earlier;
      }

  pub still_shallow : (o c o' c' : ℕ) → o ≡ opened (take i (map lexeme xs))
      → c ≡ closed (take i (map lexeme xs)) → Counts (lexeme (get_or xs i d)).kind o c o' c'
      → o' - c' ≤ 100 →
      ((n : ℕ) → n ≤ i → IsDeep (take n (map lexeme xs)) → ⊥) → (n : ℕ) → n ≤ i + 1
      → IsDeep (take n (map lexeme xs)) → ⊥
  still_shallow o c o' c' p q counts few earlier n less deep =
      elim (cases_lt i n) [
        | inl more ↦
            let is : n ≡ i + 1 = omega arith in
            let here : IsDeep (take (i + 1) (map lexeme xs)) =
            subst (λ k. IsDeep (take k (map lexeme xs))) is deep in
            let now = next o c o' c' p q counts in
            omega (arith, now.0, now.1, here)
        | inr fewer ↦ earlier n fewer deep
      ]

pub few_more : (k : TokenKind) (i o c o' c' : ℕ) → o ≤ i → c ≤ i → Counts k o c o' c'
    → (o' ≤ i + 1) × (c' ≤ i + 1)
few_more k i o c o' c' p q (inl h) = (omega (arith, h.1), omega (arith, h.2))
few_more k i o c o' c' p q (inr (inl h)) = (omega (arith, h.2), omega (arith, h.3))
few_more k i o c o' c' p q (inr (inr h)) = (omega (arith, h.2), omega (arith, h.3))

-- what the loop keeps
pub record Kept (xs : List Token) (i o c : ℕ) : Type 0 where
  pub opened : o ≡ opened (take i (map lexeme xs))
  pub closed : c ≡ closed (take i (map lexeme xs))
  pub few_opened : o ≤ i
  pub few_closed : c ≤ i
  pub shallow : (n : ℕ) → n ≤ i → IsDeep (take n (map lexeme xs)) → ⊥

pub kept : (xs : List Token) (i : ℕ) (d : Token) (o c o' c' : ℕ) → i < length xs → Kept xs i o c
    → Counts (lexeme (get_or xs i d)).kind o c o' c' → o' - c' ≤ 100 → Kept xs (i + 1) o' c'
kept xs i d o c o' c' within was counts few =
    let now = next xs i d within o c o' c' was.opened was.closed counts in
    let small = few_more (lexeme (get_or xs i d)).kind i o c o' c' was.few_opened was.few_closed
    counts in
    record {
      opened = now.0;
      closed = now.1;
      few_opened = small.0;
      few_closed = small.1;
      shallow = still_shallow xs i d within o c o' c' was.opened was.closed counts few was.shallow;
    }

-- no more are open than may be
pub few_open : (xs : List Token) (i o c : ℕ) → Kept xs i o c → o - c ≤ 100
few_open xs i o c was =
    elim (cases_lt 100 (o - c)) [
      | inl more ↦ absurd (was.shallow i (omega arith) (omega (arith, was.opened, was.closed)))
      | inr few ↦ few
    ]
