-- An escaped text says the bytes that were escaped.
use Rattle.std.specs.Prelude.{nat_le, if◌then◌else◌}
use Rattle.std.proofs.Common.{◌≡◌, ℕ, suc, ◌==◌, ◌<◌, ◌+◌, ◌-◌, ◌*◌, ◌/◌, ◌%◌, ◌++◌, ◌&&◌, List, []}
use Rattle.std.proofs.Common.{◌∷◌, true, false, get_or, refl, sym, ap, subst, ◌∙◌, arith, inl, inr}
use Rattle.std.proofs.lemmas.Bool.{cases_Bool, cond-true, cond-false, eqb-true, and_from, le-leb}
use Rattle.protobuf_parse_base.specs.Escapes.{escaped_byte, escaped_bytes, short_escape}
use Rattle.protobuf_parse_base.specs.Escapes.{octal_escape, is_octal_digit, said_bytes}

-- ---- the ways in which a byte is written

-- what a printable byte is that is written as it is
pub record IsUnescaped (b : ℕ) : Type 0 where
  pub no_quote : (b == 34) ≡ false
  pub no_apostrophe : (b == 39) ≡ false
  pub no_backslash : (b == 92) ≡ false
  pub printable : (nat_le 32 b && nat_le b 126) ≡ true

-- what holds of each way holds of each escaped byte
pub escaped_byte-cases : (P : ℕ → List ℕ → Type 0)
    → P 10 (short_escape 110) → P 13 (short_escape 114) → P 9 (short_escape 116)
    → P 34 (short_escape 34) → P 39 (short_escape 39) → P 92 (short_escape 92)
    → ((b : ℕ) → IsUnescaped b → P b (b ∷ [])) → ((b : ℕ) → b < 256 → P b (octal_escape b))
    → (b : ℕ)
    → b < 256 → P b (escaped_byte b)
escaped_byte-cases P line_feed return tab quote apostrophe backslash plain octal b small =
    elim (cases_Bool (b == 10)) [
      | inl h ↦ at 10 line_feed h
      | inr h10 ↦ elim (cases_Bool (b == 13)) [
        | inl h ↦ at 13 return h
        | inr h13 ↦ elim (cases_Bool (b == 9)) [
          | inl h ↦ at 9 tab h
          | inr h9 ↦ elim (cases_Bool (b == 34)) [
            | inl h ↦ at 34 quote h
            | inr h34 ↦ elim (cases_Bool (b == 39)) [
              | inl h ↦ at 39 apostrophe h
              | inr h39 ↦ elim (cases_Bool (b == 92)) [
                | inl h ↦ at 92 backslash h
                | inr h92 ↦
                    let long : escaped_byte b
                    ≡ (if nat_le 32 b && nat_le b 126 then b ∷ [] else octal_escape b) =
                    cond-false (b == 10) _ _ h10
                    ∙ (cond-false (b == 13) _ _ h13 ∙ (cond-false (b == 9) _ _ h9
                    ∙ (cond-false (b == 34) _ _ h34
                    ∙ (cond-false (b == 39) _ _ h39 ∙ cond-false (b == 92) _ _ h92)))) in
                    elim (cases_Bool (nat_le 32 b && nat_le b 126)) [
                      | inl h ↦ subst (P b)
                          (sym (long ∙ cond-true (nat_le 32 b && nat_le b 126) _ _ h))
                          (plain b
                          (record {
                            no_quote = h34;
                            no_apostrophe = h39;
                            no_backslash = h92;
                            printable = h;
                          }))
                      | inr h ↦ subst (P b)
                          (sym (long ∙ cond-false (nat_le 32 b && nat_le b 126) _ _ h))
                          (octal b small)
                    ]
              ]
            ]
          ]
        ]
      ]
    ]
  where
    at : (c : ℕ) → P c (escaped_byte c) → (b == c) ≡ true → P b (escaped_byte b)
    at c p h = let Q : ℕ → Type 0 = λ d. P d (escaped_byte d) in subst Q (sym (eqb-true b c h)) p

-- ---- each way says its byte

octal-digit : (d : ℕ) → d < 8 → is_octal_digit (48 + d) ≡ true
octal-digit d h = and_from (nat_le 48 (48 + d)) (nat_le (48 + d) 55)
    (le-leb 48 (48 + d) (omega arith)) (le-leb (48 + d) 55 (omega arith))

octal-value : (b : ℕ) → b < 256
    → 8 * (8 * (48 + b / 64 - 48) + (48 + b / 8 % 8 - 48)) + (48 + b % 8 - 48) ≡ b
octal-value b h = omega arith

said-octal : (rest : List ℕ) (b : ℕ) → b < 256
    → said_bytes (octal_escape b ++ rest) ≡ b ∷ said_bytes rest
said-octal rest b h =
    cond-true (is_octal_digit (48 + b / 64)) _ _ (octal-digit (b / 64) (omega arith))
    ∙ ap (λ byte. byte ∷ said_bytes rest) (octal-value b h)

pub said-escaped_byte : (b : ℕ) (rest : List ℕ) → b < 256
    → said_bytes (escaped_byte b ++ rest) ≡ b ∷ said_bytes rest
said-escaped_byte b rest small =
    escaped_byte-cases (λ c piece. said_bytes (piece ++ rest) ≡ c ∷ said_bytes rest) refl refl refl
    refl refl refl
    (λ c plain. cond-false (c == 92) _ _ plain.no_backslash) (said-octal rest) b small

pub said-escaped_bytes : (bytes : List ℕ) → ((i : ℕ) → get_or bytes i 0 < 256)
    → said_bytes (escaped_bytes bytes) ≡ bytes
said-escaped_bytes [] small = refl
said-escaped_bytes (b ∷ bs) small =
    said-escaped_byte b (escaped_bytes bs) (small 0)
    ∙ ap (λ rest. b ∷ rest) (said-escaped_bytes bs (λ i. small (suc i)))
