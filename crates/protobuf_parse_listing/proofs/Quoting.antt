-- A text of unescaped bytes is escaped as itself.
use Rattle.std.proofs.Common.{◌≡◌, ℕ, ◌==◌, ◌++◌, List, [], ◌∷◌, true, false, refl, ap, ◌∙◌}
use Rattle.std.proofs.Common.{inl, inr, ◌&&◌}
use Rattle.std.specs.Prelude.{nat_le}
use Rattle.std.specs.List.{list_all}
use Rattle.std.proofs.lemmas.Bool.{and_parts, cases_Bool, cond-false, cond-true, eqb-true}
use Rattle.protobuf_parse_base.specs.Escapes.{escaped_byte, escaped_bytes}
use Rattle.protobuf_parse_listing.specs.Unescaped.{is_unescaped_byte}

-- an unescaped byte is none that is not
other : (b c : ℕ) → is_unescaped_byte b ≡ true → is_unescaped_byte c ≡ false → (b == c) ≡ false
other b c unescaped bare = elim (cases_Bool (b == c)) [
  | inl e ↦ absurd (let z : false ≡ true = (rw (eqb-true b c e, bare) at unescaped) in cc)
  | inr differs ↦ differs
]

unescaped-byte : (b : ℕ) → is_unescaped_byte b ≡ true → escaped_byte b ≡ b ∷ []
unescaped-byte b h =
    cond-false (b == 10) _ _ (other b 10 h refl)
    ∙ (cond-false (b == 13) _ _ (other b 13 h refl)
    ∙ (cond-false (b == 9) _ _ (other b 9 h refl)
    ∙ (cond-false (b == 34) _ _ (other b 34 h refl)
    ∙ (cond-false (b == 39) _ _ (other b 39 h refl)
    ∙ (cond-false (b == 92) _ _ (other b 92 h refl)
    ∙ cond-true (nat_le 32 b && nat_le b 126) _ _
    (and_parts (nat_le 32 b && nat_le b 126) _ h).0)))))

pub unescaped_text : (bytes : List ℕ) → list_all is_unescaped_byte bytes ≡ true
    → escaped_bytes bytes ≡ bytes
unescaped_text [] h = refl
unescaped_text (b ∷ bs) h =
    let both = and_parts (is_unescaped_byte b) (list_all is_unescaped_byte bs) h in
    ap (λ piece. piece ++ escaped_bytes bs) (unescaped-byte b both.0)
    ∙ ap (λ rest. b ∷ rest) (unescaped_text bs both.1)
