-- Parts as if they were blanks.
use Rattle.std.proofs.Common.{◌≡◌, ◌∙◌, ◌<◌, ℕ, ◌+◌, [], ◌∷◌, ◌++◌, ap, length, refl, sym}
use Rattle.std.proofs.Common.{append-nil, append_assoc, get_or, take, Bool, true, false}
use Rattle.std.proofs.Common.{nat_le, nat_lt, ◌||◌, ◌==◌}
use Rattle.protobuf_parse_lexer.specs.Place.{after, step}
use Rattle.protobuf_parse_lexer.specs.declared.lexer.token.Place.{Place}
use Rattle.std.proofs.lemmas.List.{take_more}
use Rattle.protobuf_parse_lexer.specs.Text.{Bytes}
use Rattle.protobuf_parse_recovery.specs.Masking.{blank, blanks}

blanks-append : (a b : Bytes) → blanks (a ++ b) ≡ blanks a ++ blanks b
blanks-append [] b = refl
blanks-append (c ∷ a) b =
    ap (λ x. blank c ++ x) (blanks-append a b) ∙ sym (append_assoc (blank c) (blanks a) (blanks b))

-- with one byte more
pub blanks-more : (z out old new : Bytes) (i : ℕ) → i < length z → old ≡ out ++ blanks (take i z)
    → new ≡ old ++ blank (get_or z i 0) → new ≡ out ++ blanks (take (i + 1) z)
blanks-more z out old new i lt so_far added =
    added ∙ ap (λ x. x ++ blank (get_or z i 0)) so_far
    ∙ append_assoc out (blanks (take i z)) (blank (get_or z i 0))
    ∙ ap (λ x. out ++ x) (sym (ap blanks (take_more z i 0 lt)
    ∙ blanks-append (take i z) (get_or z i 0 ∷ [])
    ∙ ap (λ x. blanks (take i z) ++ x) (append-nil (blank (get_or z i 0)))))

-- the place behind what stands for one byte
after-blank : (p : Place) (b : ℕ) (z : Bytes) → after p (blank b ++ z) ≡ after (step p b) z
after-blank p b z = by_kind (b == 10) refl (nat_lt b 0x80 || nat_le 0xc0 b) refl
  where
    by_kind : (line : Bool) → (b == 10) ≡ line → (character : Bool)
        → (nat_lt b 0x80 || nat_le 0xc0 b) ≡ character → after p (blank b ++ z) ≡ after (step p b) z
    by_kind true e character f =
        let is : blank b ≡ b ∷ [] = rw e refl in ap (λ (x : Bytes). after p (x ++ z)) is
    by_kind false e true f =
        let is : blank b ≡ 32 ∷ [] = rw (e, f) refl in
        let at : step p b ≡ step p 32 = rw (e, f) refl in
        ap (λ (x : Bytes). after p (x ++ z)) is ∙ ap (λ (q : Place). after q z) (sym at)
    by_kind false e false f =
        let is : blank b ≡ [] = rw (e, f) refl in
        let at : step p b ≡ p = rw (e, f) refl in
        ap (λ (x : Bytes). after p (x ++ z)) is ∙ ap (λ (q : Place). after q z) (sym at)

-- and behind what stands for several
pub after-blanks : (p : Place) (z : Bytes) → after p (blanks z) ≡ after p z
after-blanks p [] = refl
after-blanks p (b ∷ z) = after-blank p b (blanks z) ∙ after-blanks (step p b) z
