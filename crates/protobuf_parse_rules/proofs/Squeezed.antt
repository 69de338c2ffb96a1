-- Names in lower case and without underscores, by their bytes.
use Rattle.std.specs.Prelude.{if◌then◌else◌, encode_utf8_all}
use Rattle.std.proofs.Common.{◌≡◌, ℕ, ◌==◌, ◌<◌, ◌≤◌, ◌++◌, not, List, [], ◌∷◌, Bool, true, false}
use Rattle.std.proofs.Common.{length, get_or, refl, sym, ap, ◌∙◌, append-nil, arith, inl, inr, suc}
use Rattle.std.proofs.lemmas.Bool.{cases_Bool, cases_lt, cond-true, cond-false}
use Rattle.std.proofs.lemmas.Bool.Decides.{nat_tests}
use Rattle.std.proofs.lemmas.Str.{encodes-chars, inside_one, encode_ascii}
use Rattle.std.proofs.lemmas.Str.Ascii.{lowercase_ascii}
use Rattle.std.specs.Char.{to_ascii_lowercase, encode_utf8}
use Rattle.std.specs.List.{filter, fold}
use Rattle.std.specs.Str.{chars, IsUtf8}
use Rattle.protobuf_parse_rules.specs.Alike.{is_letter, lower, squeezed}
use Rattle.protobuf_parse_rules.specs.Keys.{mixed, squeezed_mixed}

-- the bytes in lower case without underscores
abbrev pub letters : List ℕ → List ℕ
letters bs = lower (filter is_letter bs)

pub letters-letter : (b : ℕ) (bs : List ℕ) → (b == 95) ≡ false
    → letters (b ∷ bs) ≡ to_ascii_lowercase b ∷ letters bs
letters-letter b bs h =
    ap (λ (t : Bool). lower (if not t then b ∷ filter is_letter bs else filter is_letter bs)) h

pub letters-underscore : (b : ℕ) (bs : List ℕ) → (b == 95) ≡ true → letters (b ∷ bs) ≡ letters bs
letters-underscore b bs h =
    ap (λ (t : Bool). lower (if not t then b ∷ filter is_letter bs else filter is_letter bs)) h

-- bytes beyond ASCII are neither an underscore nor capitals
high-other : (b : ℕ) → 128 ≤ b → (b == 95) ≡ false
high-other b h = grind (arith, nat_tests)

high-same : (b : ℕ) → 128 ≤ b → to_ascii_lowercase b ≡ b
high-same b h = grind (arith, nat_tests)

high-kept : (b : ℕ) (bs : List ℕ) → 128 ≤ b → letters (b ∷ bs) ≡ b ∷ letters bs
high-kept b bs h = letters-letter b bs (high-other b h)
    ∙ ap (λ first. first ∷ letters bs) (high-same b h)

letters-high : (bs rest : List ℕ) → ((k : ℕ) → k < length bs → 128 ≤ get_or bs k 0)
    → letters (bs ++ rest) ≡ bs ++ letters rest
letters-high [] rest h = refl
letters-high (b ∷ bs) rest h =
    high-kept b (bs ++ rest) (h 0 (omega arith))
    ∙ ap (λ t. b ∷ t) (letters-high bs rest (λ k l. h (suc k) (omega arith)))

-- each byte of a character beyond ASCII is beyond ASCII
encode-beyond : (c k : ℕ) → 128 ≤ c → k < length (encode_utf8 c) → 128 ≤ get_or (encode_utf8 c) k 0
encode-beyond c k h l =
    elim (cases_lt (get_or (encode_utf8 c) k 0) 128) [
      | inr high ↦ high
      | inl low ↦
          let same = inside_one c [] (encode_utf8 c) k (sym (append-nil (encode_utf8 c))) l low in
          absurd (omega arith)
    ]

pub letters-encodes : (cs : List ℕ) → letters (encode_utf8_all cs) ≡ encode_utf8_all (letters cs)
letters-encodes [] = refl
letters-encodes (c ∷ cs) =
    elim (cases_lt c 128) [
      | inr high ↦
          letters-high (encode_utf8 c) (encode_utf8_all cs) (λ k l. encode-beyond c k high l)
          ∙ (ap (λ t. encode_utf8 c ++ t) (letters-encodes cs)
          ∙ ap encode_utf8_all (sym (high-kept c cs high)))
      | inl low ↦
          ap (λ t. letters (t ++ encode_utf8_all cs)) (encode_ascii c low)
          ∙ elim (cases_Bool (c == 95)) [
            | inl underscore ↦ letters-underscore c (encode_utf8_all cs) underscore
                ∙ (letters-encodes cs
                ∙ ap encode_utf8_all (sym (letters-underscore c cs underscore)))
            | inr other ↦ letters-letter c (encode_utf8_all cs) other
                ∙ (ap (λ t. to_ascii_lowercase c ∷ t) (letters-encodes cs)
                ∙ (ap (λ t. t ++ encode_utf8_all (letters cs))
                (sym (encode_ascii (to_ascii_lowercase c) (lowercase_ascii c low)))
                ∙ ap encode_utf8_all (sym (letters-letter c cs other))))
          ]
    ]

letters-text : (name : List ℕ) → IsUtf8 name → letters name ≡ encode_utf8_all (squeezed name)
letters-text name utf8 =
    ap letters (sym (encodes-chars name utf8)) ∙ letters-encodes (chars name)

-- ---- their key

pub folded : (bs : List ℕ) (key : ℕ) → fold squeezed_mixed key bs ≡ fold mixed key (letters bs)
folded [] key = refl
folded (b ∷ bs) key =
    elim (cases_Bool (b == 95)) [
      | inl underscore ↦
          ap (λ k. fold squeezed_mixed k bs) (cond-true (b == 95) _ _ underscore)
          ∙ (folded bs key
          ∙ ap (fold mixed key) (sym (letters-underscore b bs underscore)))
      | inr other ↦
          ap (λ k. fold squeezed_mixed k bs) (cond-false (b == 95) _ _ other)
          ∙ (folded bs (mixed key (to_ascii_lowercase b))
          ∙ ap (fold mixed key) (sym (letters-letter b bs other)))
    ]

pub squeezed_folded : (name : List ℕ) (key : ℕ) → IsUtf8 name
    → fold squeezed_mixed key name ≡ fold mixed key (encode_utf8_all (squeezed name))
squeezed_folded name key utf8 = folded name key ∙ ap (fold mixed key) (letters-text name utf8)
