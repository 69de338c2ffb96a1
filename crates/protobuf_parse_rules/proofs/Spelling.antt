-- Names of an enum's values whose keys differ, by themselves and behind the enum's name, are not
-- one but for case, underscores and the enum's name.
use Rattle.std.proofs.Common.{◌≡◌, ℕ, ◌==◌, Bool, true, false, ◌⊎◌, inl, inr, List, []}
use Rattle.std.proofs.Common.{◌∷◌, ◌++◌, map, flat_map, fold, All, chars, encode_utf8_all, IsUtf8}
use Rattle.std.proofs.Common.{refl, sym, ap, ap₂, ◌∙◌, subst, arith, suc, length, append_assoc}
use Rattle.std.proofs.Math.Dec.{eqb}
use Rattle.std.specs.Prelude.{if◌then◌else◌}
use Rattle.std.specs.Char.{to_ascii_lowercase, to_ascii_uppercase}
use Rattle.std.specs.List.{IsDistinct, AllByRecursion}
use lib.Utf8.{scalar, scalars, low_scalar}
use Rattle.std.proofs.lemmas.Bool.{cases_Bool, cases_lt, cond-true, cond-false, eqb-true}
use Rattle.std.proofs.lemmas.Bool.{and_parts, and_from}
use Rattle.std.proofs.lemmas.Bool.Decides.{nat_tests}
use Rattle.std.proofs.lemmas.Grind.{fold-append}
use Rattle.std.proofs.lemmas.Map.Keys.{IsDistinct-head, IsDistinct-tail, IsDistinct-cons}
use Rattle.std.proofs.lemmas.Str.{chars-encodes, scalars-chars, encodes-append}
use Rattle.std.proofs.lemmas.Str.Ascii.{lowercase_ascii, lowercase_is, lowercase-lowercase}
use Rattle.std.proofs.lemmas.Str.Ascii.{lowercase-uppercase}
use Rattle.protobuf_parse_base.specs.Cases.{joined_words}
use Rattle.protobuf_parse_model.specs.Descriptors.{Text, EnumValueDescriptor}
use Rattle.protobuf_parse_rules.specs.Alike.{Spelled, behind, lower, or_else, squeezed}
use Rattle.protobuf_parse_rules.specs.Alike.{spelled_claim}
use Rattle.protobuf_parse_rules.specs.Alike.{spelled_value, words}
use Rattle.protobuf_parse_rules.specs.Claims.{Claim, Rules, Thing, conflicts}
use Rattle.protobuf_parse_rules.specs.Keys.{mixed, no_text, squeezed_mixed, spelling_keys, text_key}
use Rattle.protobuf_parse_rules.specs.Rules.{Breach}
use Rattle.protobuf_parse_rules.proofs.Keying.{nothing_claimed}
use Rattle.protobuf_parse_rules.proofs.Squeezed.{folded, letters, letters-encodes, letters-letter}
use Rattle.protobuf_parse_rules.proofs.Squeezed.{letters-underscore}

-- ---- the letters of a name stay the same where it is put in lower or in camel case

lower_underscore : (c : ℕ) → (c == 95) ≡ true → (to_ascii_lowercase c == 95) ≡ true
lower_underscore c h = grind (arith, nat_tests)

lower_other : (c : ℕ) → (c == 95) ≡ false → (to_ascii_lowercase c == 95) ≡ false
lower_other c h = grind (arith, nat_tests)

upper_other : (c : ℕ) → (c == 95) ≡ false → (to_ascii_uppercase c == 95) ≡ false
upper_other c h = grind (arith, nat_tests)

letters-lower : (cs : List ℕ) → letters (lower cs) ≡ letters cs
letters-lower [] = refl
letters-lower (c ∷ cs) =
    elim (cases_Bool (c == 95)) [
      | inl is ↦
          letters-underscore (to_ascii_lowercase c) (lower cs) (lower_underscore c is)
          ∙ (letters-lower cs ∙ sym (letters-underscore c cs is))
      | inr other ↦
          letters-letter (to_ascii_lowercase c) (lower cs) (lower_other c other)
          ∙ (ap₂ (λ b bs. b ∷ bs) (lowercase-lowercase c) (letters-lower cs)
          ∙ sym (letters-letter c cs other))
    ]

letters-raised : (raise : Bool) (c : ℕ) (cs : List ℕ) → (c == 95) ≡ false
    → letters ((if raise then to_ascii_uppercase c else c) ∷ cs)
    ≡ to_ascii_lowercase c ∷ letters cs
letters-raised true c cs other =
    letters-letter (to_ascii_uppercase c) cs (upper_other c other)
    ∙ ap (λ b. b ∷ letters cs) (lowercase-uppercase c)
letters-raised false c cs other = letters-letter c cs other

letters-joined : (raise : Bool) (cs : List ℕ) → letters (joined_words raise cs) ≡ letters cs
letters-joined raise [] = refl
letters-joined raise (c ∷ cs) =
    elim (cases_Bool (c == 95)) [
      | inl is ↦
          ap letters (cond-true (c == 95) (joined_words true cs)
          ((if raise then to_ascii_uppercase c else c) ∷ joined_words false cs) is)
          ∙ (letters-joined true cs ∙ sym (letters-underscore c cs is))
      | inr other ↦
          ap letters (cond-false (c == 95) (joined_words true cs)
          ((if raise then to_ascii_uppercase c else c) ∷ joined_words false cs) other)
          ∙ (letters-raised raise c (joined_words false cs) other
          ∙ (ap (λ bs. to_ascii_lowercase c ∷ bs) (letters-joined false cs)
          ∙ sym (letters-letter c cs other)))
    ]

-- ---- what stands behind a front

behind-underscore : (front cs : List ℕ) (c : ℕ) → (c == 95) ≡ true
    → behind front (c ∷ cs) ≡ behind front cs
behind-underscore [] cs c is = cond-true (c == 95) (behind [] cs) (c ∷ cs) is
behind-underscore (f ∷ fs) cs c is =
    cond-true (c == 95) (behind (f ∷ fs) cs)
    (if to_ascii_lowercase c == f then behind fs cs else []) is

behind-none : (cs : List ℕ) (c : ℕ) → (c == 95) ≡ false → behind [] (c ∷ cs) ≡ c ∷ cs
behind-none cs c other = cond-false (c == 95) (behind [] cs) (c ∷ cs) other

behind-letter : (f : ℕ) (fs cs : List ℕ) (c : ℕ) → (c == 95) ≡ false
    → behind (f ∷ fs) (c ∷ cs) ≡ (if to_ascii_lowercase c == f then behind fs cs else [])
behind-letter f fs cs c other =
    cond-false (c == 95) (behind (f ∷ fs) cs)
    (if to_ascii_lowercase c == f then behind fs cs else []) other

behind-like : (f : ℕ) (fs cs : List ℕ) (c : ℕ) → (c == 95) ≡ false
    → (to_ascii_lowercase c == f) ≡ true → behind (f ∷ fs) (c ∷ cs) ≡ behind fs cs
behind-like f fs cs c other like =
    behind-letter f fs cs c other
    ∙ cond-true (to_ascii_lowercase c == f) (behind fs cs) [] like

behind-unlike : (f : ℕ) (fs cs : List ℕ) (c : ℕ) → (c == 95) ≡ false
    → (to_ascii_lowercase c == f) ≡ false → behind (f ∷ fs) (c ∷ cs) ≡ []
behind-unlike f fs cs c other unlike =
    behind-letter f fs cs c other
    ∙ cond-false (to_ascii_lowercase c == f) (behind fs cs) [] unlike

-- where something stands behind the front, the letters are the front and those behind it
front_letters : (front cs : List ℕ)
    → (behind front cs ≡ []) ⊎ (letters cs ≡ front ++ letters (behind front cs))
front_letters [] [] = inl refl
front_letters (f ∷ fs) [] = inl refl
front_letters [] (c ∷ cs) =
    elim (cases_Bool (c == 95)) [
      | inl is ↦ elim (front_letters [] cs) [
        | inl none ↦ inl (behind-underscore [] cs c is ∙ none)
        | inr at ↦ inr (letters-underscore c cs is
            ∙ (at ∙ ap letters (sym (behind-underscore [] cs c is))))
      ]
      | inr other ↦ inr (ap letters (sym (behind-none cs c other)))
    ]
front_letters (f ∷ fs) (c ∷ cs) =
    elim (cases_Bool (c == 95)) [
      | inl is ↦ elim (front_letters (f ∷ fs) cs) [
        | inl none ↦ inl (behind-underscore (f ∷ fs) cs c is ∙ none)
        | inr at ↦ inr (letters-underscore c cs is
            ∙ (at ∙ ap (λ bs. (f ∷ fs) ++ letters bs)
            (sym (behind-underscore (f ∷ fs) cs c is))))
      ]
      | inr other ↦ elim (cases_Bool (to_ascii_lowercase c == f)) [
        | inr unlike ↦ inl (behind-unlike f fs cs c other unlike)
        | inl like ↦ elim (front_letters fs cs) [
          | inl none ↦ inl (behind-like f fs cs c other like ∙ none)
          | inr at ↦ inr (letters-letter c cs other
              ∙ (ap₂ (λ b bs. b ∷ bs) (eqb-true (to_ascii_lowercase c) f like) at
              ∙ ap (λ bs. (f ∷ fs) ++ letters bs)
              (sym (behind-like f fs cs c other like))))
        ]
      ]
    ]

-- ---- characters stay characters

scalar-lower : (c : ℕ) → scalar c ≡ true → scalar (to_ascii_lowercase c) ≡ true
scalar-lower c h =
    elim (cases_lt c 128) [
      | inl low ↦ low_scalar (to_ascii_lowercase c) (omega (arith, lowercase_ascii c low))
      | inr high ↦ ap scalar ((lowercase_is c).2 (omega arith)) ∙ h
    ]

scalars-lower : (cs : List ℕ) → scalars cs ≡ true → scalars (lower cs) ≡ true
scalars-lower [] h = refl
scalars-lower (c ∷ cs) h =
    let parts = and_parts (scalar c) (scalars cs) h in
    and_from (scalar (to_ascii_lowercase c)) (scalars (lower cs)) (scalar-lower c parts.0)
    (scalars-lower cs parts.1)

scalars-behind : (front cs : List ℕ) → scalars cs ≡ true → scalars (behind front cs) ≡ true
scalars-behind [] [] h = refl
scalars-behind (f ∷ fs) [] h = refl
scalars-behind [] (c ∷ cs) h =
    elim (cases_Bool (c == 95)) [
      | inl is ↦ ap scalars (behind-underscore [] cs c is)
          ∙ scalars-behind [] cs (and_parts (scalar c) (scalars cs) h).1
      | inr other ↦ ap scalars (behind-none cs c other) ∙ h
    ]
scalars-behind (f ∷ fs) (c ∷ cs) h =
    let rest = (and_parts (scalar c) (scalars cs) h).1 in
    elim (cases_Bool (c == 95)) [
      | inl is ↦ ap scalars (behind-underscore (f ∷ fs) cs c is)
          ∙ scalars-behind (f ∷ fs) cs rest
      | inr other ↦ elim (cases_Bool (to_ascii_lowercase c == f)) [
        | inl like ↦ ap scalars (behind-like f fs cs c other like)
            ∙ scalars-behind fs cs rest
        | inr unlike ↦ ap scalars (behind-unlike f fs cs c other unlike)
      ]
    ]

-- ---- the key of how a name is compared

letters-words : (cs : List ℕ) → scalars cs ≡ true
    → letters (words cs) ≡ encode_utf8_all (letters cs)
letters-words cs are =
    ap (λ bs. letters (encode_utf8_all (joined_words true bs)))
    (chars-encodes (lower cs) (scalars-lower cs are))
    ∙ (letters-encodes (joined_words true (lower cs))
    ∙ ap encode_utf8_all (letters-joined true (lower cs) ∙ letters-lower cs))

words_key : (key : ℕ) (cs : List ℕ) → scalars cs ≡ true
    → fold squeezed_mixed key (words cs) ≡ fold mixed key (encode_utf8_all (letters cs))
words_key key cs are = folded (words cs) key ∙ ap (fold mixed key) (letters-words cs are)

-- the key of the enum's name with how the name is compared behind it is one of the two keys
one_key : (front cs rest : List ℕ) → scalars cs ≡ true → scalars rest ≡ true
    → (rest ≡ []) ⊎ (letters cs ≡ front ++ letters rest)
    → (fold squeezed_mixed (text_key (encode_utf8_all front)) (words (or_else rest cs))
    ≡ text_key (encode_utf8_all (letters cs)))
    ⊎ (fold squeezed_mixed (text_key (encode_utf8_all front)) (words (or_else rest cs))
    ≡ fold mixed (text_key (encode_utf8_all front)) (encode_utf8_all (letters cs)))
one_key front cs [] are rest_are at = inr (words_key (text_key (encode_utf8_all front)) cs are)
one_key front cs (r ∷ rs) are rest_are (inl none) =
    absurd (omega (arith, ap length none))
one_key front cs (r ∷ rs) are rest_are (inr at) =
    let text = encode_utf8_all front in
    let rest = encode_utf8_all (letters (r ∷ rs)) in
    inl (words_key (text_key text) (r ∷ rs) rest_are
    ∙ (sym (fold-append mixed no_text text rest)
    ∙ ap text_key (sym (encodes-append front (letters (r ∷ rs)))
    ∙ ap encode_utf8_all (sym at))))

-- ---- one of two keys each

module _ {X : Type 0} (key a b : X → ℕ) where
  abbrev Either : X → Type 0
  Either x = (key x ≡ a x) ⊎ (key x ≡ b x)

  abbrev both : X → List ℕ
  both x = a x ∷ b x ∷ []

  each_key : (P : ℕ → Type 0) (xs : List X) → AllByRecursion Either xs
      → AllByRecursion P (flat_map both xs) → AllByRecursion P (map key xs)
  each_key P [] one h = tt
  each_key P (x ∷ xs) one h = (
    elim one.0 [
      | inl is ↦ subst P (sym is) h.0
      | inr is ↦ subst P (sym is) h.1.0
    ],
    each_key P xs one.1 h.1.1,
  )

  -- where all of both differ, so do those
  one_of_two : (xs : List X) → AllByRecursion Either xs → IsDistinct eqb (flat_map both xs)
      → IsDistinct eqb (map key xs)
  one_of_two [] one h = h
  one_of_two (x ∷ xs) one h =
      let all = flat_map both xs in
      let tail = IsDistinct-tail eqb (a x) (b x ∷ all) h in
      let differs = λ (k : ℕ). AllByRecursion (λ y. eqb k y ≡ false) (map key xs) in
      IsDistinct-cons eqb (key x) (map key xs)
      (elim one.0 [
        | inl is ↦ subst differs (sym is) (each_key (λ y. eqb (a x) y ≡ false) xs one.1
            (IsDistinct-head eqb (a x) (b x ∷ all) h).1)
        | inr is ↦ subst differs (sym is) (each_key (λ y. eqb (b x) y ≡ false) xs one.1
            (IsDistinct-head eqb (b x) all tail))
      ])
      (one_of_two xs one.1 (IsDistinct-tail eqb (b x) all tail))

twice : {X Y : Type 0} (f : Y → ℕ) (g : X → Y) (xs : List X)
    → map (λ (x : X). f (g x)) xs ≡ map f (map g xs)
twice f g [] = refl
twice f g (x ∷ xs) = ap (λ ks. f (g x) ∷ ks) (twice f g xs)

-- ---- the values of an enum

-- the two keys of one value more
pub two_more : (front : ℕ) (v : EnumValueDescriptor) (name : Text) (old mid new : List ℕ)
    (one two : ℕ) → mid ≡ old ++ one ∷ [] → new ≡ mid ++ two ∷ []
    → one ≡ text_key (encode_utf8_all (squeezed name))
    → two ≡ fold mixed front (encode_utf8_all (squeezed name)) → name ≡ v.name
    → new ≡ old ++ spelling_keys front v
two_more front v name old mid new one two first second one_is two_is is =
    second
    ∙ ap (λ ks. ks ++ two ∷ []) first
    ∙ append_assoc old (one ∷ []) (two ∷ [])
    ∙ ap₂ (λ a b. old ++ a ∷ b ∷ [])
    (one_is ∙ ap (λ n. text_key (encode_utf8_all (squeezed n))) is)
    (two_is ∙ ap (λ n. fold mixed front (encode_utf8_all (squeezed n))) is)

module _ (name : Text) where
  abbrev front_key : ℕ
  front_key = text_key (encode_utf8_all (squeezed name))

  abbrev compared_key : EnumValueDescriptor → ℕ
  compared_key v = fold squeezed_mixed front_key (spelled_value (squeezed name) v).key

  abbrev own_key : EnumValueDescriptor → ℕ
  own_key v = text_key (encode_utf8_all (squeezed v.name))

  abbrev longer_key : EnumValueDescriptor → ℕ
  longer_key v = fold mixed front_key (encode_utf8_all (squeezed v.name))

  value_key : (v : EnumValueDescriptor) → IsUtf8 v.name
      → (compared_key v ≡ own_key v) ⊎ (compared_key v ≡ longer_key v)
  value_key v utf8 =
      let cs = chars v.name in
      let are = scalars-chars v.name utf8 in
      one_key (squeezed name) cs (behind (squeezed name) cs) are
      (scalars-behind (squeezed name) cs are)
      (front_letters (squeezed name) cs)

  value_each : (vs : List EnumValueDescriptor)
      → All (λ (v : EnumValueDescriptor). IsUtf8 v.name) vs
      → AllByRecursion (λ (v : EnumValueDescriptor). (compared_key v ≡ own_key v)
      ⊎ (compared_key v ≡ longer_key v)) vs
  value_each [] texts = tt
  value_each (v ∷ vs) texts = (
    value_key v (texts 0 v (omega arith)),
    value_each vs (λ k d lt. texts (suc k) d (omega arith)),
  )

  abbrev claim_front_key : Claim → ℕ
  claim_front_key c = fold squeezed_mixed front_key c.thing.name

  by_compared : (c d : Claim) → c.thing ≡ d.thing → claim_front_key c ≡ claim_front_key d
  by_compared c d e = ap (λ (t : Thing). fold squeezed_mixed front_key t.name) e

  -- Where the two keys of each value differ from all others, nothing is told of the values.
  pub values_apart : (rules : Rules) (told : List Breach) (file scope : Text)
      (vs : List EnumValueDescriptor) (keys : List ℕ)
      → keys ≡ flat_map (spelling_keys front_key) vs
      → All (λ (v : EnumValueDescriptor). IsUtf8 v.name) vs → IsDistinct eqb keys
      → told ≡ told ++ conflicts rules []
      (map (spelled_claim file scope) (map (spelled_value (squeezed name)) vs))
  values_apart rules told file scope vs keys is texts apart =
      nothing_claimed claim_front_key by_compared rules told (spelled_claim file scope)
      (map (spelled_value (squeezed name)) vs) (map compared_key vs)
      (twice (λ (s : Spelled). fold squeezed_mixed front_key s.key)
      (spelled_value (squeezed name)) vs)
      (one_of_two compared_key own_key longer_key vs (value_each vs texts)
      (subst (IsDistinct eqb) is apart))
