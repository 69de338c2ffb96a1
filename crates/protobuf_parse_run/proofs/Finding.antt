-- The numbers of loaded files by their paths.
use Rattle.std.proofs.Common.{◌≡◌, ℕ, suc, false, inl, inr, List, [], ◌∷◌, ◌++◌, Option}
use Rattle.std.proofs.Common.{Some, None, refl, sym, ◌∙◌, ap, subst, length, ◌<◌, ◌^◌, arith}
use Rattle.std.specs.Prelude.{bytes_eq, String, string_bytes, slice_get, option_map, unwrap_or}
use Rattle.std.specs.Cmp.Lexicographic.{slice_cmp}
use Rattle.std.specs.Ordering.{nat_cmp}
use Rattle.std.specs.String.{string_cmp}
use Rattle.std.specs.Global.{Global}
use Rattle.std.specs.BTreeMap.{BTreeMap, UpdatesBy, get_by_text}
use Rattle.std.proofs.lemmas.List.{length-append}
use Rattle.std.proofs.lemmas.Map.Text.{btree_map_updates_text}
use Rattle.protobuf_parse_model.specs.Descriptors.{Text}
use Rattle.protobuf_parse_run.specs.Loading.{LoadedEntry, file_at}
use Rattle.protobuf_parse_run.specs.Loaded.{HasNumbers, LoadedList, number_in}
use Rattle.protobuf_parse_run.proofs.Keeping.{text-true, text-same, bool_cases, some_same}
use Rattle.protobuf_parse_run.proofs.Keeping.{none_some}
use Rattle.protobuf_parse_run.proofs.Keeping.{never_both, not_true}

-- ** a file that is found

next-some : (o : Option ℕ) (n : ℕ) → option_map suc o ≡ Some n
    → (m : ℕ) × (o ≡ Some m) × (n ≡ suc m)
next-some None n h = absurd (none_some n h)
next-some (Some m) n h = (m, refl, sym (some_same (suc m) n h))

next-none : (o : Option ℕ) → option_map suc o ≡ None → o ≡ None
next-none None h = refl
next-none (Some m) h = absurd (none_some (suc m) (sym h))

pub unnumbered : (p : Text) (es : List LoadedEntry) → number_in p es ≡ None → file_at p es ≡ None
unnumbered p [] h = refl
unnumbered p (x ∷ es) h =
    elim (bool_cases (bytes_eq p (string_bytes x.0))) [
      | inl w ↦ absurd (none_some 0 (sym (rw w at h)))
      | inr w ↦
          let z : option_map suc (number_in p es) ≡ None = (rw w at h) in
          rw w (unnumbered p es (next-none (number_in p es) z))
    ]

pub numbered : (p : Text) (es : List LoadedEntry) (n : ℕ) → number_in p es ≡ Some n
    → (e : LoadedEntry) × (slice_get es n ≡ Some e) × (file_at p es ≡ Some e.1)
    × (string_bytes e.0 ≡ p)
numbered p [] n h = absurd (none_some n h)
numbered p (x ∷ es) n h =
    elim (bool_cases (bytes_eq p (string_bytes x.0))) [
      | inl w ↦
          let z : Some 0 ≡ Some n = (rw w at h) in
          let first : slice_get (x ∷ es) n ≡ Some x =
          subst (λ (k : ℕ). slice_get (x ∷ es) k ≡ Some x) (some_same 0 n z) refl in
          (x, first, rw w refl, sym (text-true p (string_bytes x.0) w))
      | inr w ↦
          let z : option_map suc (number_in p es) ≡ Some n = (rw w at h) in
          let m = next-some (number_in p es) n z in
          let r = numbered p es m.0 m.1 in
          let there : slice_get (x ∷ es) n ≡ Some r.0 =
          subst (λ (k : ℕ). slice_get (x ∷ es) k ≡ Some r.0) (sym m.2) r.1 in
          (r.0, there, rw w r.2, r.3)
    ]

pub number-kept : (p : Text) (es : List LoadedEntry) (n : ℕ) → number_in p es ≡ Some n
    → slice_get es n ≡ None → ⊥
number-kept p es n h gone = let r = numbered p es n h in none_some r.0 (sym gone ∙ r.1)

-- what the map says of a path
pub number-told : (numbers : BTreeMap (String Global) ℕ) (es : List LoadedEntry) (seen : LoadedList)
    (p : Text) (o : Option ℕ)
    → HasNumbers numbers es → record { entries = es } ≡ seen → o ≡ get_by_text numbers p
    → number_in p seen.entries ≡ o
number-told numbers es seen p o has is told =
    ap (λ (l : LoadedList). number_in p l.entries) (sym is) ∙ sym (has p) ∙ sym told

-- ** a file more

next-or : (o : Option ℕ) (n : ℕ)
    → option_map suc (Some (unwrap_or o n)) ≡ Some (unwrap_or (option_map suc o) (suc n))
next-or None n = refl
next-or (Some m) n = refl

number-last : (p : Text) (es : List LoadedEntry) (e : LoadedEntry) → string_bytes e.0 ≡ p
    → number_in p (es ++ e ∷ []) ≡ Some (unwrap_or (number_in p es) (length es))
number-last p [] e is = rw (is, text-same p) refl
number-last p (x ∷ es) e is =
    elim (bool_cases (bytes_eq p (string_bytes x.0))) [
      | inl w ↦ rw w refl
      | inr w ↦ rw w
          (ap (option_map suc) (number-last p es e is) ∙ next-or (number_in p es) (length es))
    ]

number-other : (p : Text) (es : List LoadedEntry) (e : LoadedEntry)
    → bytes_eq p (string_bytes e.0) ≡ false
    → number_in p (es ++ e ∷ []) ≡ number_in p es
number-other p [] e off = rw off refl
number-other p (x ∷ es) e off =
    elim (bool_cases (bytes_eq p (string_bytes x.0))) [
      | inl w ↦ rw w refl
      | inr w ↦ rw w (ap (option_map suc) (number-other p es e off))
    ]

bytes_eq-apart : (p q : Text) → bytes_eq p q ≡ false → bytes_eq q p ≡ false
bytes_eq-apart p q h =
    not_true (bytes_eq q p) (λ y. never_both (bytes_eq p q)
    (rw (text-true q p y) (text-same p)) h)

module _ (old new : BTreeMap (String Global) ℕ) (es : List LoadedEntry) (e : LoadedEntry)
    (key : String Global) (n : ℕ) where
  -- a map that has the numbers, once the path of the next file has its first file's
  pub numbers-push : HasNumbers old es → string_bytes key ≡ string_bytes e.0
      → n ≡ unwrap_or (get_by_text old (string_bytes key)) (length es)
      → UpdatesBy string_cmp (λ k. slice_cmp nat_cmp (string_bytes key) (string_bytes k)) old new
      (Some n)
      → HasNumbers new (es ++ e ∷ [])
  numbers-push has same is updates p =
      btree_map_updates_text (string_bytes key) old new (Some n) updates p
      ∙ elim (bool_cases (bytes_eq (string_bytes key) p)) [
        | inl w ↦
            let q = text-true (string_bytes key) p w in
            let z : n ≡ unwrap_or (number_in p es) (length es) =
            is ∙ ap (λ (o : Option ℕ). unwrap_or o (length es)) (has (string_bytes key)
            ∙ ap (λ (t : Text). number_in t es) q) in
            rw w (ap Some z ∙ sym (number-last p es e (sym same ∙ q)))
        | inr w ↦
            let off : bytes_eq p (string_bytes e.0) ≡ false =
            rw (← same) (bytes_eq-apart (string_bytes key) p w) in
            rw w (has p ∙ sym (number-other p es e off))
      ]

-- there is room for one more, unless there are as many as may be
pub few-push : (es : List LoadedEntry) (e : LoadedEntry) (n : ℕ) (new : List LoadedEntry)
    → n ≡ length es → n < 2 ^ 31 → (n ≡ 2147483647 → ⊥) → new ≡ es ++ e ∷ []
    → length new < 2 ^ 31
few-push es e n new count small more is =
    let longer = length-append es (e ∷ []) in
    rw is (omega (arith, count, small, more, longer))
