-- Keys that differ, by the slots that they take.
use Rattle.std.proofs.Common.{◌≡◌, ℕ, ◌+◌, ◌<◌, List, Bool, true, false, length, get_or, set, take}
use Rattle.std.proofs.Common.{sym, ap, ◌∙◌, arith, inl, inr, true≢false, below_more, length-take}
use Rattle.std.proofs.Common.{get_or-take, get_or-set_same, get_or-set_other, ⊎_elim}
use Rattle.std.specs.Prelude.{◌%◌}
use Rattle.std.proofs.Math.Dec.{eqb}
use Rattle.std.proofs.lemmas.Bool.{cases_Bool, cases_eq, eqb-true}

-- the keys at j and k differ
abbrev pub DifferAt : List ℕ → ℕ → ℕ → Type 0
DifferAt keys j k = eqb (get_or keys j 0) (get_or keys k 0) ≡ false

-- each key below n has taken its slot
abbrev pub SlotsTaken : List Bool → List ℕ → ℕ → Type 0
SlotsTaken taken keys n = (j : ℕ) → j < n → get_or taken (get_or keys j 0 % 256) false ≡ true

stays : (taken : List Bool) (a b : ℕ) → a < length taken → get_or taken b false ≡ true
    → get_or (set taken a true) b false ≡ true
stays taken a b inside was =
    ⊎_elim (λ same. ap (λ k. get_or (set taken a true) k false) same
    ∙ get_or-set_same taken a true false inside)
    (λ other. get_or-set_other taken a b true false other ∙ was) (cases_eq b a)

module _ (keys : List ℕ) (i : ℕ) where
  -- The same key before it would have taken its slot.
  pub differ_by_slot : (taken : List Bool) → SlotsTaken taken keys i
      → get_or taken (get_or keys i 0 % 256) false ≡ false → (j : ℕ) → j < i → DifferAt keys j i
  differ_by_slot taken h free j less =
      elim (cases_Bool (eqb (get_or keys j 0) (get_or keys i 0))) [
        | inl same ↦ absurd (true≢false (sym (h j less)
            ∙ ap (λ k. get_or taken (k % 256) false)
            (eqb-true (get_or keys j 0) (get_or keys i 0) same)
            ∙ free))
        | inr other ↦ other
      ]

  pub differ_by_search : ((j d : ℕ) → j < length (take i keys)
      → eqb (get_or (take i keys) j d) (get_or keys i 0) ≡ false)
      → i < length keys → (j : ℕ) → j < i → DifferAt keys j i
  differ_by_search none within j less =
      ap (λ k. eqb k (get_or keys i 0)) (sym (get_or-take i keys j 0 less))
      ∙ none j 0 (omega (arith, length-take i keys))

  pub slots_more : (taken : List Bool) → get_or keys i 0 % 256 < length taken
      → SlotsTaken taken keys i → SlotsTaken (set taken (get_or keys i 0 % 256) true) keys (i + 1)
  slots_more taken inside h =
      let mine = get_or keys i 0 % 256 in
      below_more (λ j. get_or (set taken mine true) (get_or keys j 0 % 256) false ≡ true) i
      (λ j less. stays taken mine (get_or keys j 0 % 256) inside (h j less))
      (get_or-set_same taken mine true false inside)
