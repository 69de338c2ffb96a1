-- The members of a list by ascending numbers, as those one after another whose number is among
-- these.
use Rattle.std.proofs.Common.{◌≡◌, ℕ, suc, List, [], ◌∷◌, ◌++◌, true, false, if◌then◌else◌, None}
use Rattle.std.proofs.Common.{Some, refl, sym, ap, ◌∙◌, ◌+◌, ◌-◌, ◌<◌, ◌≤◌, ◌||◌, length, get_or}
use Rattle.std.proofs.Common.{subst, arith, inl, inr, nat_eq, slice_get, zero-add}
use Rattle.std.specs.Prelude.{option_to_list}
use Rattle.std.specs.List.{list_any}
use Rattle.std.specs.List.Sorted.{IsStrictlyIncreasing}
use Rattle.std.proofs.lemmas.Bool.{cases_eq, eq-eqb, ne_eqb}
use Rattle.protobuf_parse_model.specs.Tables.{picked}

-- the numbers rise, from n on
abbrev pub Rises : ℕ → List ℕ → Type 0
Rises n [] = Unit {0}
Rises n (r ∷ rs) = (n ≤ r) × Rises (suc r) rs

pub rises : (n : ℕ) (rs : List ℕ) → IsStrictlyIncreasing rs → (0 < length rs → n ≤ get_or rs 0 0)
    → Rises n rs
rises n [] up low = tt
rises n (r ∷ rs) up low = (low (omega arith), rises (suc r) rs later next)
  where
    later : IsStrictlyIncreasing rs
    later k lt =
        let e : suc k + 1 ≡ suc (k + 1) = omega arith in
        let g = up (suc k) (omega (arith, lt)) in
        subst (λ (j : ℕ). get_or rs k 0 < get_or (r ∷ rs) j 0) e g

    next : 0 < length rs → suc r ≤ get_or rs 0 0
    next some = omega (arith, up 0 (omega (arith, some)))

-- a number below them all is none of them
absent : (n : ℕ) (rs : List ℕ) → Rises (suc n) rs → list_any (nat_eq n) rs ≡ false
absent n [] h = refl
absent n (r ∷ rs) h =
    ap (λ b. b || list_any (nat_eq n) rs) (ne_eqb n r (λ e. absurd (omega (arith, h.0))))
    ∙ absent n rs (lower (suc n) (suc r) rs (omega (arith, h.0)) h.1)
  where
    lower : (m k : ℕ) (xs : List ℕ) → m ≤ k → Rises k xs → Rises m xs
    lower m k [] le g = tt
    lower m k (x ∷ xs) le g = (omega (arith, g.0), g.1)

none_picked : {T : Type 0} (files : List T) (n : ℕ) (rs : List ℕ)
    → ((k : ℕ) → n ≤ k → slice_get files k ≡ None) → Rises n rs → picked files rs ≡ []
none_picked files n [] none h = refl
none_picked files n (r ∷ rs) none h =
    ap (λ o. option_to_list o ++ picked files rs) (none r h.0)
    ∙ none_picked files (suc r) rs (λ k le. none k (omega (arith, h.0))) h.1

-- those of the list, of which the first has the number n, whose number is among these
abbrev pub among : {T : Type 0} → List ℕ → ℕ → List T → List T
among numbers n [] = []
among numbers n (t ∷ ts) = (if list_any (nat_eq n) numbers then t ∷ [] else [])
    ++ among numbers (suc n) ts

module _ {T : Type 0} (files : List T) (numbers : List ℕ) where
  -- the files from the number n on, and those of the numbers that are n or more
  record Rest (ts : List T) (n : ℕ) (rs : List ℕ) : Type 0 where
    stand : (i : ℕ) → slice_get files (n + i) ≡ slice_get ts i
    same : (k : ℕ) → n ≤ k → list_any (nat_eq k) numbers ≡ list_any (nat_eq k) rs
    rise : Rises n rs

  stand-next : (t : T) (ts : List T) (n : ℕ)
      → ((i : ℕ) → slice_get files (n + i) ≡ slice_get (t ∷ ts) i) → (i : ℕ)
      → slice_get files (suc n + i) ≡ slice_get ts i
  stand-next t ts n stand i = let e : suc n + i ≡ n + suc i = omega arith in ap (slice_get files) e
      ∙ stand (suc i)

  skip : (t : T) (ts : List T) (n : ℕ) (rs : List ℕ) → Rest (t ∷ ts) n rs
      → Rises (suc n) rs → Rest ts (suc n) rs
  skip t ts n rs h rise =
      record {
        stand = stand-next t ts n h.stand;
        same = λ k le. h.same k (omega arith);
        rise =
            rise;
      }

  keep : (t : T) (ts : List T) (n r : ℕ) (rs : List ℕ) → Rest (t ∷ ts) n (r ∷ rs)
      → n ≡ r → Rest ts (suc n) rs
  keep t ts n r rs h e = record {
    stand = stand-next t ts n h.stand;
    same = λ k le. h.same k (omega arith)
        ∙ ap (λ b. b || list_any (nat_eq k) rs) (ne_eqb k r (λ same. absurd (omega arith)));
    rise = subst (λ (j : ℕ). Rises (suc j) rs) (sym e) h.rise.1;
  }

  picks : (ts : List T) (n : ℕ) (rs : List ℕ) → Rest ts n rs
      → among numbers n ts ≡ picked files rs
  picks [] n rs h = sym (none_picked files n rs none h.rise)
    where
      none : (k : ℕ) → n ≤ k → slice_get files k ≡ None
      none k le = let e : k ≡ n + (k - n) = omega arith in ap (slice_get files) e ∙ h.stand (k - n)
  picks (t ∷ ts) n [] h =
      ap (λ b. (if b then t ∷ [] else []) ++ among numbers (suc n) ts) (h.same n (omega arith))
      ∙ picks ts (suc n) [] (skip t ts n [] h tt)
  picks (t ∷ ts) n (r ∷ rs) h =
      elim (cases_eq n r) [
        | inl e ↦ here e (picks ts (suc n) rs (keep t ts n r rs h e))
        | inr ne ↦ let up : Rises
            (suc n) (r ∷ rs) = (omega (arith, ne, h.rise.0), h.rise.1) in
            later up (picks ts (suc n) (r ∷ rs) (skip t ts n (r ∷ rs) h up))
      ]
    where
      here : n ≡ r → among numbers (suc n) ts ≡ picked files rs
          → among numbers n (t ∷ ts) ≡ picked files (r ∷ rs)
      here e more =
          let stands : list_any (nat_eq n) numbers ≡ true = h.same n (omega arith)
          ∙ ap (λ b. b || list_any (nat_eq n) rs) (eq-eqb n r e) in
          let number : r ≡ n + 0 = omega (arith, e) in
          let file : slice_get files r ≡ Some t = ap (slice_get files) number ∙ h.stand 0 in
          ap (λ b. (if b then t ∷ [] else []) ++ among numbers (suc n) ts) stands
          ∙ ap (λ fs. t ∷ fs) more ∙ ap (λ o. option_to_list o ++ picked files rs) (sym file)

      later : Rises (suc n) (r ∷ rs) → among numbers (suc n) ts ≡ picked files (r ∷ rs)
          → among numbers n (t ∷ ts) ≡ picked files (r ∷ rs)
      later up more = ap (λ b. (if b then t ∷ [] else []) ++ among numbers (suc n) ts)
          (h.same n (omega arith) ∙ absent n (r ∷ rs) up) ∙ more

pub picked_among : {T : Type 0} (files : List T) (numbers : List ℕ) → IsStrictlyIncreasing numbers
    → among numbers 0 files ≡ picked files numbers
picked_among files numbers ascends =
    picks files numbers files 0 numbers
    (record {
      stand = λ i. ap (slice_get files) (zero-add i);
      same = λ k le. refl;
      rise =
          rises 0 numbers ascends (λ some. omega arith);
    })
