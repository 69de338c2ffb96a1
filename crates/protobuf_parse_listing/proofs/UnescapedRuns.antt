-- From the mask of a run of bytes to whether they are unescaped, and from runs to the whole text.
use Rattle.std.proofs.Common.{◌≡◌, ℕ, zero, suc, ◌+◌, ◌*◌, ◌%◌, ◌^◌, ◌≤◌, Bool, true, false}
use Rattle.std.proofs.Common.{not, ◌&&◌, cond, List, [], ◌∷◌, map, length, take, drop, nat_eq}
use Rattle.std.proofs.Common.{Fits, w8}
use Rattle.std.proofs.Common.{refl, sym, ap, ap₂, ◌∙◌, arith}
use Rattle.std.proofs.lemmas.Bool.{agree_below, agree_below_at, and_parts, ne_eqb}
use Rattle.std.proofs.lemmas.List.{length-map, take-append-drop, take-take, take_all, drop-take}
use Rattle.std.proofs.lemmas.List.{length-drop}
use Rattle.std.proofs.lemmas.List.Folds.{list_all-append}
use Rattle.std.proofs.lemmas.Simd.{map-map, mask_l-mod}
use Rattle.std.specs.List.{list_all}
use lib.Lanes.{Each1, mask_l, top}

no_bit : (b : Bool) (m : ℕ) → nat_eq (cond b 1 0 + 2 * m) 0 ≡ (not b && nat_eq m 0)
no_bit true m = ne_eqb (1 + 2 * m) 0 (λ e. omega (arith, e))
no_bit false zero = refl
no_bit false (suc m) = ne_eqb (0 + 2 * suc m) 0 (λ e. omega (arith, e))
    ∙ sym (ne_eqb (suc m) 0 (λ e. omega (arith, e)))

empty_mask : (p : ℕ → Bool) (v : List ℕ)
    → nat_eq (mask_l (map p v)) 0 ≡ list_all (λ x. not (p x)) v
empty_mask p [] = refl
empty_mask p (x ∷ xs) = no_bit (p x) (mask_l (map p xs))
    ∙ ap (λ b. not (p x) && b) (empty_mask p xs)

all_agree : (p q : ℕ → Bool) (v : List ℕ) → Each1 (Fits w8) v → agree_below p q 256 ≡ true
    → list_all p v ≡ list_all q v
all_agree p q [] fits all = refl
all_agree p q (x ∷ xs) fits all =
    ap₂ (λ b c. b && c) (agree_below_at p q 256 x all fits.0.fits) (all_agree p q xs fits.1 all)

-- no lane stops just where each byte passes the test
pub run_is : (q : ℕ → Bool) (f : ℕ → ℕ) (v : List ℕ) {z : List ℕ} → length v ≤ 64
    → Each1 (Fits w8) v → z ≡ map f v → agree_below (λ x. not (top 7 (f x))) q 256 ≡ true
    → nat_eq (mask_l (map (top 7) z) % 2 ^ 64) 0 ≡ list_all q v
run_is q f v few fits lanes all =
    let stops : ℕ → Bool = λ x. top 7 (f x) in
    let mask = ap (λ l. mask_l l % 2 ^ 64) (ap (map (top 7)) lanes ∙ map-map (top 7) f v)
    ∙ mask_l-mod (map stops v) 64 (omega (arith, length-map v stops, few)) in
    ap (λ m. nat_eq m 0) mask ∙ empty_mask stops v
    ∙ all_agree (λ x. not (stops x)) q v fits all

and_not : (b : Bool) → (b && false) ≡ false
and_not true = refl
and_not false = refl

module _ (q : ℕ → Bool) (z : List ℕ) where
  cut : (at : ℕ) → list_all q z ≡ (list_all q (take at z) && list_all q (drop at z))
  cut at = ap (list_all q) (sym (take-append-drop at z))
      ∙ list_all-append q (take at z) (drop at z)

  -- of the bytes before an index too
  cut_of : (at last : ℕ) → last ≤ at → list_all q (take at z)
      ≡ (list_all q (take last z) && list_all q (drop last (take at z)))
  cut_of at last le = ap (list_all q) (sym (take-append-drop last (take at z)))
      ∙ list_all-append q (take last (take at z)) (drop last (take at z))
      ∙ ap (λ xs. list_all q xs && list_all q (drop last (take at z))) (take-take last at z le)

  -- one run more
  pub longer : (at n : ℕ)
      → list_all q (take (at + n) z) ≡ (list_all q (take at z) && list_all q (take n (drop at z)))
  longer at n = cut_of (at + n) at (omega arith)
      ∙ ap (λ xs. list_all q (take at z) && list_all q xs) (drop-take at n z)

  -- a run with another byte
  pub broken : (at n : ℕ) → list_all q (take n (drop at z)) ≡ false → list_all q z ≡ false
  broken at n fails =
      let here = longer at n ∙ ap (λ b. list_all q (take at z) && b) fails ∙ and_not _ in
      cut (at + n) ∙ ap (λ b. b && list_all q (drop (at + n) z)) here

  -- behind bytes that pass, the last n tell
  pub whole : (at n last : ℕ) → last + n ≡ length z → last ≤ at → list_all q (take at z) ≡ true
      → list_all q z ≡ list_all q (take n (drop last z))
  whole at n last long le passed =
      let front = (and_parts _ _ (sym (cut_of at last le) ∙ passed)).0 in
      cut last ∙ ap (λ b. b && list_all q (drop last z)) front
      ∙ ap (list_all q) (sym (take_all n (drop last z) (omega (arith, long, length-drop last z))))
