-- What stands beside ascending numbers.
use Rattle.std.proofs.Common.{◌≡◌, ℕ, zero, suc, Bool, Option, Ok, Err, List, [], ◌∷◌, true}
use Rattle.std.proofs.Common.{false, None, refl, sym, ◌<◌}
use Rattle.std.proofs.Common.{◌≤◌, length, get_or, arith, nat_eq, slice_get}
use Rattle.std.specs.List.{list_any}
use Rattle.std.proofs.lemmas.Bool.{eq-eqb, ne_eqb}
use Rattle.std.specs.List.Sorted.{IsBinarySearchResult}
use Rattle.std.specs.Ordering.{nat_cmp}
use Rattle.std.proofs.lemmas.List.Sorted.{searched}
use Rattle.std.proofs.lemmas.Map.Keys.{non_decreasing_from_sorted, sorted_from_strictly_increasing}
use Rattle.protobuf_parse_model.specs.Descriptors.{FileDescriptor}
use Rattle.protobuf_parse_model.proofs.Scopes.{searched-any}
use Rattle.protobuf_parse_model.proofs.Picks.{Rises, rises}
use Rattle.protobuf_parse_options.specs.declared.spots.picked.PickedFiles.{PickedFiles}
use Rattle.protobuf_parse_options.specs.Holding.{files_under}
use Rattle.protobuf_parse_options.specs.HoldingParts.{beside, file_numbered, option_join}

above : (k : ℕ) (ns : List ℕ) (i : ℕ) → Rises k ns → i < length ns → k ≤ get_or ns i 0
above k [] i h lt = absurd (omega arith)
above k (n ∷ ns) zero h lt = h.0
above k (n ∷ ns) (suc i) h lt = let le = above (suc n) ns i h.1 (omega (arith, lt)) in
    omega (arith, le, h.0)

at_position : (k : ℕ) (ns : List ℕ) (fs : List (Option FileDescriptor)) (n i : ℕ) → Rises k ns
    → i < length ns → get_or ns i 0 ≡ n → beside ns fs n ≡ option_join (slice_get fs i)
at_position k [] fs n i h lt e = absurd (omega arith)
at_position k (m ∷ ms) [] n i h lt e = refl
at_position k (m ∷ ms) (f ∷ fs) n zero h lt e = rw (eq-eqb n m (sym e)) refl
at_position k (m ∷ ms) (f ∷ fs) n (suc i) h lt e =
    let le = above (suc m) ms i h.1 (omega (arith, lt)) in
    rw (ne_eqb n m (λ same. absurd (omega (arith, le, e, same))))
    (at_position (suc m) ms fs n i h.1 (omega (arith, lt)) e)

nowhere : (ns : List ℕ) (fs : List (Option FileDescriptor)) (n : ℕ)
    → list_any (nat_eq n) ns ≡ false → beside ns fs n ≡ None
nowhere [] fs n e = refl
nowhere (m ∷ ms) [] n e = refl
nowhere (m ∷ ms) (f ∷ fs) n e = by_test (nowhere ms fs n) (nat_eq n m) refl
  where
    by_test : (list_any (nat_eq n) ms ≡ false → beside ms fs n ≡ None) → (b : Bool)
        → nat_eq n m ≡ b → beside (m ∷ ms) (f ∷ fs) n ≡ None
    by_test rest true h = let z : true ≡ false = (rw h at e) in absurd cc
    by_test rest false h = rw h (rest (rw h at e))

pub beside_at : (p : PickedFiles) (n i : ℕ)
    → IsBinarySearchResult (λ m. nat_cmp m n) p.numbers.now (Ok i)
    → file_numbered p n ≡ option_join (slice_get (files_under p) i)
beside_at p n i is =
    let ns = p.numbers.now in
    let h = searched ns n (Ok i) is (λ i j le lt. non_decreasing_from_sorted ns
    (sorted_from_strictly_increasing ns p.ascends) i j 0 le lt) in
    at_position 0 ns (files_under p) n i (rises 0 ns p.ascends (λ some. omega arith)) h.0 h.1

pub not_beside : (p : PickedFiles) (n i : ℕ)
    → IsBinarySearchResult (λ m. nat_cmp m n) p.numbers.now (Err i) → file_numbered p n ≡ None
not_beside p n i is = nowhere p.numbers.now (files_under p) n
    (sym (searched-any p.numbers.now n (Err i) p.ascends is))
