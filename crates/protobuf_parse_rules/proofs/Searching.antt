-- Texts or numbers in order, of which one is looked up.
use Rattle.std.proofs.Common.{◌≡◌, ℕ, zero, suc, ◌≤◌, ◌<◌, Bool, true, false, ◌||◌, List, [], ◌∷◌}
use Rattle.std.proofs.Common.{refl, sym, ap, ◌∙◌, arith, length, get_or, IsSorted, Result, Ok, Err}
use Rattle.std.specs.Prelude.{bytes_eq, nat_eq, IsPermutation}
use Rattle.std.specs.Borrow.{Bor}
use Rattle.std.specs.List.{list_any}
use Rattle.std.specs.List.Sorted.{IsBinarySearchResult}
use Rattle.std.specs.Ordering.{is_eq, nat_cmp}
use Rattle.std.specs.Result.{is_ok, MatchResult}
use Rattle.std.proofs.lemmas.Bool.Decides.{nat_tests}
use Rattle.std.proofs.lemmas.Cmp.{nat_cmp_total, nat_list_cmp_total}
use Rattle.std.proofs.lemmas.List.Sorted.{list_any-IsPermutation, searchable_from_sorted}
use Rattle.std.proofs.lemmas.Map.Text.{is_eq-slice_cmp}
use Rattle.protobuf_parse_model.specs.Descriptors.{Text}
use Rattle.protobuf_parse_rules.specs.Ranges.{is_among}
use Rattle.protobuf_parse_rules.specs.Sets.{text_cmp, texts_of}
use Rattle.protobuf_parse_rules.specs.Wanted.{has_key}

abbrev Words : Type 0
Words = List (Bor (List ℕ))

abbrev is_word : Text → Bor (List ℕ) → Bool
is_word t w = bytes_eq w.now t

any_word : (ws : Words) (t : Text) → is_among t (texts_of ws) ≡ list_any (is_word t) ws
any_word [] t = refl
any_word (w ∷ ws) t = ap (λ b. bytes_eq w.now t || b) (any_word ws t)

or_true : (b : Bool) → (b || true) ≡ true
or_true true = refl
or_true false = refl

somewhere : {X : Type 0} (p : X → Bool) (ws : List X) (i : ℕ) → i < length ws
    → ((d : X) → p (get_or ws i d) ≡ true) → list_any p ws ≡ true
somewhere p [] i lt holds = absurd (omega arith)
somewhere p (w ∷ ws) zero lt holds = ap (λ b. b || list_any p ws) (holds w)
somewhere p (w ∷ ws) (suc i) lt holds =
    ap (λ b. p w || b) (somewhere p ws i (omega arith) holds) ∙ or_true (p w)

nowhere : {X : Type 0} (p : X → Bool) (ws : List X) (i : ℕ)
    → ((k : ℕ) (d : X) → k < i → p (get_or ws k d) ≡ false)
    → ((k : ℕ) (d : X) → i ≤ k → k < length ws → p (get_or ws k d) ≡ false)
    → list_any p ws ≡ false
nowhere p [] i before after = refl
nowhere p (w ∷ ws) zero before after =
    ap (λ b. b || list_any p ws) (after 0 w (omega arith) (omega arith))
    ∙ nowhere p ws zero (λ k d lt. absurd (omega arith))
    (λ k d a b. after (suc k) d (omega arith) (omega arith))
nowhere p (w ∷ ws) (suc i) before after =
    ap (λ b. b || list_any p ws) (before 0 w (omega arith))
    ∙ nowhere p ws i (λ k d lt. before (suc k) d (omega arith))
    (λ k d a b. after (suc k) d (omega arith) (omega arith))

pub searched : (ws : Words) (t : Bor (List ℕ)) (r : Result ℕ ℕ) → IsSorted text_cmp ws
    → MatchResult r (λ i. i < length ws) (λ i. i ≤ length ws)
    → IsBinarySearchResult (λ w. text_cmp w t) ws r
    → is_ok r ≡ is_among t.now (texts_of ws)
searched ws t (Ok i) up bound found =
    sym (any_word ws t.now ∙ somewhere (is_word t.now) ws i bound
    (λ d. sym (is_eq-slice_cmp (get_or ws i d).now t.now) ∙ ap is_eq (found d)))
searched ws t (Err i) up bound found =
    let point = found (searchable_from_sorted nat_list_cmp_total (λ (w : Bor (List ℕ)). w.now) ws
    t.now up) in
    sym (any_word ws t.now ∙ nowhere (is_word t.now) ws i
    (λ k d lt. sym (is_eq-slice_cmp (get_or ws k d).now t.now)
    ∙ ap is_eq (point.0 k d (omega arith) lt))
    (λ k d a b. sym (is_eq-slice_cmp (get_or ws k d).now t.now) ∙ ap is_eq (point.1 k d a b)))

-- the order doesn't count
pub same_texts : (ws vs : Words) → IsPermutation ws vs → (t : Text)
    → is_among t (texts_of vs) ≡ is_among t (texts_of ws)
same_texts ws vs p t = any_word vs t ∙ sym (list_any-IsPermutation (is_word t) ws vs p)
    ∙ sym (any_word ws t)

-- ---- numbers

is_number : (a b : ℕ) → is_eq (nat_cmp a b) ≡ nat_eq b a
is_number a b = grind (arith, nat_tests)

pub searched_number : (xs : List ℕ) (n : ℕ) (r : Result ℕ ℕ) → IsSorted nat_cmp xs
    → MatchResult r (λ i. i < length xs) (λ i. i ≤ length xs)
    → IsBinarySearchResult (λ x. nat_cmp x n) xs r → is_ok r ≡ has_key xs n
searched_number xs n (Ok i) up bound found =
    sym (somewhere (nat_eq n) xs i bound
    (λ d. sym (is_number (get_or xs i d) n) ∙ ap is_eq (found d)))
searched_number xs n (Err i) up bound found =
    let point = found (searchable_from_sorted nat_cmp_total (λ (x : ℕ). x) xs n up) in
    sym (nowhere (nat_eq n) xs i
    (λ k d lt. sym (is_number (get_or xs k d) n) ∙ ap is_eq (point.0 k d (omega arith) lt))
    (λ k d a b. sym (is_number (get_or xs k d) n) ∙ ap is_eq (point.1 k d a b)))
