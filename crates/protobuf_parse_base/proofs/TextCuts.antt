-- What `split_once` and `rsplit_once` give at an ASCII character, in the words of a split list.
use Rattle.std.proofs.Common.{◌≡◌, ◌≢◌, ℕ, ◌<◌, ◌==◌, ◌++◌, List, [], ◌∷◌, Option, None, Some}
use Rattle.std.proofs.Common.{length, get_or, take, drop, Bor, MatchOption, Result, Ok, Err, cond}
use Rattle.std.proofs.Common.{sym, ap, ◌∙◌}
use Rattle.std.proofs.lemmas.Bool.{ne_eqb}
use Rattle.std.proofs.lemmas.List.{get_or_default, take-append-drop}
use Rattle.std.proofs.lemmas.List.Splits.{slice_split_none}
use Rattle.std.proofs.lemmas.Str.Pattern.{IsSplitOnceResult, split_parts, NoCharPasses-char}
use Rattle.std.proofs.lemmas.Str.Pattern.{drop_at_char}
use Rattle.std.specs.List.{slice_split}
use Rattle.std.specs.Result.{IsOk, is_ok}
use Rattle.std.specs.Str.Pattern.{RFindsChar, SplitsAroundMatch}

-- a list with no separator is one part
one_part : (c : ℕ) (xs : List ℕ) → ((i : ℕ) → i < length xs → get_or xs i 0 ≢ c)
    → slice_split (λ b. b == c) xs ≡ xs ∷ []
one_part c xs none = slice_split_none (λ b. b == c) xs
    (λ k d inside. ne_eqb (get_or xs k d) c
    (λ same. none k inside (get_or_default xs k 0 d inside ∙ same)))

-- what stands before and after the first separator
pub split_once-parts : (c : ℕ) (bs : List ℕ) (r : Option (Bor (List ℕ) × Bor (List ℕ)))
    → IsSplitOnceResult c bs r → c < 128
    → MatchOption r (slice_split (λ b. b == c) bs ≡ bs ∷ [])
    (λ x. (bs ≡ x.0.now ++ (c ∷ x.1.now)) × (slice_split (λ b. b == c) x.0.now ≡ x.0.now ∷ []))
split_once-parts c bs None h small = one_part c bs (split_parts c bs None h small)
split_once-parts c bs (Some x) h small =
    let parts = split_parts c bs (Some x) h small in (parts.0, one_part c x.0.now parts.1)

-- what stands before and after the last separator
pub rsplit_once-parts : (c : ℕ) (bs : List ℕ) (r : Option (Bor (List ℕ) × Bor (List ℕ)))
    → MatchOption r (RFindsChar c bs None)
    (λ x. SplitsAroundMatch (RFindsChar c) bs x.0.now x.1.now) → c < 128
    → MatchOption r (slice_split (λ b. b == c) bs ≡ bs ∷ [])
    (λ x. (bs ≡ x.0.now ++ (c ∷ x.1.now)) × (slice_split (λ b. b == c) x.1.now ≡ x.1.now ∷ []))
rsplit_once-parts c bs None h small =
    one_part c bs (λ i inside. NoCharPasses-char c bs i h small inside)
rsplit_once-parts c bs (Some x) h small =
    let cut : drop h.0 bs ≡ c ∷ drop h.1 bs = drop_at_char c bs h.0 h.1 h.2.1 small in
    let whole : bs ≡ take h.0 bs ++ (c ∷ drop h.1 bs) = sym (take-append-drop h.0 bs)
    ∙ ap (λ rest. take h.0 bs ++ rest) cut in
    let after : slice_split (λ b. b == c) (drop h.1 bs) ≡ drop h.1 bs ∷ [] =
    one_part c (drop h.1 bs) (λ i inside. NoCharPasses-char c (drop h.1 bs) i h.2.0 small inside) in
    rw (h.3, h.4) (whole, after)

-- after a `push_str` that cannot fail
pub pushed_whole : {T E : Type 0} (was now ys : List ℕ) (r : Result T E) → IsOk r
    → now ≡ cond (is_ok r) (was ++ ys) was → now ≡ was ++ ys
pushed_whole was now ys (Ok x) h e = e
pushed_whole was now ys (Err x) h e = cc h
