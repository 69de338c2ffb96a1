-- Counts by paths: what one more at a path changes.
use Rattle.std.proofs.Common.{◌≡◌, ℕ, Bool, true, false, List, refl, sym, ap, subst, ◌∙◌}
use Rattle.std.proofs.Common.{Option, Some, ⊎_elim, bytes_eq, unwrap_or, if◌then◌else◌, Vec}
use Rattle.std.specs.BTreeMap.{UpdatesBy, get_by}
use Rattle.std.specs.Cmp.{eq_by_cmp_equiv}
use Rattle.std.specs.Cmp.Lexicographic.{slice_cmp, bytes_decides, nat_list_cmp_total}
use Rattle.std.specs.Cmp.Lexicographic.{nat_list_eq_equiv, texts_ties}
use Rattle.std.specs.Global.{Global}
use Rattle.std.specs.Map.{KeepsOthers, IsKeyTest, AreApart, lookup}
use Rattle.std.specs.Ordering.{is_eq, nat_cmp}
use Rattle.std.proofs.lemmas.Bool.{cases_Bool, cond-true, cond-false}
use Rattle.protobuf_parse_source_info.specs.Parts.{next}
use Rattle.protobuf_parse_source_info.specs.Walks.{Path}
use Rattle.protobuf_parse_option_paths.specs.InnerViews.{Counts, counted}

-- what a map has at a path
abbrev at : Counts → Path → Option ℕ
at counts p = get_by (λ (k : Vec ℕ Global). slice_cmp nat_cmp p k.items) counts

apart : (bs cs ks : List ℕ) → bytes_eq bs cs ≡ false → is_eq (slice_cmp nat_cmp bs ks) ≡ true
    → is_eq (slice_cmp nat_cmp cs ks) ≡ false
apart bs cs ks n y =
    sym (texts_ties cs ks) ∙ nat_list_eq_equiv.symm cs ks
    ∙ sym (nat_list_eq_equiv.congr bs ks cs (texts_ties bs ks ∙ y)) ∙ n

others : {K X : Type 0} (eq : K → K → Bool) (test : K → Bool) (old new : List (K × X))
    → KeepsOthers eq test old new → (other : K → Bool) → IsKeyTest eq other → AreApart test other
    → lookup other new ≡ lookup other old
unfolding KeepsOthers
others eq test old new h = h

-- at each path, the value is there or as it was
pub at_each : (p : Path) (old new : Counts) (w : Option ℕ)
    → UpdatesBy (λ (x y : Vec ℕ Global). slice_cmp nat_cmp x.items y.items)
    (λ (k : Vec ℕ Global). slice_cmp nat_cmp p k.items) old new w
    → (q : Path) → at new q ≡ (if bytes_eq p q then w else at old q)
at_each p old new w h q =
    ⊎_elim
    (λ y. subst (λ (l : Path). at new l ≡ w) ((bytes_decides p q).0 y) h.1
    ∙ sym (cond-true (bytes_eq p q) w (at old q) y))
    (λ n. others _ _ _ _ h.3 _
    (λ x y. (eq_by_cmp_equiv nat_list_cmp_total).congr q x.items y.items)
    (λ k. apart p q k.items n)
    ∙ sym (cond-false (bytes_eq p q) w (at old q) n))
    (cases_Bool (bytes_eq p q))

by_test : (b : Bool) (v : ℕ) (o : Option ℕ) (old : ℕ) → (b ≡ true → v ≡ next old)
    → unwrap_or o 0 ≡ old
    → unwrap_or (if b then Some v else o) 0 ≡ (if b then next old else old)
by_test true v o old here is = here refl
by_test false v o old here is = is

-- one more at a path, under a key that has it
pub counts_one : (p : Path) (key : Vec ℕ Global) (v : ℕ) (old new : Counts) → key.items ≡ p
    → v ≡ next (counted old p)
    → UpdatesBy (λ (x y : Vec ℕ Global). slice_cmp nat_cmp x.items y.items)
    (λ (k : Vec ℕ Global). slice_cmp nat_cmp key.items k.items) old new (Some v)
    → (q : Path)
    → counted new q ≡ (if bytes_eq p q then next (counted old q) else counted old q)
counts_one p key v old new is one h q =
    ap (λ (o : Option ℕ). unwrap_or o 0)
    (at_each key.items old new (Some v) h q
    ∙ ap (λ (l : Path). if bytes_eq l q then Some v else at old q) is)
    ∙ by_test (bytes_eq p q) v (at old q) (counted old q)
    (λ y. one ∙ ap (λ (l : Path). next (counted old l)) ((bytes_decides p q).0 y)) refl
