-- The first of several files that have one path.
use Rattle.std.proofs.Common.{◌≡◌, ◌∙◌, ap, sym, subst, refl, ℕ, ◌++◌, Bool, true, false, cond, List, [], ◌∷◌, Bor, option_map}
use Rattle.std.specs.Prelude.{Option, Some, None, is_some, bytes_eq}
use Rattle.std.specs.BTreeMap.{BTreeMap, UpdatesBy}
use Rattle.std.specs.Ordering.{nat_cmp, is_eq}
use Rattle.std.specs.Cmp.Lexicographic.{slice_cmp}
use Rattle.std.proofs.lemmas.Map.Text.{is_eq-slice_cmp}
use Rattle.std.proofs.lemmas.Slice.Eq.{bytes_eq-Decides}
use Rattle.protobuf_parse_c.specs.Handed.{FileBytes, content_in}
use Rattle.protobuf_parse_c.specs.ByPath.{content_at}

abbrev either : Option (List ℕ) → Option (List ℕ) → Option (List ℕ)
either (Some c) o = Some c
either None o = o

either_none : (o : Option (List ℕ)) → either o None ≡ o
either_none (Some c) = refl
either_none None = refl

push_step : (b : Bool) (c : List ℕ) (o more last : Option (List ℕ)) → more ≡ either o last
    → cond b (Some c) more ≡ either (cond b (Some c) o) last
push_step true c o more last e = refl
push_step false c o more last e = e

content_in-push : (xs : List FileBytes) (x : FileBytes) (p : List ℕ)
    → content_in (xs ++ x ∷ []) p ≡ either (content_in xs p) (content_in (x ∷ []) p)
content_in-push [] x p = refl
content_in-push (y ∷ ys) x p =
    push_step (bytes_eq y.path p) y.content (content_in ys p) (content_in (ys ++ x ∷ []) p)
    (content_in (x ∷ []) p) (content_in-push ys x p)

added : (same : Bool) (old : Option (List ℕ)) (v : List ℕ) → (same ≡ true → old ≡ None)
    → cond same (Some v) old ≡ either old (cond same (Some v) None)
added true old v h = sym (ap (λ o. either o (Some v)) (h refl))
added false old v h = sym (either_none old)

kept : (same : Bool) (old : Option (List ℕ)) (v : List ℕ) → (same ≡ true → true ≡ is_some old)
    → old ≡ either old (cond same (Some v) None)
kept same (Some c) v h = refl
kept true None v h = absurd (let e : true ≡ false = h refl in cc)
kept false None v h = refl

mapped : (b : Bool) (v : Bor (List ℕ)) (o : Option (Bor (List ℕ)))
    → option_map (λ (c : Bor (List ℕ)). c.now) (cond b (Some v) o)
    ≡ cond b (Some v.now) (option_map (λ (c : Bor (List ℕ)). c.now) o)
mapped true v o = refl
mapped false v o = refl

pub none_of : (o : Option (Bor (List ℕ))) → false ≡ is_some o
    → option_map (λ (c : Bor (List ℕ)). c.now) o ≡ None
none_of None h = refl
none_of (Some v) h = absurd (let e : false ≡ true = h in cc)

pub some_of : (o : Option (Bor (List ℕ))) → true ≡ is_some o
    → true ≡ is_some (option_map (λ (c : Bor (List ℕ)). c.now) o)
some_of (Some v) h = refl
some_of None h = absurd (let e : true ≡ false = h in cc)

-- a file more, of a path that none has: it is found by its path
pub one_more : (files : List FileBytes) (key v : Bor (List ℕ))
    (old new : BTreeMap (Bor (List ℕ)) (Bor (List ℕ))) (p : List ℕ)
    → UpdatesBy (λ (a b : Bor (List ℕ)). slice_cmp nat_cmp a.now b.now)
    (λ (k : Bor (List ℕ)). slice_cmp nat_cmp key.now k.now) old new (Some v)
    → content_at old key.now ≡ None
    → ((q : List ℕ) → content_at old q ≡ content_in files q)
    → content_at new p ≡ content_in (files ++ record { path = key.now; content = v.now } ∷ []) p
one_more files key v old new p updates none before =
    ap (option_map (λ (c : Bor (List ℕ)). c.now)) (updates.0 (record { ref_ptr = (0, 0); now = p }))
    ∙ mapped (is_eq (slice_cmp nat_cmp key.now p)) v _
    ∙ ap (λ b. cond b (Some v.now) (content_at old p)) (is_eq-slice_cmp key.now p)
    ∙ ap (λ o. cond (bytes_eq key.now p) (Some v.now) o) (before p)
    ∙ added (bytes_eq key.now p) (content_in files p) v.now
    (λ same. subst (λ q. content_in files q ≡ None) ((bytes_eq-Decides key.now p).0 same)
    (sym (before key.now) ∙ none))
    ∙ sym (content_in-push files (record { path = key.now; content = v.now }) p)

-- one more, of a path that one has: that one is found
pub one_same : (files : List FileBytes) (x : FileBytes)
    (old : BTreeMap (Bor (List ℕ)) (Bor (List ℕ))) (p : List ℕ)
    → true ≡ is_some (content_at old x.path)
    → ((q : List ℕ) → content_at old q ≡ content_in files q)
    → content_at old p ≡ content_in (files ++ x ∷ []) p
one_same files x old p has before =
    before p ∙ kept (bytes_eq x.path p) (content_in files p) x.content
    (λ same. subst (λ q. true ≡ is_some (content_in files q))
    ((bytes_eq-Decides x.path p).0 same) (has ∙ ap is_some (before x.path)))
    ∙ sym (content_in-push files x p)
