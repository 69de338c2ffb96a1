-- The verdicts of the files that were judged, by their numbers.
use Rattle.std.proofs.Common.{◌≡◌, ◌∙◌, ◌<◌, ℕ, zero, suc, Bool, true, false, ◌||◌, ◌&&◌, List}
use Rattle.std.proofs.Common.{[], ◌∷◌, ◌++◌, Option, None, Some, ap, arith, length, map, nat_eq, refl}
use Rattle.std.proofs.Common.{subst, sym}
use Rattle.std.specs.Prelude.{option_to_list, slice_get, string_bytes}
use Rattle.std.specs.List.{list_any}
use Rattle.std.proofs.lemmas.Bool.{eq-eqb, ne_eqb}
use Rattle.protobuf_parse_syntax.specs.Trees.{FileSyntax}
use Rattle.protobuf_parse_model.specs.Descriptors.{Text}
use Rattle.protobuf_parse_run.specs.Loading.{LoadedEntry, Named, named_trees, paths_in}
use Rattle.protobuf_parse_run.proofs.Elaborating.{paths_by}
use Rattle.protobuf_parse_run.proofs.Numbers.{name_of}
use Rattle.protobuf_parse_check.specs.declared.verdict.Verdict.{Verdict}
use Rattle.protobuf_parse_check.specs.Judging.{any_with}
use Rattle.protobuf_parse_check.specs.Reports.{Checked}
use Rattle.protobuf_parse_check.specs.SoFar.{AreVerdicts, IsVerdict}

pub paths-are : (c : Checked) (ps : List Text) (es : List LoadedEntry) (vs : List Verdict)
    → AreVerdicts c ps es vs → paths_in (named_trees es) ≡ ps
paths-are c [] [] [] h = refl
paths-are c (p ∷ ps) (e ∷ es) (v ∷ vs) h =
    ap (λ z. z ∷ paths_in (named_trees es)) h.0.named
    ∙ ap (λ zs. p ∷ zs) (paths-are c ps es vs h.1)
paths-are c [] (e ∷ es) vs h = absurd h
paths-are c [] [] (v ∷ vs) h = absurd h
paths-are c (p ∷ ps) [] vs h = absurd h
paths-are c (p ∷ ps) (e ∷ es) [] h = absurd h

pub verdicts-push : (c : Checked) (ps : List Text) (es : List LoadedEntry) (vs : List Verdict)
    (p : Text) (e : LoadedEntry) (v : Verdict) → AreVerdicts c ps es vs → IsVerdict c p e v
    → AreVerdicts c (ps ++ p ∷ []) (es ++ e ∷ []) (vs ++ v ∷ [])
verdicts-push c [] [] [] p e v h k = (k, tt)
verdicts-push c (q ∷ ps) (d ∷ es) (w ∷ vs) p e v h k =
    (h.0, verdicts-push c ps es vs p e v h.1 k)
verdicts-push c [] (d ∷ es) vs p e v h k = absurd h
verdicts-push c [] [] (w ∷ vs) p e v h k = absurd h
verdicts-push c (q ∷ ps) [] vs p e v h k = absurd h
verdicts-push c (q ∷ ps) (d ∷ es) [] p e v h k = absurd h

some_is : {A : Type 0} (a b : A) → Some a ≡ Some b → a ≡ b
some_is a b h = cc

-- what stands at a number among the files, or behind them
pub data Place_of (es : List LoadedEntry) (f : Named) (n : ℕ) : Type 0 where
  among_them : (e : LoadedEntry) → slice_get es n ≡ Some e → n < length es
      → slice_get (named_trees es ++ f ∷ []) n ≡ Some (name_of e) → Place_of es f n
  the_last : n ≡ length es → slice_get (named_trees es ++ f ∷ []) n ≡ Some f → Place_of es f n
  beyond : length es < n → slice_get (named_trees es ++ f ∷ []) n ≡ None → Place_of es f n

pub place-of : (es : List LoadedEntry) (f : Named) (n : ℕ) → Place_of es f n
place-of [] f zero = the_last refl refl
place-of [] f (suc n) = beyond (omega arith) refl
place-of (e ∷ es) f zero = among_them e refl (omega arith) refl
place-of (e ∷ es) f (suc n) = elim (place-of es f n) [
  | among_them d is lt at ↦ among_them d is (omega (arith, lt)) at
  | the_last is at ↦ the_last (ap suc is) at
  | beyond lt at ↦ beyond (omega (arith, lt)) at
]

-- the verdict of the file with a number
pub verdict-at : (c : Checked) (ps : List Text) (es : List LoadedEntry) (vs : List Verdict)
    → AreVerdicts c ps es vs → (n : ℕ) (e : LoadedEntry) → slice_get es n ≡ Some e
    → (v : Verdict) × (slice_get vs n ≡ Some v) × IsVerdict c (string_bytes e.0) e v
verdict-at c [] [] [] h n e is = cc
verdict-at c (p ∷ ps) (d ∷ es) (v ∷ vs) h zero e is = (
  v,
  refl,
  subst (λ (x : LoadedEntry). IsVerdict c (string_bytes x.0) x v) (some_is d e is)
      (subst (λ (q : Text). IsVerdict c q d v) (sym h.0.named) h.0),
)
verdict-at c (p ∷ ps) (d ∷ es) (v ∷ vs) h (suc n) e is = verdict-at c ps es vs h.1 n e is
verdict-at c [] (d ∷ es) vs h n e is = absurd h
verdict-at c [] [] (v ∷ vs) h n e is = absurd h
verdict-at c (p ∷ ps) [] vs h n e is = absurd h
verdict-at c (p ∷ ps) (d ∷ es) [] h n e is = absurd h

-- there is none behind them
none-behind : (c : Checked) (ps : List Text) (es : List LoadedEntry) (vs : List Verdict)
    → AreVerdicts c ps es vs → (n : ℕ) → (n < length es → ⊥) → slice_get vs n ≡ None
none-behind c [] [] [] h n far = refl
none-behind c (p ∷ ps) (e ∷ es) (v ∷ vs) h zero far = absurd (far (omega arith))
none-behind c (p ∷ ps) (e ∷ es) (v ∷ vs) h (suc n) far =
    none-behind c ps es vs h.1 n (λ lt. far (omega (arith, lt)))
none-behind c [] (e ∷ es) vs h n far = absurd h
none-behind c [] [] (v ∷ vs) h n far = absurd h
none-behind c (p ∷ ps) [] vs h n far = absurd h
none-behind c (p ∷ ps) (e ∷ es) [] h n far = absurd h

-- ** tests of several files

swap : (t b k : Bool) → (t || (b || (k && t))) ≡ ((false || b) || ((true || k) && t))
swap true true true = refl
swap true true false = refl
swap true false true = refl
swap true false false = refl
swap false true true = refl
swap false true false = refl
swap false false true = refl
swap false false false = refl

shift : (a b k : Bool) → (a || (b || k)) ≡ ((a || b) || k)
shift true b k = refl
shift false b k = refl

module _ (c : Checked) (ps : List Text) (es : List LoadedEntry) (vs : List Verdict)
    (are : AreVerdicts c ps es vs) (p : Text) (t : FileSyntax) (test : Text → Bool)
    (has : Option Verdict → Bool) (none : has None ≡ false)
    (says : (q : Text) (e : LoadedEntry) (v : Verdict) → IsVerdict c q e v
    → has (Some v) ≡ test q) where
  abbrev with_p : List Named
  with_p = named_trees es ++ (p, t) ∷ []

  abbrev path_at : Option Named → List Text
  path_at o = map (λ (f : Named). f.0) (option_to_list o)

  step : (n : ℕ) (ns : List ℕ)
      → list_any test (paths_by with_p ns)
      ≡ (any_with has vs ns || (list_any (nat_eq (length es)) ns && test p))
      → Place_of es (p, t) n
      → list_any test (path_at (slice_get with_p n) ++ paths_by with_p ns)
      ≡ ((has (slice_get vs n) || any_with has vs ns)
      || ((nat_eq (length es) n || list_any (nat_eq (length es)) ns) && test p))
  step n ns more (among_them e is lt at) =
      let v = verdict-at c ps es vs are n e is in
      let here : has (slice_get vs n) ≡ test (string_bytes e.0) =
      ap has v.1 ∙ says (string_bytes e.0) e v.0 v.2 in
      let other : nat_eq (length es) n ≡ false =
      ne_eqb (length es) n (λ same. absurd (omega (arith, lt, same))) in
      let rest = any_with has vs ns in
      let own = list_any (nat_eq (length es)) ns in
      ap (λ (o : Option Named). list_any test (path_at o ++ paths_by with_p ns)) at
      ∙ ap (λ (b : Bool). test (string_bytes e.0) || b) more
      ∙ shift (test (string_bytes e.0)) rest (own && test p)
      ∙ ap (λ (b : Bool). (b || rest) || (own && test p)) (sym here)
      ∙ ap (λ (b : Bool). (has (slice_get vs n) || rest) || ((b || own) && test p)) (sym other)
  step n ns more (the_last is at) =
      let gone : slice_get vs n ≡ None =
      none-behind c ps es vs are n (λ lt. omega (arith, lt, is)) in
      let rest = any_with has vs ns in
      let own = list_any (nat_eq (length es)) ns in
      ap (λ (o : Option Named). list_any test (path_at o ++ paths_by with_p ns)) at
      ∙ ap (λ (b : Bool). test p || b) more
      ∙ swap (test p) rest own
      ∙ ap (λ (b : Bool). (b || rest) || ((true || own) && test p))
      (sym (ap has gone ∙ none))
      ∙ ap (λ (b : Bool). (has (slice_get vs n) || rest) || ((b || own) && test p))
      (sym (eq-eqb (length es) n (sym is)))
  step n ns more (beyond lt at) =
      let gone : slice_get vs n ≡ None =
      none-behind c ps es vs are n (λ less. omega (arith, less, lt)) in
      let other : nat_eq (length es) n ≡ false =
      ne_eqb (length es) n (λ same. absurd (omega (arith, lt, same))) in
      let rest = any_with has vs ns in
      let own = list_any (nat_eq (length es)) ns in
      ap (λ (o : Option Named). list_any test (path_at o ++ paths_by with_p ns)) at
      ∙ more
      ∙ ap (λ (b : Bool). (b || rest) || (own && test p)) (sym (ap has gone ∙ none))
      ∙ ap (λ (b : Bool). (has (slice_get vs n) || rest) || ((b || own) && test p)) (sym other)

  -- a test holds of one of the files with these numbers where it does so of one that was judged, or
  -- of the next
  pub any-same : (ns : List ℕ)
      → list_any test (paths_by with_p ns)
      ≡ (any_with has vs ns || (list_any (nat_eq (length es)) ns && test p))
  any-same [] = refl
  any-same (n ∷ ns) = step n ns (any-same ns) (place-of es (p, t) n)
