-- What was loaded stands in order, and there are lists of what each file reaches and sees.
use Rattle.std.proofs.Common.{◌≡◌, ◌∙◌, Bool, true, false, not, ◌&&◌, ◌||◌, List, [], ◌∷◌, ◌++◌}
use Rattle.std.proofs.Common.{Option, None, Some, ap, cond, filter, inl, inr, map, refl, subst, sym}
use Rattle.std.proofs.Common.{if◌then◌else◌}
use Rattle.std.specs.Prelude.{bytes_eq, option_map}
use Rattle.std.specs.List.{list_any}
use Rattle.std.proofs.lemmas.List.Folds.{list_any-append}
use Rattle.protobuf_parse_lexer.specs.declared.lexer.token.Place.{Place}
use Rattle.protobuf_parse_syntax.specs.Dependencies.{imports}
use Rattle.protobuf_parse_syntax.specs.Trees.{FileSyntax, ImportSyntax, StatementSyntax, file_import}
use Rattle.protobuf_parse_model.specs.Descriptors.{Text}
use Rattle.protobuf_parse_elaboration.specs.FilesByPath.{AreDistinct, AreJust, leads, stays}
use Rattle.protobuf_parse_run.specs.declared.log.ReadEntry.{ReadEntry}
use Rattle.protobuf_parse_run.specs.Loading.{read_paths}
use Rattle.protobuf_parse_run.specs.Run.{FilesAreListed, HasTrees}
use Rattle.protobuf_parse_run.specs.Walks.{Input, Reaches, Sees, Trees, among, import_paths}
use Rattle.protobuf_parse_run.proofs.Faulty.{same-bool}
use Rattle.protobuf_parse_run.proofs.Keeping.{among-append, bool_cases, never_both, or_cases}
use Rattle.protobuf_parse_run.proofs.Keeping.{or_left, text-true}
use Rattle.protobuf_parse_run.proofs.Knowing.{sees-reaches}
use Rattle.protobuf_parse_run.proofs.Listed.{lists-of, read-of}
use Rattle.protobuf_parse_load.specs.Laws.{AreFollowed, IsFollowed, tells_of}
use Rattle.protobuf_parse_load.specs.Steps.{Step, by_import, by_input, closed, closed_paths, held}
use Rattle.protobuf_parse_load.specs.Steps.{load_steps, opened, told}
use Rattle.protobuf_parse_load.proofs.Following.{files-come-once, imports-come-first}
use Rattle.protobuf_parse_check.specs.Reports.{AreListedIn, loaded_of}
use Rattle.protobuf_parse_check.specs.SoFar.{IsOrdered}
use Rattle.protobuf_parse_check.specs.Trimmed.{AreInOrder, AreListed, is_followed, is_told}
use Rattle.protobuf_parse_check.specs.Trimmed.{same_place, told_place, told_places, trimmed}
use Rattle.protobuf_parse_check.specs.Trimmed.{trimmed_trees}
use Rattle.protobuf_parse_check.proofs.InOrder.{kept-alike}
use Rattle.protobuf_parse_check.proofs.Orders.{kept-path, keeps-path, split-at}

-- ** imports that are told

tells-told : (p : Text) (place : Place) (steps : List Step)
    → list_any (tells_of (by_import p place)) steps ≡ is_told steps p place
tells-told p place [] = refl
tells-told p place (s ∷ steps) =
    ap (λ (b : Bool). tells_of (by_import p place) s || b) (tells-told p place steps)
    ∙ ap (λ (b : Bool). b || is_told steps p place) (one s)
    ∙ sym (list_any-append (same_place place) (told_place p s) (told_places steps p))
  where
    placed : (b : Bool) (at : Place) → (b && same_place place at)
        ≡ list_any (same_place place) (if b then at ∷ [] else [])
    placed true at = either (same_place place at)
      where
        either : (b : Bool) → b ≡ (b || false)
        either true = refl
        either false = refl
    placed false at = refl

    one : (s : Step) → tells_of (by_import p place) s
        ≡ list_any (same_place place) (told_place p s)
    one (told (by_import q at) path why) = placed (bytes_eq p q) at
    one (told (by_input n) path why) = refl
    one (opened by q) = refl
    one (closed q h) = refl
    one (held n q r) = refl

was_not : (b : Bool) → not b ≡ true → b ≡ false
was_not true h = cc
was_not false h = refl

-- an import that is left has its file before
module _ (steps : List Step) (before : List Text) (p : Text) where
  abbrev left : List StatementSyntax → List Text
  left ss = map (λ (i : ImportSyntax). i.path) (imports (filter (is_followed steps p) ss))

  one-left : (i : ImportSyntax) → not (is_told steps p i.place) ≡ true
      → IsFollowed steps before (by_import p i.place) i.path → among i.path before ≡ true
  one-left i kept (inl w) =
      absurd (never_both (is_told steps p i.place) (sym (tells-told p i.place steps) ∙ w)
      (was_not (is_told steps p i.place) kept))
  one-left i kept (inr w) = w

  left-before : (ss : List StatementSyntax) (q : Text) → AreFollowed steps before p (imports ss)
      → among q (left ss) ≡ true → among q before ≡ true
  left-before [] q all m = cc
  left-before (file_import i ∷ ss) q all m =
      at (not (is_told steps p i.place)) refl (left-before ss q all.1) m
    where
      at : (b : Bool) → not (is_told steps p i.place) ≡ b
          → (among q (left ss) ≡ true → among q before ≡ true)
          → among q (map (λ (j : ImportSyntax). j.path) (imports (cond b
          (file_import i ∷ filter (is_followed steps p) ss) (filter (is_followed steps p) ss))))
          ≡ true → among q before ≡ true
      at true h more k =
          elim (or_cases (bytes_eq q i.path) (among q (left ss)) k) [
            | inl w ↦ subst (λ (z : Text). among z before ≡ true) (sym (text-true q i.path w))
                (one-left i h all.0)
            | inr w ↦ more w
          ]
      at false h more k = more k
  left-before (_ ∷ ss) q all m = left-before ss q all m

module _ (trees : Trees) (inputs : List Input) where
  abbrev steps : List Step
  steps = load_steps trees inputs

  abbrev order : List Text
  order = closed_paths steps

  abbrev cut : Trees
  cut = trimmed_trees steps trees

  some_is : (a b : FileSyntax) → Some a ≡ Some b → a ≡ b
  some_is a b h = cc

  pub come-before : (before : List Text) (p : Text) (after : List Text) (t : FileSyntax)
      → order ≡ before ++ p ∷ after → cut p ≡ Some t
      → (q : Text) → among q (import_paths t) ≡ true → among q before ≡ true
  come-before before p after t at is q m =
      let f = imports-come-first trees inputs before after p at in
      let same : trimmed steps p f.0 ≡ t =
      some_is (trimmed steps p f.0) t (sym (ap (option_map (trimmed steps p)) f.1) ∙ is) in
      left-before steps before p f.0.statements q f.2
      (subst (λ (u : FileSyntax). among q (import_paths u) ≡ true) (sym same) m)

  -- what a loaded file reaches is loaded
  reaches-loaded : (p q : Text) → among p order ≡ true → Reaches cut p q → among q order ≡ true
  reaches-loaded p q m (stays _) = m
  reaches-loaded p q m (leads _ r _ t is i rest) =
      let s = split-at p order m in
      let before = come-before s.0 p s.1 t s.2 is r i in
      reaches-loaded r q
      (subst (λ (zs : List Text). among r zs ≡ true) (sym s.2)
      (among-append r s.0 (p ∷ s.1) ∙ or_left (among r s.0) (among r (p ∷ s.1)) before)) rest

  -- a list in the order of loading
  abbrev in_order : Text → List Text → List Text
  in_order p ps = if among p order then filter (λ (q : Text). among q ps) order else ps

filter-distinct : (test : Text → Bool) (xs : List Text) → AreDistinct xs
    → AreDistinct (filter test xs)
filter-distinct test [] d = tt
filter-distinct test (x ∷ xs) d = at (test x) (filter-distinct test xs d.1)
  where
    apart : among x (filter test xs) ≡ false
    apart =
        elim (bool_cases (among x (filter test xs))) [
          | inl w ↦ absurd (never_both (among x xs) (keeps-path test x xs w).0 d.0)
          | inr w ↦ w
        ]

    at : (b : Bool) → AreDistinct (filter test xs)
        → AreDistinct (cond b (x ∷ filter test xs) (filter test xs))
    at true more = (apart, more)
    at false more = more

-- those of a list that has just these are as many in another order
just-ordered : (Has : Text → Type 0) (ps order : List Text) → AreDistinct order → AreJust Has ps
    → ((q : Text) → Has q → among q order ≡ true)
    → AreJust Has (filter (λ (q : Text). among q ps) order)
just-ordered Has ps order d just there = record {
  once = filter-distinct (λ (q : Text). among q ps) order d;
  only = λ q m. just.only q (keeps-path (λ (z : Text). among z ps) q order m).1;
  all = λ q h. kept-path (λ (z : Text). among z ps) q order (there q h) (just.all q h);
}

ordered-so : (ps order : List Text)
    → AreInOrder order (filter (λ (q : Text). among q ps) order)
ordered-so ps order =
    kept-alike (λ (q : Text). among q ps)
    (λ (q : Text). among q (filter (λ (z : Text). among z ps) order)) order
    (λ q m. same-bool (among q ps) (among q (filter (λ (z : Text). among z ps) order))
    (λ h. kept-path (λ (z : Text). among z ps) q order m h)
    (λ h. (keeps-path (λ (z : Text). among z ps) q order h).1))

module _ (bundled : List (Text × Text)) (log : List ReadEntry) (trees : Trees)
    (has : HasTrees bundled log trees) (inputs : List Input) where
  abbrev there : Trees
  there = cut trees inputs

  abbrev all : List Text
  all = order trees inputs

  cut-read : (p : Text) (t : FileSyntax) → there p ≡ Some t → among p (read_paths log) ≡ true
  cut-read p t is = at (trees p) refl is
    where
      at : (o : Option FileSyntax) → trees p ≡ o
          → option_map (trimmed (steps trees inputs) p) o ≡ Some t
          → among p (read_paths log) ≡ true
      at None h k = cc
      at (Some u) h k = read-of bundled log trees has p u h

  listed : (reached : Text → List Text) × (seen : Text → List Text)
      × FilesAreListed there reached seen
  listed = lists-of (read_paths log) there cut-read

  once : AreDistinct all
  once = files-come-once trees inputs

  just-in : (R : Text → Text → Type 0) (ps : Text → List Text)
      → ((p q : Text) → R p q → Reaches there p q) → ((p : Text) → AreJust (R p) (ps p))
      → (p : Text) → AreJust (R p) (in_order trees inputs p (ps p))
  just-in R ps reach just p = at (among p all) refl
    where
      at : (b : Bool) → among p all ≡ b
          → AreJust (R p) (if b then filter (λ (q : Text). among q (ps p)) all else ps p)
      at true h = just-ordered (R p) (ps p) all once (just p)
          (λ q r. reaches-loaded trees inputs p q h (reach p q r))
      at false h = just p

  in-order-at : (p : Text) (ps : List Text) → among p all ≡ true
      → AreInOrder all (in_order trees inputs p ps)
  in-order-at p ps m =
      subst (λ (b : Bool). AreInOrder all
      (if b then filter (λ (q : Text). among q ps) all else ps)) (sym m) (ordered-so ps all)

  -- there are lists in the order of loading
  pub ordered-lists : (reached : Text → List Text) × (seen : Text → List Text)
      × AreListed there all reached seen
  ordered-lists = (
    (λ p. in_order trees inputs p (listed.0 p)),
    (λ p. in_order trees inputs p (listed.1 p)),
    record {
      just = record {
        reaches = just-in (Reaches there) listed.0 (λ p q r. r) listed.2.reaches;
        sees = just-in (Sees there) listed.1 (sees-reaches there) listed.2.sees;
      };
      reached_in_order = λ p m. in-order-at p (listed.0 p) m;
      seen_in_order = λ p m. in-order-at p (listed.1 p) m;
    },
  )

  -- what was loaded stands in order
  pub is-ordered : (reached seen : Text → List Text)
      → AreListedIn (loaded_of bundled log trees inputs reached seen)
      → IsOrdered (loaded_of bundled log trees inputs reached seen)
  is-ordered reached seen lists = record {
    trees = has;
    listed = lists;
    once = once;
    imports = come-before trees inputs;
  }
