-- The first event that ends a run is told by the check.
use Rattle.std.proofs.Common.{◌≡◌, ◌∙◌, ◌⊎◌, ℕ, Bool, true, false, not, List, [], ◌∷◌, ◌++◌, Option}
use Rattle.std.proofs.Common.{None, Some, ap, append_assoc, find, inl, inr, is_some, map, refl}
use Rattle.std.proofs.Common.{subst}
use Rattle.std.proofs.Common.{sym, if◌then◌else◌}
use Rattle.std.specs.Prelude.{bytes_eq}
use Rattle.std.specs.List.{AllByRecursion, list_any}
use Rattle.std.proofs.lemmas.Grind.{flat_map-append}
use Rattle.protobuf_parse_lexer.specs.declared.lexer.token.Place.{Place}
use Rattle.protobuf_parse_syntax.specs.Trees.{FileSyntax}
use Rattle.protobuf_parse_model.specs.Descriptors.{Text}
use Rattle.protobuf_parse_model.specs.Faults.{Among, here, there}
use Rattle.protobuf_parse_model.proofs.Blaming.{among_left, among_right}
use Rattle.protobuf_parse_elaboration.specs.FilesByPath.{AreJust, trees_at}
use Rattle.protobuf_parse_run.specs.Repeats.{is_nothing}
use Rattle.protobuf_parse_run.specs.Run.{Files, fails, faults_at, plains_at}
use Rattle.protobuf_parse_run.specs.Stability.{AgreeOn, IsAlike, WereRead}
use Rattle.protobuf_parse_run.specs.Walks.{Event, Input, Reaches, Sees, Trees, among, at, events}
use Rattle.protobuf_parse_run.proofs.Agreeing.{agree-back, alike, reaches-from}
use Rattle.protobuf_parse_run.proofs.Keeping.{among-in, bool_cases, false_true, never_both}
use Rattle.protobuf_parse_run.proofs.Keeping.{none_some}
use Rattle.protobuf_parse_run.proofs.Keeping.{some_same, text-same, text-true}
use Rattle.protobuf_parse_run.proofs.Telling.{find-after}
use Rattle.protobuf_parse_load.specs.Laws.{IsHeldSo, event_of, is_told as tells, own_at}
use Rattle.protobuf_parse_load.specs.Steps.{Step, by_import, by_input, closed, closed_paths, held}
use Rattle.protobuf_parse_load.specs.Steps.{is_cycle, is_too_long, is_unread, load_reads}
use Rattle.protobuf_parse_load.specs.Steps.{load_steps}
use Rattle.protobuf_parse_load.specs.Steps.{opened, told}
use Rattle.protobuf_parse_load.proofs.Fronting.{IsOther, fares-whole}
use Rattle.protobuf_parse_load.proofs.HeldReads.{held-are-read}
use Rattle.protobuf_parse_load.proofs.Standing.{among-last, among-left, closed-append}
use Rattle.protobuf_parse_load.proofs.Untold.{any-push, find-head}
use Rattle.protobuf_parse_check.specs.Laws.{FirstFaultIsTold, TellsEvent, checked_of}
use Rattle.protobuf_parse_check.specs.Reports.{AreListedIn, Checked, Clash, clash_in, clashes_in}
use Rattle.protobuf_parse_check.specs.Reports.{files_of, is_faulty, is_same_file, is_troubled}
use Rattle.protobuf_parse_check.specs.Trimmed.{told_place, told_places}
use Rattle.protobuf_parse_check.proofs.Accepted.{none-fails, ordered, path-closed, seen-reached}
use Rattle.protobuf_parse_check.proofs.Accepted.{step-between, tree-of}
use Rattle.protobuf_parse_check.proofs.Agreeing.{none-alike, plains-alike, sees-over, trees-alike}
use Rattle.protobuf_parse_check.proofs.Orders.{reaches-before, split-at}
use Rattle.protobuf_parse_check.proofs.Settled.{faultless, none-is, none-stands, nothing-in}
use Rattle.protobuf_parse_check.proofs.Settled.{nothing-is, untroubled, untroubled-by}
use Rattle.protobuf_parse_check.proofs.ToldBefore.{AllFit, FitsAt, fit-front, fit-rest, load-fits}
use Rattle.protobuf_parse_check.proofs.Untrimmed.{loses-none, tree-at, untold-places}

-- ** steps that are told

was_not : (b : Bool) → not b ≡ true → b ≡ false
was_not true h = cc
was_not false h = refl

clash-there : (files : Files) (s : Step) (steps : List Step) (x : Clash) → Among steps s
    → Among (clash_in files s) x → Among (clashes_in files steps) x
clash-there files s [] x m h = elim m [ ]
clash-there files s (_ ∷ steps) x here h = among_left (clashes_in files steps) h
clash-there files s (y ∷ steps) x (there m) h =
    among_right (clash_in files y) (clash-there files s steps x m h)

all-at : (P : Step → Type 0) (s : Step) (steps : List Step) → Among steps s
    → AllByRecursion P steps → P s
all-at P s [] m all = elim m [ ]
all-at P s (_ ∷ steps) here all = all.0
all-at P s (x ∷ steps) (there m) all = all-at P s steps m all.1

-- no import of a file is told behind its end
closed-places : (trees : Trees) (q : Text) (front more : List Step) → AllFit trees front more
    → among q (closed_paths front) ≡ true → told_places more q ≡ []
closed-places trees q front [] all m = refl
closed-places trees q front (s ∷ more) all m =
    one s all.0 ∙ closed-places trees q (front ++ s ∷ []) more all.1
    (ap (among q) (closed-append front (s ∷ []))
    ∙ among-left q (closed_paths front) (closed_paths (s ∷ [])) m)
  where
    placed : (r : Text) (place : Place) → among r (closed_paths front) ≡ false
        → (if bytes_eq q r then place ∷ [] else []) ≡ []
    placed r place off =
        elim (bool_cases (bytes_eq q r)) [
          | inl w ↦ absurd (never_both (among r (closed_paths front))
              (subst (λ (z : Text). among z (closed_paths front) ≡ true) (text-true q r w) m) off)
          | inr w ↦ rw w refl
        ]

    one : (x : Step) → FitsAt trees front x → told_place q x ++ told_places more q
        ≡ told_places more q
    one (told (by_import r place) path why) fit =
        ap (λ (zs : List Place). zs ++ told_places more q) (placed r place fit.0)
    one (told (by_input n) path why) fit = refl
    one (opened by p) fit = refl
    one (closed p h) fit = refl
    one (held n p r) fit = refl

module _ (files : Files) (inputs : List Input) where
  -- where no event fails nothing is told
  untold-by : (front steps : List Step) → AllFit files.trees front steps
      → find (fails files) (map (event_of inputs) steps) ≡ None → list_any tells steps ≡ false
  untold-by front [] all none = refl
  untold-by front (s ∷ steps) all none =
      let k = find-head (fails files) (event_of inputs s) (map (event_of inputs) steps) none in
      one s all.0 k.0 (untold-by (front ++ s ∷ []) steps all.1 k.1)
    where
      one : (x : Step) → FitsAt files.trees front x → fails files (event_of inputs x) ≡ false
          → list_any tells steps ≡ false → list_any tells (x ∷ steps) ≡ false
      one (opened by p) fit fine rest = rest
      one (closed p h) fit fine rest = rest
      one (held n p r) fit fine rest = rest
      one (told by p is_cycle) fit fine rest = absurd (false_true (sym fine))
      one (told by p (is_too_long i)) fit fine rest = absurd (false_true (sym fine))
      one (told by p (is_unread n)) fit fine rest =
          absurd (never_both (not (is_some (files.trees p)))
          (ap (λ (o : Option FileSyntax). not (is_some o)) fit.1) fine)

module _ (files : Files) (inputs : List Input) (reached seen : Text → List Text)
    (read : WereRead files) (lists : AreListedIn (checked_of files inputs reached seen)) where
  abbrev k : Checked
  k = checked_of files inputs reached seen

  abbrev kept : Files
  kept = files_of k

  -- ** a file in which the run ends

  module _ (before more : List Step) (p : Text) (h : ℕ)
      (split : k.steps ≡ (before ++ closed p h ∷ []) ++ more)
      (quiet : find (fails files) (map (event_of inputs) before) ≡ None) where
    abbrev front : List Step
    front = before ++ closed p h ∷ []

    abbrev near : List Text
    near = closed_paths front

    all-fit : AllFit files.trees [] (front ++ more)
    all-fit =
        subst (λ (z : List Step). AllFit files.trees [] z) split (load-fits files.trees inputs)

    untold : list_any tells front ≡ false
    untold = any-push tells before (closed p h)
        (untold-by files inputs [] before
        (fit-front files.trees [] before (closed p h ∷ [])
        (fit-front files.trees [] front more all-fit)) quiet) refl

    -- no import is told of the files before
    clear : (q : Text) → among q near ≡ true → told_places k.steps q ≡ []
    clear q m =
        ap (λ (z : List Step). told_places z q) split
        ∙ flat_map-append (told_place q) front more
        ∙ ap (λ (zs : List Place). zs ++ told_places more q) (untold-places front q untold)
        ∙ closed-places files.trees q front more (fit-rest files.trees [] front more all-fit) m

    near-is : near ≡ closed_paths before ++ p ∷ []
    near-is = closed-append before (closed p h ∷ [])

    paths-are : closed_paths k.steps ≡ near ++ closed_paths more
    paths-are = ap closed_paths split ∙ closed-append front more

    at-p : closed_paths k.steps ≡ closed_paths before ++ p ∷ closed_paths more
    at-p = paths-are ∙ ap (λ zs. zs ++ closed_paths more) near-is
        ∙ append_assoc (closed_paths before) (p ∷ []) (closed_paths more)

    -- what they reach is among them
    near-there : (q r : Text) → among q near ≡ true → Reaches kept.trees q r
        → among r near ≡ true
    near-there q r m reach =
        let s = split-at q near m in
        let seam : closed_paths k.steps ≡ s.0 ++ q ∷ (s.1 ++ closed_paths more) =
        paths-are ∙ ap (λ zs. zs ++ closed_paths more) s.2
        ∙ append_assoc s.0 (q ∷ s.1) (closed_paths more) in
        elim (reaches-before k (ordered files inputs reached seen read lists) q r s.0
        (s.1 ++ closed_paths more) seam reach) [
          | inl w ↦ subst (λ (z : Text). among z near ≡ true) w m
          | inr w ↦ subst (λ (zs : List Text). among r zs ≡ true) (sym s.2)
              (among-left r s.0 (q ∷ s.1) w)
        ]

    same-tree-at : (q : Text) → among q near ≡ true → kept.trees q ≡ files.trees q
    same-tree-at q m = tree-at k.steps q (clear q m) files.trees

    agree : (q : Text) → among q near ≡ true → AgreeOn (Reaches kept.trees q) kept.trees files.trees
    agree q m r reach = sym (same-tree-at r (near-there q r m reach))

    back-again : (q : Text) → among q near ≡ true
        → AgreeOn (Reaches files.trees q) files.trees kept.trees
    back-again q m = agree-back kept.trees files.trees q (agree q m)

    -- ** lists that are those of the check at these files

    abbrev mixed : (Text → List Text) → (Text → List Text) → Text → List Text
    mixed here_so else_so q = if among q near then here_so q else else_so q

    abbrev mid : Files
    mid = record {
      bundled = files.bundled;
      reads = files.reads;
      trees = files.trees;
      reached = mixed reached files.reached;
      seen = mixed seen files.seen;
    }

    reached-at : (q : Text) (b : Bool) → among q near ≡ b
        → AreJust (Reaches files.trees q) (if b then reached q else files.reached q)
    reached-at q true m =
        let just = lists.just.reaches q in
        record {
          once = just.once;
          only = λ r on.
              reaches-from files.trees kept.trees q r (back-again q m) (just.only r on);
          all = λ r reach.
              just.all r (reaches-from kept.trees files.trees q r (agree q m) reach);
        }
    reached-at q false m = read.listed.reaches q

    seen-at : (q : Text) (b : Bool) → among q near ≡ b
        → AreJust (Sees files.trees q) (if b then seen q else files.seen q)
    seen-at q true m =
        let just = lists.just.sees q in
        record {
          once = just.once;
          only = λ r on. sees-over kept.trees files.trees q r (agree q m) (just.only r on);
          all = λ r sees. just.all r (sees-over files.trees kept.trees q r (back-again q m) sees);
        }
    seen-at q false m = read.listed.sees q

    mid-read : WereRead mid
    mid-read = record {
      trees = read.trees;
      listed = record {
        reaches = λ q. reached-at q (among q near) refl;
        sees = λ q. seen-at q (among q near) refl;
      };
    }

    alike-at : (q : Text) → IsAlike files mid q
    alike-at q = alike files mid q read mid-read (λ r reach. refl)

    reached-is : (q : Text) → among q near ≡ true → mid.reached q ≡ reached q
    reached-is q m = ap (λ (b : Bool). if b then reached q else files.reached q) m

    seen-is : (q : Text) → among q near ≡ true → mid.seen q ≡ seen q
    seen-is q m = ap (λ (b : Bool). if b then seen q else files.seen q) m

    near-reached : (q r : Text) → among q near ≡ true → among r (reached q) ≡ true
        → among r near ≡ true
    near-reached q r m on = near-there q r m ((lists.just.reaches q).only r on)

    near-seen : (q r : Text) → among q near ≡ true → among r (seen q) ≡ true
        → among r near ≡ true
    near-seen q r m on =
        near-reached q r m (seen-reached files inputs reached seen read lists q r on)

    trees-same : (ps : List Text) → ((r : Text) → among r ps ≡ true → among r near ≡ true)
        → trees_at files.trees ps ≡ trees_at kept.trees ps
    trees-same ps within =
        trees-alike files.trees kept.trees ps (λ r on. sym (same-tree-at r (within r on)))

    sight-same : (q : Text) → among q near ≡ true
        → trees_at files.trees (mid.seen q) ≡ trees_at kept.trees (seen q)
    sight-same q m =
        ap (trees_at files.trees) (seen-is q m)
        ∙ trees-same (seen q) (λ r on. near-seen q r m on)

    reach-same : (q : Text) → among q near ≡ true
        → trees_at files.trees (mid.reached q) ≡ trees_at kept.trees (reached q)
    reach-same q m =
        ap (trees_at files.trees) (reached-is q m)
        ∙ trees-same (reached q) (λ r on. near-reached q r m on)

    plains-same : (ps : List Text) → ((r : Text) → among r ps ≡ true → among r near ≡ true)
        → plains_at mid ps ≡ plains_at kept ps
    plains-same ps within =
        plains-alike mid kept ps (λ r on. sym (same-tree-at r (within r on)))
        (λ r on. sight-same r (within r on))

    plains-reached : (q : Text) → among q near ≡ true
        → plains_at mid (mid.reached q) ≡ plains_at kept (reached q)
    plains-reached q m =
        ap (plains_at mid) (reached-is q m)
        ∙ plains-same (reached q) (λ r on. near-reached q r m on)

    plains-seen : (q : Text) → among q near ≡ true
        → plains_at mid (mid.seen q) ≡ plains_at kept (seen q)
    plains-seen q m =
        ap (plains_at mid) (seen-is q m) ∙ plains-same (seen q) (λ r on. near-seen q r m on)

    -- no fault stands in a file in the check where none does in the run, and the other way round
    into-check : (q : Text) (t : FileSyntax) → among q near ≡ true → files.trees q ≡ Some t
        → faults_at files q (files.trees q) ≡ [] → faults_at kept q (kept.trees q) ≡ []
    into-check q t m is none =
        let mid_none : faults_at mid q (files.trees q) ≡ [] =
        none-stands (faults_at mid q (files.trees q))
        (λ f on. nothing-in (faults_at files q (files.trees q)) f none
        ((alike-at q).only f on))
        in
        ap (faults_at kept q) (same-tree-at q m ∙ is)
        ∙ none-alike mid kept q t (reach-same q m) (sight-same q m) (plains-reached q m)
        (plains-seen q m) (ap (faults_at mid q) (sym is) ∙ mid_none)

    into-run : (q : Text) (t : FileSyntax) → among q near ≡ true → files.trees q ≡ Some t
        → faults_at kept q (kept.trees q) ≡ [] → faults_at files q (files.trees q) ≡ []
    into-run q t m is none =
        let mid_none : faults_at mid q (files.trees q) ≡ [] =
        ap (faults_at mid q) is
        ∙ none-alike kept mid q t (sym (reach-same q m)) (sym (sight-same q m))
        (sym (plains-reached q m)) (sym (plains-seen q m))
        (ap (faults_at kept q) (sym (same-tree-at q m ∙ is)) ∙ none) in
        none-stands (faults_at files q (files.trees q))
        (λ f on. nothing-in (faults_at mid q (files.trees q)) f mid_none
        ((alike-at q).stay f on))

    -- ** the files before, and this one

    near-p : among p near ≡ true
    near-p = ap (among p) near-is ∙ among-last p p (closed_paths before) (text-same p)

    near-tree : (q : Text) → among q near ≡ true → (t : FileSyntax) × (files.trees q ≡ Some t)
    near-tree q m = tree-of files inputs reached seen read lists q
        (ap (among q) paths-are ∙ among-left q near (closed_paths more) m)

    before-near : (q : Text) → among q (closed_paths before) ≡ true → among q near ≡ true
    before-near q m = ap (among q) near-is ∙ among-left q (closed_paths before) (p ∷ []) m

    untroubled-before : (q : Text) → among q (closed_paths before) ≡ true
        → is_troubled k q ≡ false
    untroubled-before q m =
        let n = before-near q m in
        let t = near-tree q n in
        let s = path-closed before q m in
        let none : faults_at files q (files.trees q) ≡ [] =
        nothing-is (faults_at files q (files.trees q))
        (none-fails (fails files) inputs (closed q s.0) before s.1 quiet) in
        untroubled-by k (ordered files inputs reached seen read lists) q t.0 t.1
        (into-check q t.0 n t.1 none) (loses-none k.steps q (clear q n) t.0)

    calm-fine : is_faulty k p ≡ false → faults_at files p (files.trees p) ≡ []
    calm-fine calm =
        let o = ordered files inputs reached seen read lists in
        let t = near-tree p near-p in
        let own : is_troubled k p ≡ false =
        untroubled k o p t.0 t.1 (clear p near-p)
        (λ q m. clear q (near-seen p q near-p m)) calm in
        let all : (q : Text) → among q (reached p) ≡ true → is_troubled k q ≡ false =
        λ q m. elim (among-in q p (closed_paths before)
        (ap (among q) (sym near-is) ∙ near-reached p q near-p m)) [
          | inl w ↦ untroubled-before q w
          | inr w ↦ subst (λ (z : Text). is_troubled k z ≡ false) (sym w) own
        ] in
        into-run p t.0 near-p t.1
        (faultless k o p t.0 t.1 all (closed_paths before) (closed_paths more) at-p calm)

    pub is-told : not (is_nothing (faults_at files p (files.trees p))) ≡ true
        → (among p (closed_paths k.steps) ≡ true) × (is_faulty k p ≡ true)
    is-told ending = (
      ap (among p) paths-are ∙ among-left p near (closed_paths more) near-p,
      elim (bool_cases (is_faulty k p)) [
        | inl w ↦ w
        | inr w ↦ absurd (never_both (not (is_nothing (faults_at files p (files.trees p)))) ending
            (none-is (faults_at files p (files.trees p)) (calm-fine w)))
      ],
    )

  -- ** the step at which the run ends

  module _ (before more : List Step)
      (quiet : find (fails files) (map (event_of inputs) before) ≡ None) where
    tells-last : (s : Step) → k.steps ≡ (before ++ s ∷ []) ++ more
        → fails files (event_of inputs s) ≡ true
        → (tells s ≡ true)
        ⊎ IsOther files.trees inputs (fails files) (λ p. refl) (λ i. refl) (λ a p. refl)
        (event_of inputs s)
        → TellsEvent k inputs (event_of inputs s)
    tells-last (opened by p) split ending (inl w) = absurd (false_true w)
    tells-last (opened by p) split ending (inr w) = absurd w
    tells-last (told by p (is_unread n)) split ending cause = record {
      step = told by p (is_unread n);
      stands = subst (λ (z : List Step). Among z (told by p (is_unread n))) (sym split)
          (step-between before more (told by p (is_unread n)));
      told = refl;
      happens = refl;
    }
    tells-last (told by p is_cycle) split ending cause = record {
      step = told by p is_cycle;
      stands = subst (λ (z : List Step). Among z (told by p is_cycle)) (sym split)
          (step-between before more (told by p is_cycle));
      told = refl;
      happens = refl;
    }
    tells-last (told by p (is_too_long i)) split ending cause = record {
      step = told by p (is_too_long i);
      stands = subst (λ (z : List Step). Among z (told by p (is_too_long i))) (sym split)
          (step-between before more (told by p (is_too_long i)));
      told = refl;
      happens = refl;
    }
    tells-last (closed p h) split ending cause = is-told before more p h split quiet ending
    tells-last (held n p r) split ending cause =
        let stands_so : Among k.steps (held n p r) =
        subst (λ (z : List Step). Among z (held n p r)) (sym split)
        (step-between before more (held n p r)) in
        let clash : Clash = record { input = n; path = p; read = r } in
        let other : clash_in kept (held n p r) ≡ clash ∷ [] =
        ap (λ (b : Bool). if b then [] else clash ∷ []) (was_not (is_same_file kept p r) ending) in
        let stands : Among (clash_in kept (held n p r)) clash =
        subst (λ (xs : List Clash). Among xs clash) (sym other) here in
        let so = all-at (IsHeldSo inputs (load_reads files.trees inputs)
        (load_steps files.trees inputs)) (held n p r) k.steps stands_so
        (held-are-read files.trees inputs) in
        record {
          clash = clash;
          stands = clash-there kept (held n p r) k.steps clash stands_so stands;
          input = so.1 ∙ ap (λ (z : Text). Some (at p z)) (sym (ap own_at so.1));
          path = refl;
          read = refl;
        }

  pub first-told : (e : Event) → find (fails files) (events files.trees inputs) ≡ Some e
      → TellsEvent k inputs e
  first-told e ended =
      elim (fares-whole files.trees inputs (fails files) (λ p. refl) (λ i. refl) (λ a p. refl)) [
        | inl u ↦ absurd (none_some e (sym (ap (find (fails files)) u.2 ∙ u.0) ∙ ended))
        | inr r ↦
            let ends : find (fails files) (events files.trees inputs)
            ≡ Some (event_of inputs r.last) =
            ap (find (fails files)) (r.kept_is
            ∙ append_assoc (map (event_of inputs) r.before) (event_of inputs r.last ∷ []) r.later)
            ∙ find-after (fails files) (map (event_of inputs) r.before) r.later
            (event_of inputs r.last) r.quiet r.ending in
            subst (λ (x : Event). TellsEvent k inputs x)
            (some_same (event_of inputs r.last) e (sym ends ∙ ended))
            (tells-last r.before r.more r.quiet r.last r.split r.ending r.cause)
      ]

pub first-fault-is-told : FirstFaultIsTold
first-fault-is-told files inputs reached seen read lists e ended =
    first-told files inputs reached seen read lists e ended
