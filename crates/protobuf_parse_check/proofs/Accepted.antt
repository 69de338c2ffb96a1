-- A check that tells nothing, beside the run over the same inputs.
use Rattle.std.proofs.Common.{◌≡◌, ◌∙◌, ℕ, Bool, true, false, not, List, [], ◌∷◌, ◌++◌}
use Rattle.std.proofs.Common.{None, Some, ap, append_assoc, find, inl, inr, map, refl}
use Rattle.std.proofs.Common.{subst}
use Rattle.std.proofs.Common.{sym, if◌then◌else◌}
use Rattle.std.specs.Prelude.{bytes_eq}
use Rattle.std.specs.List.{list_any}
use Rattle.protobuf_parse_syntax.specs.Trees.{FileSyntax}
use Rattle.protobuf_parse_model.specs.Descriptors.{Text}
use Rattle.protobuf_parse_model.specs.Faults.{Among, here, there}
use Rattle.protobuf_parse_elaboration.specs.FileDescriptor.{file_of}
use Rattle.protobuf_parse_run.specs.PlainRuns.{plain_of}
use Rattle.protobuf_parse_run.specs.Repeats.{is_nothing}
use Rattle.protobuf_parse_run.specs.Run.{AreDescriptors, Files, FilesAreListed, environment_of}
use Rattle.protobuf_parse_run.specs.Run.{fails}
use Rattle.protobuf_parse_run.specs.Run.{faults_at}
use Rattle.protobuf_parse_run.specs.Stability.{IsAlike, IsClean, WereRead, order as run_order}
use Rattle.protobuf_parse_run.specs.Walks.{Event, Input, Trees, among, elab_paths, events}
use Rattle.protobuf_parse_run.proofs.Agreeing.{alike}
use Rattle.protobuf_parse_run.proofs.Keeping.{among-append, bool_cases, false_true, never_both}
use Rattle.protobuf_parse_run.proofs.Keeping.{none_some, or_cases, or_left, or_right, text-same}
use Rattle.protobuf_parse_run.proofs.Keeping.{text-true}
use Rattle.protobuf_parse_run.proofs.Knowing.{sees-reaches}
use Rattle.protobuf_parse_run.proofs.Repeating.{once-told}
use Rattle.protobuf_parse_run.proofs.Spelling.{others}
use Rattle.protobuf_parse_run.proofs.Telling.{find-after}
use Rattle.protobuf_parse_load.specs.Laws.{event_of, is_told as tells}
use Rattle.protobuf_parse_load.specs.Steps.{Step, closed, closed_paths, held, is_cycle, is_too_long}
use Rattle.protobuf_parse_load.specs.Steps.{is_unread, load_steps, opened, told}
use Rattle.protobuf_parse_load.proofs.Following.{imports-come-first}
use Rattle.protobuf_parse_load.proofs.Fronting.{IsOther, fares-whole, load-is-run}
use Rattle.protobuf_parse_load.proofs.Untold.{find-head}
use Rattle.protobuf_parse_check.specs.declared.report.FileReport.{FileReport}
use Rattle.protobuf_parse_check.specs.declared.report.FileState.TheVariants.{Sound}
use Rattle.protobuf_parse_check.specs.Laws.{IsAsInRun, QuietDescriptorsAreRuns, QuietFilesAreRuns}
use Rattle.protobuf_parse_check.specs.Laws.{QuietIsAccepted, QuietOrderIsRuns, TellsNothing}
use Rattle.protobuf_parse_check.specs.Laws.{checked_of}
use Rattle.protobuf_parse_check.specs.Reports.{AreListedIn, AreReports, Checked, Clash, clash_in}
use Rattle.protobuf_parse_check.specs.Reports.{clashes_in, files_of, is_faulty, is_same_file}
use Rattle.protobuf_parse_check.specs.Reports.{is_settled, is_troubled, state_by, state_of}
use Rattle.protobuf_parse_check.specs.SoFar.{IsOrdered}
use Rattle.protobuf_parse_check.specs.Trimmed.{told_places, trimmed}
use Rattle.protobuf_parse_check.proofs.Ordered.{is-ordered}
use Rattle.protobuf_parse_check.proofs.Orders.{reaches-before, split-at}
use Rattle.protobuf_parse_check.proofs.Settled.{calm-by, faultless, none-among, none-is}
use Rattle.protobuf_parse_check.proofs.Settled.{none-of-any}
use Rattle.protobuf_parse_check.proofs.Settled.{none-stands, nothing-in, nothing-is, settled}
use Rattle.protobuf_parse_check.proofs.Settled.{told-none, untroubled, untroubled-by}
use Rattle.protobuf_parse_check.proofs.Untrimmed.{loses-none, same-tree, untold-places}
use Rattle.protobuf_parse_check.proofs.Untrimmed.{untold-trees}

-- ** steps

-- a step that passes a test is one of which one does
pub step-passes : (f : Step → Bool) (s : Step) (steps : List Step) → Among steps s → f s ≡ true
    → list_any f steps ≡ true
step-passes f s [] m h = elim m [ ]
step-passes f s (_ ∷ steps) here h = or_left (f s) (list_any f steps) h
step-passes f s (x ∷ steps) (there m) h =
    or_right (f x) (list_any f steps) (step-passes f s steps m h)

pub step-between : (before more : List Step) (s : Step) → Among ((before ++ s ∷ []) ++ more) s
step-between [] more s = here
step-between (x ∷ before) more s = there (step-between before more s)

-- a file that is closed is one of them
pub closed-path : (s : Step) (steps : List Step) → Among steps s → (q : Text)
    → among q (closed_paths (s ∷ [])) ≡ true → among q (closed_paths steps) ≡ true
closed-path s [] m q h = elim m [ ]
closed-path s (_ ∷ steps) here q h = one s h
  where
    one : (x : Step) → among q (closed_paths (x ∷ [])) ≡ true
        → among q (closed_paths (x ∷ steps)) ≡ true
    one (closed p k) h =
        elim (or_cases (bytes_eq q p) false h) [
          | inl w ↦ or_left (bytes_eq q p) (among q (closed_paths steps)) w
          | inr w ↦ absurd (false_true w)
        ]
    one (opened by p) h = absurd (false_true h)
    one (told by p why) h = absurd (false_true h)
    one (held n p r) h = absurd (false_true h)
closed-path s (x ∷ steps) (there m) q h = one x (closed-path s steps m q h)
  where
    one : (x : Step) → among q (closed_paths steps) ≡ true
        → among q (closed_paths (x ∷ steps)) ≡ true
    one (closed p k) h = or_right (bytes_eq q p) (among q (closed_paths steps)) h
    one (opened by p) h = h
    one (told by p why) h = h
    one (held n p r) h = h

-- and each of them is closed
pub path-closed : (steps : List Step) (q : Text) → among q (closed_paths steps) ≡ true
    → (k : ℕ) × Among steps (closed q k)
path-closed [] q h = absurd (false_true h)
path-closed (closed p k ∷ steps) q h =
    elim (bool_cases (bytes_eq q p)) [
      | inl w ↦ (
        k,
        subst (λ (z : Text). Among (closed p k ∷ steps) (closed z k)) (sym (text-true q p w)) here,
      )
      | inr w ↦
          let rest : among q (closed_paths steps) ≡ true = (rw w at h) in
          let r = path-closed steps q rest in (r.0, there r.1)
    ]
path-closed (opened by p ∷ steps) q h = let r = path-closed steps q h in (r.0, there r.1)
path-closed (told by p why ∷ steps) q h = let r = path-closed steps q h in (r.0, there r.1)
path-closed (held n p r ∷ steps) q h = let k = path-closed steps q h in (k.0, there k.1)

-- none of the steps is a clash where there are none
front_none : (xs ys : List Clash) → xs ++ ys ≡ [] → xs ≡ []
front_none [] ys h = refl
front_none (x ∷ xs) ys h = cc

back_none : (xs ys : List Clash) → xs ++ ys ≡ [] → ys ≡ []
back_none [] ys h = h
back_none (x ∷ xs) ys h = cc

clash-none : (files : Files) (s : Step) (steps : List Step) → Among steps s
    → clashes_in files steps ≡ [] → clash_in files s ≡ []
clash-none files s [] m h = elim m [ ]
clash-none files s (_ ∷ steps) here h = front_none (clash_in files s) (clashes_in files steps) h
clash-none files s (x ∷ steps) (there m) h =
    clash-none files s steps m (back_none (clash_in files x) (clashes_in files steps) h)

not_clashing : (b : Bool) (x : Clash) → (if b then [] else x ∷ []) ≡ [] → b ≡ true
not_clashing true x h = refl
not_clashing false x h = cc

pub same-there : (files : Files) (n : ℕ) (p : Text) (r : ℕ) (steps : List Step)
    → Among steps (held n p r) → clashes_in files steps ≡ [] → is_same_file files p r ≡ true
same-there files n p r steps m h =
    not_clashing (is_same_file files p r) (record { input = n; path = p; read = r })
    (clash-none files (held n p r) steps m h)

-- there are none where none of the steps is one
same-all : (files : Files) (steps : List Step)
    → ((n : ℕ) (p : Text) (r : ℕ) → Among steps (held n p r) → is_same_file files p r ≡ true)
    → clashes_in files steps ≡ []
same-all files [] all = refl
same-all files (held n p r ∷ steps) all =
    let x : Clash = record { input = n; path = p; read = r } in
    ap (λ (b : Bool). (if b then [] else x ∷ []) ++ clashes_in files steps) (all n p r here)
    ∙ same-all files steps (λ m q k h. all m q k (there h))
same-all files (opened by p ∷ steps) all = same-all files steps (λ m q k h. all m q k (there h))
same-all files (told by p why ∷ steps) all = same-all files steps (λ m q k h. all m q k (there h))
same-all files (closed p k ∷ steps) all = same-all files steps (λ m q j h. all m q j (there h))

-- where no event fails none fails at a step
pub none-fails : (test : Event → Bool) (inputs : List Input) (s : Step) (steps : List Step)
    → Among steps s → find test (map (event_of inputs) steps) ≡ None
    → test (event_of inputs s) ≡ false
none-fails test inputs s [] m h = elim m [ ]
none-fails test inputs s (_ ∷ steps) here h =
    (find-head test (event_of inputs s) (map (event_of inputs) steps) h).0
none-fails test inputs s (x ∷ steps) (there m) h =
    none-fails test inputs s steps m
    (find-head test (event_of inputs x) (map (event_of inputs) steps) h).1

-- the files that are elaborated are those that are closed
elabs-are : (inputs : List Input) (steps : List Step)
    → elab_paths (map (event_of inputs) steps) ≡ closed_paths steps
elabs-are inputs [] = refl
elabs-are inputs (opened by p ∷ steps) = elabs-are inputs steps
elabs-are inputs (told by p (is_unread n) ∷ steps) = elabs-are inputs steps
elabs-are inputs (told by p is_cycle ∷ steps) = elabs-are inputs steps
elabs-are inputs (told by p (is_too_long i) ∷ steps) = elabs-are inputs steps
elabs-are inputs (closed p k ∷ steps) = ap (λ zs. p ∷ zs) (elabs-are inputs steps)
elabs-are inputs (held n p r ∷ steps) = elabs-are inputs steps

pub quiet-order-is-runs : QuietOrderIsRuns
quiet-order-is-runs trees inputs untold =
    sym (elabs-are inputs (load_steps trees inputs))
    ∙ ap elab_paths (sym (load-is-run trees inputs untold))

not_false : (b : Bool) → not b ≡ false → b ≡ true
not_false true h = refl
not_false false h = cc

module _ (files : Files) (inputs : List Input) (reached seen : Text → List Text)
    (read : WereRead files) (lists : AreListedIn (checked_of files inputs reached seen)) where
  abbrev pub c : Checked
  c = checked_of files inputs reached seen

  abbrev pub order : List Text
  order = closed_paths c.steps

  -- the files as the check has them
  abbrev pub cut : Files
  cut = files_of c

  pub ordered : IsOrdered c
  ordered = is-ordered files.bundled files.reads files.trees read.trees inputs reached seen lists

  pub tree-of : (p : Text) → among p order ≡ true → (t : FileSyntax) × (files.trees p ≡ Some t)
  tree-of p m =
      let s = split-at p order m in
      let f = imports-come-first files.trees inputs s.0 s.1 p s.2 in
      (f.0, f.1)

  pub reached-there : (p q : Text) → among p order ≡ true → among q (c.reached p) ≡ true
      → among q order ≡ true
  reached-there p q m r =
      let s = split-at p order m in
      elim (reaches-before c ordered p q s.0 s.1 s.2 ((lists.just.reaches p).only q r)) [
        | inl w ↦ subst (λ (z : Text). among z order ≡ true) w m
        | inr w ↦ subst (λ (zs : List Text). among q zs ≡ true) (sym s.2)
            (among-append q s.0 (p ∷ s.1) ∙ or_left (among q s.0) (among q (p ∷ s.1)) w)
      ]

  pub seen-reached : (p q : Text) → among q (c.seen p) ≡ true → among q (c.reached p) ≡ true
  seen-reached p q m =
      (lists.just.reaches p).all q (sees-reaches cut.trees p q ((lists.just.sees p).only q m))

  -- ** where no step tells something

  module _ (untold : list_any tells c.steps ≡ false) where
    clear : (q : Text) → told_places c.steps q ≡ []
    clear q = untold-places c.steps q untold

    abbrev with_trees : Trees → Files
    with_trees trees = record {
      bundled = files.bundled;
      reads = files.reads;
      trees = trees;
      reached = reached;
      seen = seen;
    }

    -- the files of the run, with the lists of the check
    abbrev listed : Files
    listed = with_trees files.trees

    whole-trees : cut.trees ≡ files.trees
    whole-trees = untold-trees c.steps files.trees untold

    same-files : cut ≡ listed
    same-files = ap with_trees whole-trees

    listed-read : WereRead listed
    listed-read = record {
      trees = read.trees;
      listed = subst (λ (z : Trees). FilesAreListed z reached seen) whole-trees lists.just;
    }

    alike-at : (p : Text) → IsAlike files listed p
    alike-at p = alike files listed p read listed-read (λ q h. refl)

    into-check : (p : Text) → faults_at files p (files.trees p) ≡ []
        → faults_at cut p (cut.trees p) ≡ []
    into-check p h =
        subst (λ (fs : Files). faults_at fs p (fs.trees p) ≡ []) (sym same-files)
        (none-stands (faults_at listed p (files.trees p))
        (λ f m. nothing-in (faults_at files p (files.trees p)) f h ((alike-at p).only f m)))

    into-run : (p : Text) → faults_at cut p (cut.trees p) ≡ []
        → faults_at files p (files.trees p) ≡ []
    into-run p h =
        let k : faults_at listed p (files.trees p) ≡ [] =
        subst (λ (fs : Files). faults_at fs p (fs.trees p) ≡ []) same-files h in
        none-stands (faults_at files p (files.trees p))
        (λ f m. nothing-in (faults_at listed p (files.trees p)) f k ((alike-at p).stay f m))

  -- ** where nothing is told

  module _ (quiet : TellsNothing c) where
    calm : (p : Text) → among p order ≡ true → is_faulty c p ≡ false
    calm p m = none-of-any (is_faulty c) order p quiet.files m

    no-trouble : (p : Text) → among p order ≡ true → is_troubled c p ≡ false
    no-trouble p m =
        let t = tree-of p m in
        untroubled c ordered p t.0 t.1 (clear quiet.steps p) (λ q k. clear quiet.steps q) (calm p m)

    none-below : (p : Text) → among p order ≡ true → (q : Text) → among q (c.reached p) ≡ true
        → is_troubled c q ≡ false
    none-below p m q r = no-trouble q (reached-there p q m r)

    no-fault : (p : Text) → among p order ≡ true → faults_at files p (files.trees p) ≡ []
    no-fault p m =
        let s = split-at p order m in
        let t = tree-of p m in
        into-run quiet.steps p
        (faultless c ordered p t.0 t.1 (none-below p m) s.0 s.1 s.2 (calm p m))

    other-fine : (s : Step) → Among c.steps s
        → IsOther files.trees inputs (fails files) (λ p. refl) (λ i. refl) (λ a p. refl)
        (event_of inputs s)
        → fails files (event_of inputs s) ≡ true → ⊥
    other-fine (opened by p) m o h = o
    other-fine (told by p (is_unread n)) m o h = o
    other-fine (told by p is_cycle) m o h = o
    other-fine (told by p (is_too_long i)) m o h = o
    other-fine (closed p k) m o h =
        let loaded : among p order ≡ true =
        closed-path (closed p k) c.steps m p (or_left (bytes_eq p p) false (text-same p)) in
        never_both (not (is_nothing (faults_at files p (files.trees p)))) h
        (none-is (faults_at files p (files.trees p)) (no-fault p loaded))
    other-fine (held n p r) m o h =
        never_both (not (is_same_file cut p r)) h
        (ap not (same-there cut n p r c.steps m quiet.clashes))

    pub clean : IsClean files inputs
    clean =
        elim (fares-whole files.trees inputs (fails files) (λ p. refl) (λ i. refl) (λ a p. refl)) [
          | inl u ↦ ap (find (fails files)) u.2 ∙ u.0
          | inr r ↦
              let m : Among c.steps r.last =
              subst (λ (z : List Step). Among z r.last) (sym r.split)
              (step-between r.before r.more r.last) in
              absurd (elim r.cause [
                | inl w ↦ never_both (list_any tells c.steps)
                    (step-passes tells r.last c.steps m w) quiet.steps
                | inr w ↦ other-fine r.last m w r.ending
              ])
        ]

    pub sound-at : (p : Text) → among p order ≡ true → state_of c p ≡ Sound
    sound-at p m =
        ap (λ (b : Bool). state_by b (list_any (is_faulty c) (c.reached p))) (calm p m)
        ∙ ap (λ (b : Bool). state_by false b) (none-among (is_faulty c) (c.reached p)
        (λ q r. calm q (reached-there p q m r)))

    pub as-in-run : (p : Text) (t : FileSyntax) → among p order ≡ true → files.trees p ≡ Some t
        → IsAsInRun files c p t
    as-in-run p t m is =
        let same : trimmed c.steps p t ≡ t = same-tree c.steps p (clear quiet.steps p) t in
        let u = trimmed c.steps p t in
        let set : is_settled c p ≡ true = settled c ordered p t is (none-below p m) in
        let once = once-told files p t (others files p t)
        (ap (faults_at files p) (sym is) ∙ no-fault p m) in
        record {
          whole = same;
          settled = set;
          state = sound-at p m;
          faults = told-none c ordered p t is (none-below p m) (calm p m);
          descriptor = ap (λ (b : Bool). if b then file_of (environment_of cut p u) p u
              else plain_of cut p u) set
              ∙ ap (λ (fs : Files). file_of (environment_of fs p u) p u) (same-files quiet.steps)
              ∙ ap (λ (x : FileSyntax). file_of (environment_of (listed quiet.steps) p x) p x) same
              ∙ (alike-at quiet.steps p).becomes t once;
        }

    are-descriptors : (ps : List Text) (reports : List FileReport) → AreReports c ps reports
        → ((p : Text) → among p ps ≡ true → among p order ≡ true)
        → AreDescriptors files ps (map (λ (r : FileReport). r.descriptor) reports)
    are-descriptors [] [] h within = tt
    are-descriptors [] (r ∷ rs) h within = absurd h
    are-descriptors (p ∷ ps) [] h within = absurd h
    are-descriptors (p ∷ ps) (r ∷ rs) h within = (
      (
        h.0.tree,
        h.0.whole,
        h.0.descriptor ∙ (as-in-run p h.0.tree
            (within p (or_left (bytes_eq p p) (among p ps) (text-same p))) h.0.whole).descriptor,
      ),
      are-descriptors ps rs h.1 (λ q k. within q (or_right (bytes_eq q p) (among q ps) k)),
    )

    pub descriptors-are : (reports : List FileReport) → AreReports c order reports
        → AreDescriptors files (run_order files.trees inputs)
        (map (λ (r : FileReport). r.descriptor) reports)
    descriptors-are reports h =
        subst (λ (ps : List Text). AreDescriptors files ps
        (map (λ (r : FileReport). r.descriptor) reports))
        (quiet-order-is-runs files.trees inputs quiet.steps)
        (are-descriptors order reports h (λ p m. m))

  -- ** where the run is accepted

  module _ (untold : list_any tells c.steps ≡ false)
      (fine : find (fails files) (map (event_of inputs) c.steps) ≡ None) where
    stands-none : (p : Text) → among p order ≡ true → faults_at files p (files.trees p) ≡ []
    stands-none p m =
        let k = path-closed c.steps p m in
        nothing-is (faults_at files p (files.trees p))
        (none-fails (fails files) inputs (closed p k.0) c.steps k.1 fine)

    trouble-none : (p : Text) → among p order ≡ true → is_troubled c p ≡ false
    trouble-none p m =
        let t = tree-of p m in
        untroubled-by c ordered p t.0 t.1 (into-check untold p (stands-none p m))
        (loses-none c.steps p (clear untold p) t.0)

    faulty-none : (p : Text) → among p order ≡ true → is_faulty c p ≡ false
    faulty-none p m =
        let t = tree-of p m in
        calm-by c ordered p t.0 t.1 (into-check untold p (stands-none p m))
        (loses-none c.steps p (clear untold p) t.0)
        (λ q r. trouble-none q (reached-there p q m r))

    nothing-told : TellsNothing c
    nothing-told = record {
      steps = untold;
      clashes = same-all cut c.steps (λ n p r m.
          not_false (is_same_file cut p r)
          (none-fails (fails files) inputs (held n p r) c.steps m fine));
      files = none-among (is_faulty c) order faulty-none;
    }

  pub tells-nothing : IsClean files inputs → TellsNothing c
  tells-nothing accepted =
      elim (fares-whole files.trees inputs (fails files) (λ p. refl) (λ i. refl) (λ a p. refl)) [
        | inl u ↦ nothing-told u.1 u.0
        | inr r ↦
            let ends : find (fails files) (events files.trees inputs)
            ≡ Some (event_of inputs r.last) =
            ap (find (fails files)) (r.kept_is
            ∙ append_assoc (map (event_of inputs) r.before) (event_of inputs r.last ∷ []) r.later)
            ∙ find-after (fails files) (map (event_of inputs) r.before) r.later
            (event_of inputs r.last) r.quiet r.ending in
            absurd (none_some (event_of inputs r.last) (sym accepted ∙ ends))
      ]

pub quiet-files-are-runs : QuietFilesAreRuns
quiet-files-are-runs files inputs reached seen read lists quiet =
    as-in-run files inputs reached seen read lists quiet

pub quiet-descriptors-are-runs : QuietDescriptorsAreRuns
quiet-descriptors-are-runs files inputs reached seen read lists quiet =
    descriptors-are files inputs reached seen read lists quiet

pub quiet-is-accepted : QuietIsAccepted
quiet-is-accepted files inputs reached seen read lists =
    (clean files inputs reached seen read lists, tells-nothing files inputs reached seen read lists)
