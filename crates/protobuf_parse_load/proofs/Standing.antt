-- Where a load stands, with a step, a read or a file more.
use Rattle.std.proofs.Common.{◌≡◌, ◌⊎◌, inl, inr, ℕ, suc, Bool, true, false, List, []}
use Rattle.std.proofs.Common.{◌∷◌, ◌++◌, Option, Some, None, refl, sym, ◌∙◌, ap, subst, length}
use Rattle.std.proofs.Common.{append-nil, is_some, cond}
use Rattle.std.specs.Prelude.{slice_get, bytes_eq, ◌||◌}
use Rattle.protobuf_parse_base.specs.PathViews.{path_buf_text}
use Rattle.protobuf_parse_syntax.specs.Trees.{FileSyntax}
use Rattle.protobuf_parse_model.specs.Descriptors.{Text}
use Rattle.protobuf_parse_run.specs.declared.log.ReadEntry.{ReadEntry}
use Rattle.protobuf_parse_run.specs.declared.log.ReadOutcome.{ReadOutcome}
use Rattle.protobuf_parse_run.specs.Loading.{read_paths}
use Rattle.protobuf_parse_run.specs.Run.{AreAnswered, IsTheTree, IsTree, Legal, first_read}
use Rattle.protobuf_parse_run.specs.Run.{text_given}
use Rattle.protobuf_parse_run.specs.Walks.{Asked, FileRead, among, the_reader}
use Rattle.protobuf_parse_run.proofs.Keeping.{bool_cases, false_true, never_both, not_true}
use Rattle.protobuf_parse_run.proofs.Keeping.{or_cases, or_left, or_right, text-same, text-true}
use Rattle.protobuf_parse_load.specs.declared.known.Known.{Known}
use Rattle.protobuf_parse_load.specs.declared.known.Known.TheVariants.{Unreadable, Loaded}
use Rattle.protobuf_parse_load.specs.declared.log.LoadedFile.{LoadedFile}
use Rattle.protobuf_parse_load.specs.declared.log.UnreadFile.{UnreadFile}
use Rattle.protobuf_parse_load.specs.declared.step.LoadStep.{LoadStep}
use Rattle.protobuf_parse_load.specs.Frames.{AddsStep, GoesOn, Remembers, raised}
use Rattle.protobuf_parse_load.specs.Loads.{AreLoadedFiles, AreUnreadFiles, IsFirstRead}
use Rattle.protobuf_parse_load.specs.Loads.{IsLoadSoFar}
use Rattle.protobuf_parse_load.specs.Loads.{IsLoadedFile, IsUnreadFile, ReadFiles, step_view}
use Rattle.protobuf_parse_load.specs.Loads.{steps_view}
use Rattle.protobuf_parse_load.specs.Steps.{AskedBy, At, Step, closed, closed_paths, closes, held}
use Rattle.protobuf_parse_load.specs.Steps.{is_unread, known, known_by, misses, opened, opens}
use Rattle.protobuf_parse_load.specs.Steps.{tells}
use Rattle.protobuf_parse_load.specs.Steps.{told}
use Rattle.protobuf_parse_load.specs.StepLists.{or_else}
use Rattle.protobuf_parse_load.proofs.Learning.{known-push, views-push}

-- ** lists with one more

pub answers-push : (legal : Legal) (reads : List FileRead) (log : List ReadEntry) (r : FileRead)
    (e : ReadEntry) → AreAnswered legal reads log → path_buf_text e.path ≡ r.path
    → legal r.asked r.path e.outcome → AreAnswered legal (reads ++ r ∷ []) (log ++ e ∷ [])
answers-push legal [] [] r e all named ok = (named, ok, tt)
answers-push legal [] (x ∷ log) r e all named ok = absurd all
answers-push legal (x ∷ reads) [] r e all named ok = absurd all
answers-push legal (x ∷ reads) (y ∷ log) r e all named ok =
    (all.0, all.1, answers-push legal reads log r e all.2 named ok)

loaded-push : (files : ReadFiles) (paths : List Text) (loaded : List LoadedFile) (p : Text)
    (f : LoadedFile) → AreLoadedFiles files paths loaded → IsLoadedFile files p f
    → AreLoadedFiles files (paths ++ p ∷ []) (loaded ++ f ∷ [])
loaded-push files [] [] p f all is = (is, tt)
loaded-push files [] (x ∷ loaded) p f all is = absurd all
loaded-push files (q ∷ paths) [] p f all is = absurd all
loaded-push files (q ∷ paths) (x ∷ loaded) p f all is =
    (all.0, loaded-push files paths loaded p f all.1 is)

unread-push : (files : ReadFiles) (reads : List FileRead) (unread : List UnreadFile) (r : FileRead)
    (f : UnreadFile) → AreUnreadFiles files reads unread → IsUnreadFile files r f
    → AreUnreadFiles files (reads ++ r ∷ []) (unread ++ f ∷ [])
unread-push files [] [] r f all is = (is, tt)
unread-push files [] (x ∷ unread) r f all is = absurd all
unread-push files (q ∷ reads) [] r f all is = absurd all
unread-push files (q ∷ reads) (x ∷ unread) r f all is =
    (all.0, unread-push files reads unread r f all.1 is)

unread-count : (files : ReadFiles) (reads : List FileRead) (unread : List UnreadFile)
    → AreUnreadFiles files reads unread → length reads ≡ length unread
unread-count files [] [] all = refl
unread-count files [] (x ∷ unread) all = absurd all
unread-count files (r ∷ reads) [] all = absurd all
unread-count files (r ∷ reads) (x ∷ unread) all =
    ap suc (unread-count files reads unread all.1)

pub answers-count : (legal : Legal) (reads : List FileRead) (log : List ReadEntry)
    → AreAnswered legal reads log → length reads ≡ length log
answers-count legal [] [] all = refl
answers-count legal [] (x ∷ log) all = absurd all
answers-count legal (r ∷ reads) [] all = absurd all
answers-count legal (r ∷ reads) (x ∷ log) all = ap suc (answers-count legal reads log all.2)

pub closed-append : (steps more : List Step)
    → closed_paths (steps ++ more) ≡ closed_paths steps ++ closed_paths more
closed-append [] more = refl
closed-append (opened by p ∷ steps) more = closed-append steps more
closed-append (told by p why ∷ steps) more = closed-append steps more
closed-append (closed p h ∷ steps) more = ap (λ z. p ∷ z) (closed-append steps more)
closed-append (held n p r ∷ steps) more = closed-append steps more

-- a step is added, as a Rust value and as what it says
pub step-added : (old new : List LoadStep) (a : List Step) (s : Step) → steps_view old ≡ a
    → AddsStep old new s → steps_view new ≡ a ++ s ∷ []
step-added old new a s is adds =
    ap steps_view adds.1 ∙ views-push old adds.0
    ∙ ap (λ z. z ++ step_view adds.0 ∷ []) is ∙ ap (λ z. a ++ z ∷ []) adds.2

closed-same : (files : ReadFiles) (steps : List Step) (s : Step) (loaded : List LoadedFile)
    → closed_paths (s ∷ []) ≡ [] → AreLoadedFiles files (closed_paths steps) loaded
    → AreLoadedFiles files (closed_paths (steps ++ s ∷ [])) loaded
closed-same files steps s loaded none all =
    rw (closed-append steps (s ∷ []), none, append-nil (closed_paths steps)) all

-- ** where a load stands

pub stands-raised : (legal : Legal) (files : ReadFiles) (a : At) (log : List ReadEntry)
    (steps : List LoadStep) (loaded : List LoadedFile) (unread : List UnreadFile) (k : ℕ)
    → IsLoadSoFar legal files a log steps loaded unread
    → IsLoadSoFar legal files (raised k a) log steps loaded unread
stands-raised legal files a log steps loaded unread k s = record {
  steps_are = s.steps_are;
  answers = s.answers;
  loaded_are = s.loaded_are;
  unread_are = s.unread_are;
}

pub stands-tells : (legal : Legal) (files : ReadFiles) (a : At) (log : List ReadEntry)
    (old new : List LoadStep) (loaded : List LoadedFile) (unread : List UnreadFile) (s : Step)
    → closed_paths (s ∷ []) ≡ [] → IsLoadSoFar legal files a log old loaded unread
    → AddsStep old new s → IsLoadSoFar legal files (tells s a) log new loaded unread
stands-tells legal files a log old new loaded unread s none is adds = record {
  steps_are = step-added old new a.steps s is.steps_are adds;
  answers = is.answers;
  loaded_are = closed-same files a.steps s loaded none is.loaded_are;
  unread_are = is.unread_are;
}

pub stands-misses : (legal : Legal) (files : ReadFiles) (a : At) (log more : List ReadEntry)
    (old new : List LoadStep) (loaded : List LoadedFile) (unread all : List UnreadFile)
    (by : AskedBy) (asked : Asked) (p : Text) (e : ReadEntry) (f : UnreadFile)
    → IsLoadSoFar legal files a log old loaded unread → more ≡ log ++ e ∷ []
    → path_buf_text e.path ≡ p → legal asked p e.outcome
    → AddsStep old new (told by p (is_unread (length unread))) → all ≡ unread ++ f ∷ []
    → IsUnreadFile files (record { asked = asked; path = p }) f
    → IsLoadSoFar legal files (misses by asked p a) more new loaded all
stands-misses legal files a log more old new loaded unread all by asked p e f is more_is named ok
    adds all_is missed =
    let r : FileRead = record { asked = asked; path = p } in
    let count : length a.unread ≡ length unread = unread-count files a.unread unread is.unread_are
    in
    let s : Step = told by p (is_unread (length a.unread)) in
    let step : AddsStep old new s = rw count adds in
    record {
      steps_are = step-added old new a.steps s is.steps_are step;
      answers = rw more_is (answers-push legal a.reads log r e is.answers named ok);
      loaded_are = closed-same files a.steps s loaded refl is.loaded_are;
      unread_are = rw all_is (unread-push files a.unread unread r f is.unread_are missed);
    }

pub stands-opens : (legal : Legal) (files : ReadFiles) (a : At) (log more : List ReadEntry)
    (old new : List LoadStep) (loaded : List LoadedFile) (unread : List UnreadFile)
    (by : AskedBy) (asked : Asked) (p : Text) (e : ReadEntry)
    → IsLoadSoFar legal files a log old loaded unread → more ≡ log ++ e ∷ []
    → path_buf_text e.path ≡ p → legal asked p e.outcome → AddsStep old new (opened by p)
    → IsLoadSoFar legal files (opens by asked p a) more new loaded unread
stands-opens legal files a log more old new loaded unread by asked p e is more_is named ok adds =
    let r : FileRead = record { asked = asked; path = p } in
    record {
      steps_are = step-added old new a.steps (opened by p) is.steps_are adds;
      answers = rw more_is (answers-push legal a.reads log r e is.answers named ok);
      loaded_are = closed-same files a.steps (opened by p) loaded refl is.loaded_are;
      unread_are = is.unread_are;
    }

pub stands-closes : (legal : Legal) (files : ReadFiles) (a : At) (log : List ReadEntry)
    (old new : List LoadStep) (loaded all : List LoadedFile) (unread : List UnreadFile)
    (p : Text) (h : ℕ) (f : LoadedFile)
    → IsLoadSoFar legal files a log old loaded unread → AddsStep old new (closed p (suc h))
    → all ≡ loaded ++ f ∷ [] → IsLoadedFile files p f
    → IsLoadSoFar legal files (closes p (raised h a)) log new all unread
stands-closes legal files a log old new loaded all unread p h f is adds all_is file = record {
  steps_are = step-added old new a.steps (closed p (suc h)) is.steps_are adds;
  answers = is.answers;
  loaded_are = rw (all_is, closed-append a.steps (closed p (suc h) ∷ []))
      (loaded-push files (closed_paths a.steps) loaded p f is.loaded_are file);
  unread_are = is.unread_are;
}

-- an input's own file is read, whose path is loaded
abbrev pub holding : ℕ → Text → Text → At → At
holding n p own a = record {
  steps = a.steps ++ held n p (length a.reads) ∷ [];
  reads = a.reads ++ record { asked = the_reader own; path = p } ∷ [];
  unread = a.unread;
  height = a.height;
}

pub stands-holds : (legal : Legal) (files : ReadFiles) (a : At) (log more : List ReadEntry)
    (old new : List LoadStep) (loaded : List LoadedFile) (unread : List UnreadFile)
    (n : ℕ) (p own : Text) (e : ReadEntry)
    → IsLoadSoFar legal files a log old loaded unread → more ≡ log ++ e ∷ []
    → path_buf_text e.path ≡ p → legal (the_reader own) p e.outcome
    → AddsStep old new (held n p (length log))
    → IsLoadSoFar legal files (holding n p own a) more new loaded unread
stands-holds legal files a log more old new loaded unread n p own e is more_is named ok adds =
    let r : FileRead = record { asked = the_reader own; path = p } in
    let count : length a.reads ≡ length log = answers-count legal a.reads log is.answers in
    let s : Step = held n p (length a.reads) in
    let step : AddsStep old new s = rw count adds in
    record {
      steps_are = step-added old new a.steps s is.steps_are step;
      answers = rw more_is (answers-push legal a.reads log r e is.answers named ok);
      loaded_are = closed-same files a.steps s loaded refl is.loaded_are;
      unread_are = is.unread_are;
    }

-- ** the first read of a path

at-length : {A : Type 0} (xs : List A) (x : A) (ys : List A)
    → slice_get ((xs ++ x ∷ []) ++ ys) (length xs) ≡ Some x
at-length [] x ys = refl
at-length (y ∷ xs) x ys = at-length xs x ys

first-new : (p : Text) (xs : List ReadEntry) (e : ReadEntry) (ys : List ReadEntry)
    → path_buf_text e.path ≡ p → among p (read_paths xs) ≡ false
    → first_read p ((xs ++ e ∷ []) ++ ys) ≡ Some e.outcome
first-new p [] e ys named off =
    let here : bytes_eq p (path_buf_text e.path) ≡ true = rw named (text-same p) in rw here refl
first-new p (x ∷ xs) e ys named off =
    elim (bool_cases (bytes_eq p (path_buf_text x.path))) [
      | inl w ↦ absurd (never_both (among p (read_paths (x ∷ xs))) (or_left _ _ w) off)
      | inr w ↦ rw w (first-new p xs e ys named (rw w at off))
    ]

pub first-is : (files : ReadFiles) (bundled : List (Text × Text)) (old new : List ReadEntry)
    (e : ReadEntry) (p : Text) → GoesOn files bundled new → new ≡ old ++ e ∷ []
    → path_buf_text e.path ≡ p → among p (read_paths old) ≡ false
    → IsFirstRead files.reads p (length old)
first-is files bundled old new e p go is named off =
    let more = go.reads.0 in
    let reads : files.reads ≡ (old ++ e ∷ []) ++ more = go.reads.1 ∙ ap (λ z. z ++ more) is in
    record {
      entry = e;
      at = rw reads (at-length old e more);
      named = named;
      first = rw reads (first-new p old e more named off);
    }

-- what the first read gives
pub first-text : (files : ReadFiles) (bundled : List (Text × Text)) (old new : List ReadEntry)
    (e : ReadEntry) (p : Text) → GoesOn files bundled new → new ≡ old ++ e ∷ []
    → path_buf_text e.path ≡ p → among p (read_paths old) ≡ false
    → first_read p files.reads ≡ Some e.outcome
first-text files bundled old new e p go is named off =
    let more = go.reads.0 in
    let reads : files.reads ≡ (old ++ e ∷ []) ++ more = go.reads.1 ∙ ap (λ z. z ++ more) is in
    rw reads (first-new p old e more named off)

pub tree-is : (files : ReadFiles) (bundled : List (Text × Text)) (log : List ReadEntry)
    (p : Text) (o : ReadOutcome) (t : Option FileSyntax) → GoesOn files bundled log
    → first_read p files.reads ≡ Some o → IsTheTree (text_given bundled p (Some o)) t
    → files.trees p ≡ t
tree-is files bundled log p o t go first is =
    is.1 (files.trees p)
    (subst (λ (z : List (Text × Text)). IsTree (text_given z p (Some o)) (files.trees p))
    go.bundled_are
    (subst (λ (z : Option ReadOutcome). IsTree (text_given files.bundled p z) (files.trees p)) first
    (go.trees p)))

-- ** what is known of the paths that were read

pub unread-new : (chain : List Text) (steps : List Step) (log : List ReadEntry) (p : Text)
    → Remembers chain steps log → among p chain ≡ false → known p steps ≡ None
    → among p (read_paths log) ≡ false
unread-new chain steps log p has off none =
    not_true (among p (read_paths log)) (λ there. elim ((has p).0 there) [
      | inl w ↦ never_both (among p chain) w off
      | inr w ↦ false_true (subst (λ (z : Option Known). is_some z ≡ true) none w)
    ])

some-or_else : (o r : Option Known) → is_some o ≡ true → is_some (or_else o r) ≡ true
some-or_else None r h = cc
some-or_else (Some k) r h = refl

pub known-more : (p : Text) (steps : List Step) (s : Step) → is_some (known p steps) ≡ true
    → is_some (known p (steps ++ s ∷ [])) ≡ true
known-more p steps s h =
    rw (known-push p steps s) (some-or_else (known p steps) (known_by p s None) h)

or_else-right : (o r : Option Known) → is_some r ≡ true → is_some (or_else o r) ≡ true
or_else-right None r h = h
or_else-right (Some k) r h = refl

pub known-last : (p : Text) (steps : List Step) (s : Step) → is_some (known_by p s None) ≡ true
    → is_some (known p (steps ++ s ∷ [])) ≡ true
known-last p steps s h =
    rw (known-push p steps s) (or_else-right (known p steps) (known_by p s None) h)

among-append : (p : Text) (xs ys : List Text) → among p (xs ++ ys) ≡ (among p xs || among p ys)
among-append p [] ys = refl
among-append p (x ∷ xs) ys =
    elim (bool_cases (bytes_eq p x)) [ inl w ↦ rw w refl | inr w ↦ rw w (among-append p xs ys) ]

pub among-left : (p : Text) (xs ys : List Text) → among p xs ≡ true → among p (xs ++ ys) ≡ true
among-left p xs ys h = among-append p xs ys ∙ or_left _ _ h

pub among-last : (p q : Text) (xs : List Text) → bytes_eq p q ≡ true
    → among p (xs ++ q ∷ []) ≡ true
among-last p q xs h = among-append p xs (q ∷ []) ∙ or_right _ _ (or_left _ _ h)

pub among-end : (p q : Text) (xs : List Text) → among p (xs ++ q ∷ []) ≡ true
    → (among p xs ≡ true) ⊎ (bytes_eq p q ≡ true)
among-end p q xs h =
    elim (or_cases (among p xs) (among p (q ∷ [])) (sym (among-append p xs (q ∷ [])) ∙ h)) [
      | inl w ↦ inl w
      | inr w ↦ elim (or_cases (bytes_eq p q) false w) [ inl z ↦ inr z | inr z ↦ absurd (cc) ]
    ]

paths-push : (log : List ReadEntry) (e : ReadEntry)
    → read_paths (log ++ e ∷ []) ≡ read_paths log ++ path_buf_text e.path ∷ []
paths-push [] e = refl
paths-push (x ∷ log) e = ap (λ z. path_buf_text x.path ∷ z) (paths-push log e)

known-end : (p : Text) (steps : List Step) (s : Step)
    → is_some (known p (steps ++ s ∷ [])) ≡ true
    → (is_some (known p steps) ≡ true) ⊎ (is_some (known_by p s None) ≡ true)
known-end p steps s h = cases (known p steps) (known_by p s None) (rw (known-push p steps s) at h)
  where
    cases : (o r : Option Known) → is_some (or_else o r) ≡ true
        → (is_some o ≡ true) ⊎ (is_some r ≡ true)
    cases None r h = inr h
    cases (Some k) r h = inl refl

-- on the chain, or known by a step alone
abbrev pub IsThere : List Text → Step → Text → Type 0
IsThere chain s q = (among q chain ≡ true) ⊎ (is_some (known_by q s None) ≡ true)

-- one step more, and maybe reads
remembers-step : (chain after : List Text) (steps : List Step) (s : Step)
    (log more : List ReadEntry) → Remembers chain steps log
    → ((q : Text) → among q (read_paths more) ≡ true
    → (among q (read_paths log) ≡ true) ⊎ IsThere after s q)
    → ((q : Text) → among q chain ≡ true → IsThere after s q)
    → ((q : Text) → among q (read_paths log) ≡ true → among q (read_paths more) ≡ true)
    → ((q : Text) → IsThere after s q → among q (read_paths more) ≡ true)
    → Remembers after (steps ++ s ∷ []) more
remembers-step chain after steps s log more has new leaves stay come q = (there, back_again)
  where
    by_step : IsThere after s q
        → (among q after ≡ true) ⊎ (is_some (known q (steps ++ s ∷ [])) ≡ true)
    by_step (inl w) = inl w
    by_step (inr w) = inr (known-last q steps s w)

    by_before : (among q chain ≡ true) ⊎ (is_some (known q steps) ≡ true)
        → (among q after ≡ true) ⊎ (is_some (known q (steps ++ s ∷ [])) ≡ true)
    by_before (inl w) = by_step (leaves q w)
    by_before (inr w) = inr (known-more q steps s w)

    there : among q (read_paths more) ≡ true
        → (among q after ≡ true) ⊎ (is_some (known q (steps ++ s ∷ [])) ≡ true)
    there h = elim (new q h) [ inl w ↦ by_before ((has q).0 w) | inr w ↦ by_step w ]

    back_again : (among q after ≡ true) ⊎ (is_some (known q (steps ++ s ∷ [])) ≡ true)
        → among q (read_paths more) ≡ true
    back_again (inl w) = come q (inl w)
    back_again (inr w) = elim (known-end q steps s w) [
      | inl z ↦ stay q ((has q).1 (inr z))
      | inr z ↦ come q (inr z)
    ]

-- a read more
read-new : (log more : List ReadEntry) (e : ReadEntry) (p q : Text) → more ≡ log ++ e ∷ []
    → path_buf_text e.path ≡ p → among q (read_paths more) ≡ true
    → (among q (read_paths log) ≡ true) ⊎ (bytes_eq q p ≡ true)
read-new log more e p q is named there =
    rw named at (among-end q (path_buf_text e.path) (read_paths log)
    (rw (is, paths-push log e) at there))

read-stay : (log more : List ReadEntry) (e : ReadEntry) (q : Text) → more ≡ log ++ e ∷ []
    → among q (read_paths log) ≡ true → among q (read_paths more) ≡ true
read-stay log more e q is there =
    rw (is, paths-push log e) (among-left q (read_paths log) (path_buf_text e.path ∷ []) there)

read-last : (log more : List ReadEntry) (e : ReadEntry) (p q : Text) → more ≡ log ++ e ∷ []
    → path_buf_text e.path ≡ p → bytes_eq q p ≡ true → among q (read_paths more) ≡ true
read-last log more e p q is named same =
    rw (is, paths-push log e)
    (among-last q (path_buf_text e.path) (read_paths log) (rw named same))

pub remembers-tells : (chain : List Text) (steps : List Step) (s : Step) (log : List ReadEntry)
    → Remembers chain steps log
    → ((q : Text) → is_some (known_by q s None) ≡ true → is_some (known q steps) ≡ true)
    → Remembers chain (steps ++ s ∷ []) log
remembers-tells chain steps s log has again =
    remembers-step chain chain steps s log log has (λ q w. inl w) (λ q w. inl w) (λ q w. w)
    (λ q w. elim w [ inl z ↦ (has q).1 (inl z) | inr z ↦ (has q).1 (inr (again q z)) ])

pub remembers-opens : (chain : List Text) (steps : List Step) (by : AskedBy) (p : Text)
    (log more : List ReadEntry) (e : ReadEntry) → Remembers chain steps log → more ≡ log ++ e ∷ []
    → path_buf_text e.path ≡ p → Remembers (chain ++ p ∷ []) (steps ++ opened by p ∷ []) more
remembers-opens chain steps by p log more e has is named =
    remembers-step chain (chain ++ p ∷ []) steps (opened by p) log more has
    (λ q w. elim (read-new log more e p q is named w) [
      | inl z ↦ inl z
      | inr z ↦ inr (inl (among-last q p chain z))
    ])
    (λ q w. inl (among-left q chain (p ∷ []) w)) (λ q w. read-stay log more e q is w)
    (λ q w. elim w [
      | inl z ↦ elim (among-end q p chain z) [
        | inl y ↦ read-stay log more e q is ((has q).1 (inl y))
        | inr y ↦ read-last log more e p q is named y
      ]
      | inr z ↦ absurd (false_true z)
    ])

some-cond : (b : Bool) (k : Known) → b ≡ true → is_some (cond b (Some k) None) ≡ true
some-cond b k h = rw h refl

cond-some : (b : Bool) (k : Known) → is_some (cond b (Some k) None) ≡ true → b ≡ true
cond-some true k h = refl
cond-some false k h = absurd (false_true h)

pub remembers-misses : (chain : List Text) (steps : List Step) (by : AskedBy) (p : Text) (n : ℕ)
    (log more : List ReadEntry) (e : ReadEntry) → Remembers chain steps log → more ≡ log ++ e ∷ []
    → path_buf_text e.path ≡ p
    → Remembers chain (steps ++ told by p (is_unread n) ∷ []) more
remembers-misses chain steps by p n log more e has is named =
    remembers-step chain chain steps (told by p (is_unread n)) log more has
    (λ q w. elim (read-new log more e p q is named w) [
      | inl z ↦ inl z
      | inr z ↦ inr (inr (some-cond (bytes_eq q p) (Unreadable n) z))
    ])
    (λ q w. inl w) (λ q w. read-stay log more e q is w)
    (λ q w. elim w [
      | inl z ↦ read-stay log more e q is ((has q).1 (inl z))
      | inr z ↦ read-last log more e p q is named (cond-some (bytes_eq q p) (Unreadable n) z)
    ])

pub remembers-closes : (chain : List Text) (steps : List Step) (p : Text) (h : ℕ)
    (log : List ReadEntry) → Remembers (chain ++ p ∷ []) steps log
    → Remembers chain (steps ++ closed p h ∷ []) log
remembers-closes chain steps p h log has =
    remembers-step (chain ++ p ∷ []) chain steps (closed p h) log log has (λ q w. inl w)
    (λ q w. elim (among-end q p chain w) [
      | inl z ↦ inl z
      | inr z ↦ inr (some-cond (bytes_eq q p) (Loaded h) z)
    ])
    (λ q w. w)
    (λ q w. elim w [
      | inl z ↦ (has q).1 (inl (among-left q chain (p ∷ []) z))
      | inr z ↦ (has q).1
          (inl (among-last q p chain (cond-some (bytes_eq q p) (Loaded h) z)))
    ])

pub remembers-holds : (chain : List Text) (steps : List Step) (n : ℕ) (p : Text) (r : ℕ)
    (log more : List ReadEntry) (e : ReadEntry) → Remembers chain steps log → more ≡ log ++ e ∷ []
    → path_buf_text e.path ≡ p → is_some (known p steps) ≡ true
    → Remembers chain (steps ++ held n p r ∷ []) more
remembers-holds chain steps n p r log more e has is named some =
    remembers-step chain chain steps (held n p r) log more has
    (λ q w. elim (read-new log more e p q is named w) [
      | inl z ↦ inl z
      | inr z ↦ inl (rw (text-true q p z) ((has p).1 (inr some)))
    ])
    (λ q w. inl w) (λ q w. read-stay log more e q is w)
    (λ q w. elim w [
      | inl z ↦ read-stay log more e q is ((has q).1 (inl z))
      | inr z ↦ absurd (false_true z)
    ])
