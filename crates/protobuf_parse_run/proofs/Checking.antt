-- An input at a path of its own, held against what was loaded for its name.
use Rattle.std.proofs.Common.{◌≡◌, ℕ, zero, suc, Bool, true, false, not, ◌||◌, inl, inr, List, []}
use Rattle.std.proofs.Common.{◌∷◌, ◌++◌, Option, Some, Result, Ok, Err, refl, sym, ◌∙◌, ap, subst}
use Rattle.std.proofs.Common.{append-nil, length, arith}
use Rattle.std.specs.Prelude.{IfErr, OnOk, slice_get}
use Rattle.protobuf_parse_base.specs.PathViews.{path_buf_text}
use Rattle.protobuf_parse_model.specs.Descriptors.{Text}
use Rattle.protobuf_parse_run.specs.declared.fault.RunFault.{RunFault}
use Rattle.protobuf_parse_run.specs.declared.fault.RunFault.TheVariants as fault
use Rattle.protobuf_parse_run.specs.declared.loader.LoadedFile.{LoadedFile}
use Rattle.protobuf_parse_run.specs.declared.log.ReadEntry.{ReadEntry}
use Rattle.protobuf_parse_run.specs.declared.log.ReadOutcome.{ReadOutcome}
use Rattle.protobuf_parse_run.specs.Walks.{the_resolver, the_reader, Event, load, check, elab, has}
use Rattle.protobuf_parse_run.specs.Walks.{among, at, checks, FileRead, reads_in}
use Rattle.protobuf_parse_run.specs.Run.{fails}
use Rattle.protobuf_parse_run.specs.Run.{Files, AreAnswered, StandsInCheck, answer_at, Legal}
use Rattle.protobuf_parse_run.specs.Run.{are_same_bytes, first_read, text_for, text_given}
use Rattle.protobuf_parse_run.specs.Loading.{LoadedEntry, file_at, read_paths, Goes, GoesOn, Good}
use Rattle.protobuf_parse_run.specs.Loading.{Stops}
use Rattle.protobuf_parse_run.specs.Run.{OrMemory}
use Rattle.protobuf_parse_run.proofs.Keeping.{text-same, or_left, has-in, has-left, has-one}
use Rattle.protobuf_parse_run.proofs.Keeping.{reads_in-append, elab_paths-append, among-in}
use Rattle.protobuf_parse_run.proofs.Keeping.{find-none}
use Rattle.protobuf_parse_run.proofs.Steps.{read_paths-append, answers-more, get-seam, get-grown}
use Rattle.protobuf_parse_run.proofs.Steps.{loaded-more, loaded-at, all-into}
use Rattle.protobuf_parse_run.proofs.Walking.{settled-more}
use Rattle.protobuf_parse_run.proofs.Reading.{Noted, but_memory}

answers-length : (legal : Legal) (rs : List FileRead) (log : List ReadEntry)
    → AreAnswered legal rs log
    → length rs ≡ length log
answers-length legal [] [] a = refl
answers-length legal (r ∷ rs) (e ∷ log) a = let h = answers-length legal rs log a.2 in omega arith
answers-length legal [] (e ∷ log) a = absurd a
answers-length legal (r ∷ rs) [] a = absurd a

pub among-at : (log : List ReadEntry) (n : ℕ) (e : ReadEntry) → slice_get log n ≡ Some e
    → among (path_buf_text e.path) (read_paths log) ≡ true
among-at [] n e h = cc
among-at (x ∷ log) zero e h = let z : x ≡ e = cc in
    rw z (or_left _ _ (text-same (path_buf_text e.path)))
among-at (x ∷ log) (suc n) e h = rw (among-at log n e h) (bool_or_true _)
  where
    bool_or_true : (b : Bool) → (b || true) ≡ true
    bool_or_true true = refl
    bool_or_true false = refl

-- what a look-up in the log told of a loaded file's text
abbrev pub Told : List (Text × Text) → List ReadEntry → ℕ → Option Text → Type 0
Told table log n text = (e : ReadEntry) → slice_get log n ≡ Some e
    → text ≡ text_given table (path_buf_text e.path) (Some e.outcome)

module _ (legal : Legal) (files : Files) (table : List (Text × Text))
    (kept : List Event)
    (loaded : List LoadedEntry) (log : List ReadEntry) (p q own : Text) (x : LoadedFile)
    (is : q ≡ p)
    (g : Good legal files kept loaded log []) (found : file_at q loaded ≡ Some x) where
  at_p : file_at p loaded ≡ Some x
  at_p = subst (λ (z : Text). file_at z loaded ≡ Some x) is found

  was_loaded : has (load the_resolver p) kept ≡ true
  was_loaded =
      let l = loaded-at legal files p x log loaded at_p g.made in
      g.read p
      (subst (λ (z : Text). among z (read_paths log) ≡ true) l.named
      (among-at log x.read l.entry l.read))

  checks-are : checks kept (at p own) ≡ check (length log) own p ∷ []
  checks-are = rw (was_loaded, answers-length legal (reads_in kept) log g.answers) refl

  pub check-breaks : (f : RunFault) → f ≡ fault.Memory
      → Stops legal files (kept ++ checks kept (at p own)) log f
  check-breaks f m =
      inr (record {
        memory = m;
        before = kept;
        after = checks kept (at p own);
        split = refl;
        clean =
            g.clean;
        answers = g.answers;
      })

  module _ (new : List ReadEntry) (o : ReadOutcome) (text : Option Text)
      (told : Told table log x.read text) (n : Noted p o log new) (go : GoesOn files table new)
      (ok : legal (the_reader own) p o) where
    abbrev event : Event
    event = check (length log) own p

    answered : answer_at files (length log) ≡ Some o
    answered =
        let e : slice_get files.reads (length log)
        ≡ Some n.0 = get-grown new files.reads (length log) n.0 go.reads
        (rw n.1 (get-seam log [] n.0)) in
        rw e (ap Some n.3)

    texts-are : text_for files p ≡ text
    texts-are =
        let l = loaded-at legal files p x log loaded at_p g.made in
        ap (λ b. text_given b p (first_read p files.reads)) go.bundled
        ∙ (ap (text_given table p) l.first
        ∙ (ap (λ z. text_given table z (Some l.entry.outcome)) (sym l.named)
        ∙ sym (told l.entry l.read)))

    fails-so : (b : Bool) → are_same_bytes (text_given [] [] (Some o)) text ≡ b
        → fails files event ≡ not b
    fails-so b h = rw (answered, texts-are, h) refl

    checked : AreAnswered legal (reads_in (kept ++ event ∷ [])) new
    checked = subst (λ (z : List ReadEntry). AreAnswered legal (reads_in (kept ++ event ∷ [])) z)
        (sym n.1)
        (rw (reads_in-append kept (event ∷ []))
        (answers-more legal (reads_in kept) log
        (record { asked = the_reader own; path = p }) n.0 g.answers n.2 (rw n.3 ok)))

    pub check-good : are_same_bytes (text_given [] [] (Some o)) text ≡ true
        → Good legal files (kept ++ checks kept (at p own)) loaded new []
    check-good h = rw checks-are (record {
      answers = checked;
      elabs = rw (elab_paths-append kept (event ∷ []), append-nil) g.elabs;
      clean = find-none (fails files) kept (event ∷ []) g.clean (rw (fails-so true h) refl);
      settled = λ q f w. settled-more kept (kept ++ event ∷ []) f.height _ (g.settled q f w)
          (λ x v. has-left x kept (event ∷ []) v);
      made = rw n.1 (all-into _ _ (loaded-more legal files log n.0) loaded g.made);
      known = λ q v. elim (has-in (load the_resolver q) kept (event ∷ []) v) [
        | inl w ↦ elim (g.known q w)
            [ inl y ↦ inl y | inr y ↦ inr (has-left (elab q) kept (event ∷ []) y) ]
        | inr w ↦ absurd (let y = has-one (load the_resolver q) event w in cc)
      ];
      read = λ q v. elim
          (among-in q (path_buf_text n.0.path) (read_paths log)
          (rw (n.1, read_paths-append log (n.0 ∷ [])) at v)) [
            | inl w ↦ has-left (load the_resolver q) kept (event ∷ []) (g.read q w)
            | inr w ↦ has-left (load the_resolver q) kept (event ∷ []) (rw (w, n.2) was_loaded)
          ];
      apart = λ q v. cc;
    })

    pub check-halts : (f : RunFault) → are_same_bytes (text_given [] [] (Some o)) text ≡ false
        → StandsInCheck own p (Some o) f → Stops legal files
        (kept ++ checks kept (at p own)) new f
    check-halts f h s = inl (record {
      before = kept;
      event = event;
      after = [];
      split = rw checks-are refl;
      clean = g.clean;
      failing = fails-so false h;
      answers = checked;
      stands = subst (λ (a : Option ReadOutcome). StandsInCheck own p a f) (sym answered) s;
    })

    -- what comparing them gave, unless memory ran out
    pub check-ends : (r : Result (Unit {0}) RunFault) → (r ≡ Err fault.Memory → ⊥)
        → OnOk r (are_same_bytes (text_given [] [] (Some o)) text ≡ true)
        → IfErr r (λ f. OrMemory f (are_same_bytes (text_given [] [] (Some o)) text ≡ false))
        → IfErr r (λ f. OrMemory f (StandsInCheck own p (Some o) f))
        → Goes legal files (kept ++ checks kept (at p own)) loaded new r
    check-ends (Ok _) n s d t = check-good s
    check-ends (Err f) n s d t =
        check-halts f (but_memory f (λ m. n (ap Err m)) d) (but_memory f (λ m. n (ap Err m)) t)
