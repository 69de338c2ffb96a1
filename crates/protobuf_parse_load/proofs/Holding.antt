-- Inputs at paths of their own, whose proto paths are loaded.
use Rattle.std.proofs.Common.{◌≡◌, ◌⊎◌, inl, inr, ℕ, true, false, List, [], ◌∷◌, ◌++◌, Option, Some}
use Rattle.std.proofs.Common.{None}
use Rattle.std.proofs.Common.{Result, Ok, Err, refl, sym, ◌∙◌, ap, subst, length, append-nil}
use Rattle.std.specs.Prelude.{OnOk, bytes_eq, is_some}
use Rattle.std.specs.declared.alloc.AllocError.{AllocError}
use Rattle.protobuf_parse_base.specs.PathViews.{path_buf_text}
use Rattle.protobuf_parse_model.specs.Descriptors.{Text}
use Rattle.protobuf_parse_run.specs.declared.log.ReadEntry.{ReadEntry}
use Rattle.protobuf_parse_run.specs.declared.log.ReadOutcome.{ReadOutcome}
use Rattle.protobuf_parse_run.specs.Loading.{IsDecided, read_paths}
use Rattle.protobuf_parse_run.specs.Run.{MayRead, MayResolve, first_read, rows}
use Rattle.protobuf_parse_run.specs.Walks.{Input, among, at, the_reader}
use Rattle.protobuf_parse_run.proofs.Deciding.{decided-same, untold}
use Rattle.protobuf_parse_run.proofs.Keeping.{bool_cases, false_true, none_some, text-true}
use Rattle.protobuf_parse_load.specs.declared.known.Known.{Known}
use Rattle.protobuf_parse_load.specs.declared.known.Known.TheVariants.{Unreadable, Loaded}
use Rattle.protobuf_parse_load.specs.declared.loader.Loader.{Loader}
use Rattle.protobuf_parse_load.specs.declared.request.Sources.{Sources}
use Rattle.protobuf_parse_load.specs.Frames.{AddsStep, Loads, RemembersReads, chain_in, raised}
use Rattle.protobuf_parse_load.specs.Loads.{steps_view}
use Rattle.protobuf_parse_load.specs.Requests.{legal_by}
use Rattle.protobuf_parse_load.specs.StepLists.{is_loaded}
use Rattle.protobuf_parse_load.specs.Steps.{At, held, holds, holds_known, known}
use Rattle.protobuf_parse_load.proofs.Meeting.{cut-now, grows-same}
use Rattle.protobuf_parse_load.proofs.Machine.{extends-holds}
use Rattle.protobuf_parse_load.proofs.Standing.{answers-push, holding, remembers-holds}
use Rattle.protobuf_parse_load.proofs.Standing.{stands-holds}
use Rattle.protobuf_parse_load.proofs.Standing.{step-added}

-- ** the trees of what was read

option_cases : {A : Type 0} (o : Option A) → ((a : A) × (o ≡ Some a)) ⊎ (o ≡ None)
option_cases (Some a) = inl (a, refl)
option_cases None = inr refl

first-more : (q : Text) (log : List ReadEntry) (e : ReadEntry) (o : ReadOutcome)
    → first_read q log ≡ Some o → first_read q (log ++ e ∷ []) ≡ Some o
first-more q [] e o h = absurd (none_some o h)
first-more q (x ∷ log) e o h =
    elim (bool_cases (bytes_eq q (path_buf_text x.path))) [
      | inl w ↦ rw w (rw w at h)
      | inr w ↦ let z : first_read q log ≡ Some o = (rw w at h) in rw w (first-more q log e o z)
    ]

first-last : (q : Text) (log : List ReadEntry) (e : ReadEntry) → first_read q log ≡ None
    → first_read q (log ++ e ∷ []) ≡ first_read q (e ∷ [])
first-last q [] e h = refl
first-last q (x ∷ log) e h =
    elim (bool_cases (bytes_eq q (path_buf_text x.path))) [
      | inl w ↦ absurd (none_some x.outcome (sym (rw w at h)))
      | inr w ↦ let z : first_read q log ≡ None = (rw w at h) in rw w (first-last q log e z)
    ]

first-there : (q : Text) (log : List ReadEntry) → among q (read_paths log) ≡ true
    → first_read q log ≡ None → ⊥
first-there q [] h none = false_true h
first-there q (x ∷ log) h none =
    elim (bool_cases (bytes_eq q (path_buf_text x.path))) [
      | inl w ↦ none_some x.outcome (sym (rw w at none))
      | inr w ↦ first-there q log (rw w at h) (rw w at none)
    ]

-- another read of a path that was read before
pub decided-again : (table : List (Text × Text)) (log : List ReadEntry) (e : ReadEntry)
    → among (path_buf_text e.path) (read_paths log) ≡ true → IsDecided table log
    → IsDecided table (log ++ e ∷ [])
decided-again table log e there d q =
    elim (option_cases (first_read q log)) [
      | inl o ↦ ((d q).0, rw (first-more q log e o.0 o.1) (rw o.1 at ((d q).1)))
      | inr h ↦ elim (bool_cases (bytes_eq q (path_buf_text e.path))) [
        | inl w ↦ absurd
            (first-there (path_buf_text e.path) log there
            (subst (λ (z : Text). first_read z log ≡ None) (text-true q (path_buf_text e.path) w)
            h))
        | inr w ↦ (None, rw (first-last q log e h, w) untold)
      ]
    ]

-- ** what is held

unheld : (n : ℕ) (p own : Text) (a : At) (k : Option Known) → is_loaded k ≡ false
    → holds_known n p own a k ≡ a
unheld n p own a None h = refl
unheld n p own a (Some (Unreadable m)) h = refl
unheld n p own a (Some (Loaded m)) h = absurd (false_true (sym h))

held-is : (n : ℕ) (p own : Text) (a : At) (k : Option Known) → is_loaded k ≡ true
    → holds_known n p own a k ≡ holding n p own a
held-is n p own a None h = absurd (false_true h)
held-is n p own a (Some (Unreadable m)) h = absurd (false_true h)
held-is n p own a (Some (Loaded m)) h = refl

some-loaded : (k : Option Known) → is_loaded k ≡ true → is_some k ≡ true
some-loaded None h = absurd (false_true h)
some-loaded (Some k) h = refl

module _ {R I : Type 0} (may_answer : R → MayResolve) (may_read : I → MayRead)
    (sources : Sources R I) (n : ℕ) (i : Input) where
  -- nothing is
  pub hold-none : (old : Loader) → old.chain.items ≡ []
      → IsDecided (rows sources.bundled.now) old.reads.items → RemembersReads old
      → ((a : At) → a.steps ≡ steps_view old.steps.list → holds n i a ≡ a)
      → Loads may_answer may_read sources (λ trees. holds n i) old old (Ok tt)
  hold-none old chain decided has same = record {
    grows = grows-same old.reads.items old.reads.items refl;
    decided = decided;
    chain = chain;
    remembers = has;
    goes = λ files a go stands. (
      a,
      stands,
      λ k. (k, same (raised k a) (sym stands.steps_are)),
    );
  }

  pub hold-other : (p own : Text) (old : Loader) → i ≡ at p own
      → is_loaded (known p (steps_view old.steps.list)) ≡ false → (a : At)
      → a.steps ≡ steps_view old.steps.list → holds n i a ≡ a
  hold-other p own old is off a there =
      ap (λ z. holds n z a) is
      ∙ unheld n p own a (known p a.steps) (ap (λ z. is_loaded (known p z)) there ∙ off)

  -- its own file was read
  pub hold-read : (p own : Text) (old new : Loader) (r : Result (Unit {0}) AllocError)
      (e : ReadEntry) → i ≡ at p own → old.chain.items ≡ []
      → IsDecided (rows sources.bundled.now) old.reads.items → RemembersReads old
      → is_loaded (known p (steps_view old.steps.list)) ≡ true
      → new.reads.items ≡ old.reads.items ++ e ∷ [] → path_buf_text e.path ≡ p
      → legal_by may_answer may_read sources (the_reader own) p e.outcome
      → OnOk r (AddsStep old.steps.list new.steps.list (held n p (length old.reads.items)))
      → new.files ≡ old.files → new.unread ≡ old.unread → new.chain ≡ old.chain
      → Loads may_answer may_read sources (λ trees. holds n i) old new r
  hold-read p own old new r e is chain decided has on reads named ok adds files unread same =
      let legal = legal_by may_answer may_read sources in
      let steps = steps_view old.steps.list in
      let some : is_some (known p steps) ≡ true = some-loaded (known p steps) on in
      let there : among (path_buf_text e.path) (read_paths old.reads.items) ≡ true =
      rw named ((has p).1 (inr some)) in
      let decided_now : IsDecided (rows sources.bundled.now) new.reads.items =
      decided-same (rows sources.bundled.now) (old.reads.items ++ e ∷ []) new.reads.items reads
      (decided-again (rows sources.bundled.now) old.reads.items e there decided) in
      by_result r adds some decided_now
    where
      holds-is : (a : At) → a.steps ≡ steps_view old.steps.list → holds n i a ≡ holding n p own a
      holds-is a there =
          ap (λ z. holds n z a) is
          ∙ held-is n p own a (known p a.steps) (ap (λ z. is_loaded (known p z)) there ∙ on)

      by_result : (r : Result (Unit {0}) AllocError)
          → OnOk r (AddsStep old.steps.list new.steps.list (held n p (length old.reads.items)))
          → is_some (known p (steps_view old.steps.list)) ≡ true
          → IsDecided (rows sources.bundled.now) new.reads.items
          → Loads may_answer may_read sources (λ trees. holds n i) old new r
      by_result (Ok x) adds some decided_now = record {
        grows = (e ∷ [], reads);
        decided = decided_now;
        chain = ap (λ v. v.items) same ∙ chain;
        remembers = rw (
          same,
          step-added old.steps.list new.steps.list (steps_view old.steps.list)
              (held n p (length old.reads.items)) refl adds,
        )
            (remembers-holds (chain_in old) (steps_view old.steps.list) n p
            (length old.reads.items) old.reads.items new.reads.items e has reads named some);
        goes = λ all a go stands. (
          holding n p own a,
          rw (files, unread)
              (stands-holds (legal_by may_answer may_read sources) all a old.reads.items
              new.reads.items old.steps.list new.steps.list old.files.items old.unread.items n p own
              e stands reads named ok adds),
          λ k. (k, holds-is (raised k a) (sym stands.steps_are)),
        );
      }
      by_result (Err x) adds some decided_now = record {
        grows = (e ∷ [], reads);
        decided = decided_now;
        chain = tt;
        remembers = tt;
        goes = λ all a go stands k.
            rw (holds-is (raised k a) (sym stands.steps_are))
            (record {
              done = (holding n p own (raised k a)).reads;
              later = [];
              beginning = sym (append-nil (holding n p own (raised k a)).reads);
              answers = rw reads (answers-push (legal_by may_answer may_read sources) a.reads
                  old.reads.items (record { asked = the_reader own; path = p }) e stands.answers
                  named ok);
            });
      }

  -- memory ran out before
  pub hold-broken : (old new : Loader) (r : Result (Unit {0}) AllocError) (x : AllocError)
      → r ≡ Err x → new.reads.items ≡ old.reads.items
      → IsDecided (rows sources.bundled.now) old.reads.items
      → Loads may_answer may_read sources (λ trees. holds n i) old new r
  hold-broken old new r x is same decided =
      rw is (record {
        grows = grows-same old.reads.items new.reads.items same;
        decided = decided-same (rows sources.bundled.now) old.reads.items new.reads.items same
            decided;
        chain = tt;
        remembers = tt;
        goes = λ all a go stands k.
            cut-now (legal_by may_answer may_read sources) all a (holds n i (raised k a)) old
            new.reads.items stands same (extends-holds n i (raised k a));
      })
