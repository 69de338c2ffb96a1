-- How a check ends, by how its load does.
use Rattle.std.proofs.Common.{◌≡◌, ℕ, zero, suc, List, [], ◌∷◌, Some, Result, Ok, Err}
use Rattle.std.proofs.Common.{◌∙◌, ap, append-nil, refl, subst, sym}
use Rattle.std.specs.Prelude.{IfOk, slice_get}
use Rattle.std.specs.List.{AllByRecursion}
use Rattle.protobuf_parse_model.specs.Descriptors.{Text}
use Rattle.protobuf_parse_run.specs.Loading.{IsReaders}
use Rattle.protobuf_parse_run.specs.Run.{AreAnswered, Legal, MayAnswer, MayRead, MayResolve, WasRead}
use Rattle.protobuf_parse_run.specs.Walks.{FileRead, Input, Trees, the_reader}
use Rattle.protobuf_parse_run.specs.declared.log.ReadEntry.{ReadEntry}
use Rattle.protobuf_parse_run.specs.declared.log.ReadOutcome.{ReadOutcome}
use Rattle.protobuf_parse_run.specs.declared.log.ReadOutcome.TheVariants as outcome
use Rattle.protobuf_parse_run.proofs.Keeping.{none_some, some_same}
use Rattle.protobuf_parse_load.specs.declared.log.Load.{Load}
use Rattle.protobuf_parse_load.specs.Laws.{IsHeldSo}
use Rattle.protobuf_parse_load.specs.Loads.{AreUnreadFiles, IsLoadSoFar, steps_view}
use Rattle.protobuf_parse_load.specs.Steps.{Step, closed, closed_paths, held, load_of, load_reads}
use Rattle.protobuf_parse_load.specs.Steps.{load_steps, opened, told}
use Rattle.protobuf_parse_load.proofs.HeldReads.{held-are-read}
use Rattle.protobuf_parse_check.specs.declared.report.Check.{Check}
use Rattle.protobuf_parse_check.specs.Reports.{AreClashes, AreReports, CheckEnds, clashes_in}
use Rattle.protobuf_parse_check.specs.Reports.{files_of, loaded_of, read_files}
use Rattle.protobuf_parse_check.specs.SoFar.{HoldReads, StepHolds}

-- ** reads at which inputs are held

was-readers : (may : MayRead) (own : Text) (o : ReadOutcome) → WasRead may own o → IsReaders o
was-readers may own (outcome.Content origin content) w = tt
was-readers may own (outcome.ReaderFault why) w = tt
was-readers may own outcome.NotFound w = absurd w
was-readers may own (outcome.ResolverFault why) w = absurd w

module _ (resolve : MayResolve) (read : MayRead) where
  reader-at : (reads : List FileRead) (log : List ReadEntry) (n : ℕ) (own p : Text)
      → AreAnswered (MayAnswer resolve read) reads log
      → slice_get reads n ≡ Some (record { asked = the_reader own; path = p })
      → (e : ReadEntry) × (slice_get log n ≡ Some e) × IsReaders e.outcome
  reader-at [] [] n own p a is = absurd (none_some _ is)
  reader-at [] (e ∷ log) n own p a is = absurd a
  reader-at (r ∷ reads) [] n own p a is = absurd a
  reader-at (r ∷ reads) (e ∷ log) zero own p a is = (
    e,
    refl,
    was-readers read own e.outcome
        (subst (λ (q : FileRead). MayAnswer resolve read q.asked q.path e.outcome)
        (some_same r _ is) a.1),
  )
  reader-at (r ∷ reads) (e ∷ log) (suc n) own p a is = reader-at reads log n own p a.2 is

  module _ (trees : Trees) (inputs : List Input) (log : List ReadEntry)
      (answers : AreAnswered (MayAnswer resolve read) (load_reads trees inputs) log) where
    step-holds : (s : Step)
        → IsHeldSo inputs (load_reads trees inputs) (load_steps trees inputs) s
        → StepHolds inputs log (closed_paths (load_steps trees inputs)) s
    step-holds (opened by p) h = tt
    step-holds (told by p why) h = tt
    step-holds (closed p height) h = tt
    step-holds (held n p r) h =
        let e = reader-at (load_reads trees inputs) log r h.0 p answers h.2 in
        record {
          own = h.0;
          input = h.1;
          entry = e.0;
          found = e.1;
          readers = e.2;
          there = h.3;
        }

    steps-hold : (steps : List Step)
        → AllByRecursion (IsHeldSo inputs (load_reads trees inputs) (load_steps trees inputs))
        steps → HoldReads inputs log (closed_paths (load_steps trees inputs)) steps
    steps-hold [] all = tt
    steps-hold (s ∷ steps) all = (step-holds s all.0, steps-hold steps all.1)

    -- the steps of a load whose reads were answered
    pub load-holds : HoldReads inputs log (closed_paths (load_steps trees inputs))
        (load_steps trees inputs)
    load-holds = steps-hold (load_steps trees inputs) (held-are-read trees inputs)

-- ** the end

pub ends-so : {E : Type 0} (legal : Legal) (bundled : List (Text × Text)) (log : List ReadEntry)
    (trees : Trees) (inputs : List Input) (reached seen : Text → List Text) (load : Load)
    (result : Result Check E)
    → let c = loaded_of bundled log trees inputs reached seen in
    IsLoadSoFar legal (read_files c) (load_of trees inputs) log load.steps.items
    load.files.items load.unread.items
    → IfOk result (λ check. check.steps ≡ load.steps)
    → IfOk result (λ check. check.unread ≡ load.unread)
    → IfOk result (λ check. AreClashes (files_of c) inputs
    (clashes_in (files_of c) c.steps) check.clashes.items)
    → IfOk result (λ check. AreReports c (closed_paths c.steps) check.files.items)
    → CheckEnds legal c inputs (load_of trees inputs) result
ends-so legal bundled log trees inputs reached seen load (Ok check) so steps unread clashes files =
    record {
      steps = ap (λ ss. steps_view ss.items) steps ∙ so.steps_are;
      answers = so.answers;
      unread = subst (λ us. AreUnreadFiles (record { bundled = bundled; reads = log; trees = trees })
          (load_of trees inputs).unread us.items) (sym unread) so.unread_are;
      clashing = clashes;
      files = files;
    }
ends-so legal bundled log trees inputs reached seen load (Err e) so steps unread clashes files =
    record {
      done = (load_of trees inputs).reads;
      later = [];
      beginning = sym (append-nil (load_of trees inputs).reads);
      answers = so.answers;
    }
