-- Where the faults of a resolver and of a reader come from.
use Rattle.std.proofs.Common.{◌≡◌, ℕ, refl, inl, inr, List, [], ◌∷◌, ◌++◌, Result, Ok, Err, sym}
use Rattle.std.proofs.Common.{◌∙◌, ap, subst, Some}
use Rattle.std.specs.Prelude.{IfErr}
use Rattle.std.specs.Global.{Vec}
use Rattle.protobuf_parse_model.specs.Descriptors.{Text}
use Rattle.protobuf_parse_model.specs.declared.descriptor.FileDescriptorProto.{FileDescriptorProto}
use Rattle.protobuf_parse_run.specs.declared.fault.RunFault.{RunFault}
use Rattle.protobuf_parse_run.specs.declared.fault.RunFault.TheVariants as fault
use Rattle.protobuf_parse_run.specs.declared.fault.ResolveFault.{ResolveFault}
use Rattle.protobuf_parse_run.specs.declared.fault.ReadInputFault.{ReadInputFault}
use Rattle.protobuf_parse_run.specs.declared.log.ReadOutcome.{ReadOutcome}
use Rattle.protobuf_parse_run.specs.declared.log.ReadOutcome.TheVariants as outcome
use Rattle.protobuf_parse_run.specs.Walks.{Asked, the_resolver, the_reader, Event, cycle, long}
use Rattle.protobuf_parse_run.specs.Walks.{load}
use Rattle.protobuf_parse_run.specs.Walks.{check, elab, FileRead, reads_in}
use Rattle.protobuf_parse_run.specs.Run.{AreAnswered, RunEnds, Files, IsCaused, RunIsRefused}
use Rattle.protobuf_parse_run.specs.Run.{MayAnswer}
use Rattle.protobuf_parse_run.specs.Run.{MayRead}
use Rattle.protobuf_parse_run.specs.Run.{MayResolve, Resolved, StandsAtEvent, WasRead, answer_at}
use Rattle.protobuf_parse_run.specs.Run.{answer_for}
use Rattle.protobuf_parse_run.specs.Run.{fails}
use Rattle.protobuf_parse_run.proofs.Keeping.{reads_in-append}
use Rattle.protobuf_parse_run.proofs.Following.{AllFollow, Follows, at-is-last, first-is-last}
use Rattle.protobuf_parse_run.proofs.Following.{follows-at, found, unread}

module _ (resolve : MayResolve) (read : MayRead) where
  by-resolver : (a : Asked) (p : Text) (why : ResolveFault) → MayAnswer resolve read a p
      (outcome.ResolverFault why) → Resolved resolve p (outcome.ResolverFault why)
  by-resolver the_resolver p why h = h
  by-resolver (the_reader own) p why h = absurd h

  by-reader : (a : Asked) (own p : Text) (why : ReadInputFault) → a ≡ the_reader own
      → MayAnswer resolve read a p (outcome.ReaderFault why)
      → WasRead read own (outcome.ReaderFault why)
  by-reader a own p why is h =
      subst (λ (b : Asked). MayAnswer resolve read b p (outcome.ReaderFault why)) is h

  -- the event fails behind these, and its read is the last
  module _ (files : Files) (before : List Event) (each : AllFollow [] before) where
    loaded-by : (asked : Asked) (p : Text) (o : ReadOutcome) → Follows before (load asked p)
        → AreAnswered (MayAnswer resolve read) (reads_in (before ++ load asked p ∷ [])) files.reads
        → answer_for files p ≡ Some o → MayAnswer resolve read asked p o
    loaded-by asked p o next a h =
        first-is-last (MayAnswer resolve read) (reads_in before)
        (record { asked = asked; path = p }) files.reads o (unread p [] before each next)
        (subst (λ (rs : List FileRead). AreAnswered (MayAnswer resolve read) rs files.reads)
        (reads_in-append before (load asked p ∷ [])) a) h

    checked-by : (own p : Text) (n : ℕ) (o : ReadOutcome) → Follows before (check n own p)
        → AreAnswered (MayAnswer resolve read) (reads_in (before ++ check n own p ∷ [])) files.reads
        → answer_at files n ≡ Some o → MayAnswer resolve read (the_reader own) p o
    checked-by own p n o next a h =
        at-is-last (MayAnswer resolve read) (reads_in before)
        (record { asked = the_reader own; path = p }) files.reads o
        (subst (λ (rs : List FileRead). AreAnswered (MayAnswer resolve read) rs files.reads)
        (reads_in-append before (check n own p ∷ [])) a)
        (ap (answer_at files) (sym next.1) ∙ h)

    caused-at : (event : Event) (f : RunFault) → Follows before event
        → AreAnswered (MayAnswer resolve read) (reads_in (before ++ event ∷ [])) files.reads
        → StandsAtEvent files event f → IsCaused resolve read f
    caused-at (load asked p) (fault.Resolver path why) next a s =
        let r = loaded-by asked p (outcome.ResolverFault s.1) next a s.2 in (
          s.1,
          subst (λ (q : Text). Resolved resolve q (outcome.ResolverFault s.1)) (sym s.0)
              (by-resolver asked p s.1 r),
          s.3,
        )
    caused-at (load asked p) (fault.CouldNotReadFile path why) next a s =
        by-reader asked _ p why s.0 (loaded-by asked p (outcome.ReaderFault why) next a s.1)
    caused-at (check n own p) (fault.CouldNotReadFile path why) next a s =
        subst (λ (q : Text). WasRead read q (outcome.ReaderFault why)) (sym s.0)
        (by-reader (the_reader own) own p why refl
        (checked-by own p n (outcome.ReaderFault why) next a s.1))
    caused-at (check n own p) (fault.Resolver path why) next a s = absurd s
    caused-at (cycle p) (fault.Resolver path why) next a s = absurd s
    caused-at (cycle p) (fault.CouldNotReadFile path why) next a s = absurd s
    caused-at (long i) (fault.Resolver path why) next a s = absurd s
    caused-at (long i) (fault.CouldNotReadFile path why) next a s = absurd s
    caused-at (elab p) (fault.Resolver path why) next a s = absurd s
    caused-at (elab p) (fault.CouldNotReadFile path why) next a s = absurd s
    caused-at event fault.Memory next a s = tt
    caused-at event (fault.ContentIsNotUtf8 x) next a s = tt
    caused-at event (fault.FileNotFoundInImportPath x y) next a s = tt
    caused-at event (fault.FileMustResideInImportPath x y) next a s = tt
    caused-at event (fault.Shadowed x y) next a s = tt
    caused-at event (fault.ImportCycle x) next a s = tt
    caused-at event (fault.ImportChainTooLong x) next a s = tt
    caused-at event (fault.Parse x y) next a s = tt
    caused-at event (fault.Elaborate x y) next a s = tt
    caused-at event (fault.InputPath x y) next a s = tt

  refused : (files : Files) (events : List Event) (f : RunFault) → AllFollow [] events
      → RunIsRefused
      (MayAnswer resolve read) files events f → IsCaused resolve read f
  refused files events f all h =
      let at = found (fails files) events h.event h.first in
      let next = follows-at [] at.before at.after h.event
      (subst (λ (es : List Event). AllFollow [] es) at.split all) in
      caused-at files at.before next.0 h.event f next.1
      (subst (λ (es : List Event). AreAnswered (MayAnswer resolve read) (reads_in es) files.reads)
      at.to h.reads) h.stands

  pub caused : (files : Files) (events : List Event)
      (r : Result (Vec FileDescriptorProto) RunFault) → AllFollow [] events
      → RunEnds (MayAnswer resolve read) files events r → IfErr r (λ f. IsCaused resolve read f)
  caused files events (Ok ds) all h = tt
  caused files events (Err f) all (inl h) = refused files events f all h
  caused files events (Err f) all (inr h) = rw h.memory tt

  -- want of memory has no such cause
  pub uncaused : (r : Result (Vec FileDescriptorProto) RunFault) (f : RunFault) → r ≡ Err f
      → f ≡ fault.Memory → IfErr r (λ g. IsCaused resolve read g)
  uncaused r f is m = rw (is, m) tt
