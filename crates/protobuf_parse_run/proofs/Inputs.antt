-- The inputs of a run, one after another.
use Rattle.std.proofs.Common.{◌≡◌, false, inl, inr, List, [], ◌∷◌, ◌++◌, None, Result, Ok, Err}
use Rattle.std.proofs.Common.{refl, sym, ◌∙◌, ap, subst, append_assoc, append-nil}
use Rattle.protobuf_parse_model.specs.Descriptors.{Text}
use Rattle.protobuf_parse_run.specs.declared.fault.RunFault.{RunFault}
use Rattle.protobuf_parse_run.specs.declared.log.ReadEntry.{ReadEntry}
use Rattle.protobuf_parse_run.specs.Walks.{the_resolver, load, elab, has, Input, at, Event, keep}
use Rattle.protobuf_parse_run.specs.Walks.{checks, input_walk, events_after, events, Trees}
use Rattle.protobuf_parse_run.specs.Run.{Files, Legal}
use Rattle.protobuf_parse_run.specs.Loading.{LoadedEntry, file_at, Goes, Good, Stops}
use Rattle.protobuf_parse_run.proofs.Keeping.{has-elab, not_true}
use Rattle.protobuf_parse_run.proofs.Steps.{stops-more, file-none}

pub events-append : (trees : Trees) (kept : List Event) (xs ys : List Input)
    → events_after trees kept (xs ++ ys) ≡ events_after trees (events_after trees kept xs) ys
unfolding events_after
events-append trees kept [] ys = refl
events-append trees kept (i ∷ xs) ys =
    events-append trees (keep (kept ++ checks kept i) (input_walk trees i)) xs ys

pub events-one : (trees : Trees) (kept : List Event) (i : Input)
    → events_after trees kept (i ∷ []) ≡ keep (kept ++ checks kept i) (input_walk trees i)
unfolding events_after
events-one trees kept i = refl

pub events-none : (trees : Trees) (kept : List Event) → events_after trees kept [] ≡ kept
unfolding events_after
events-none trees kept = refl

module _ (legal : Legal) (files : Files) where
  pub stops-append : (events more : List Event) (log : List ReadEntry) (f : RunFault)
      → Stops legal files events log f → Stops legal files (events ++ more) log f
  stops-append events more log f (inl h) = inl (record {
    before = h.before;
    event = h.event;
    after = h.after ++ more;
    split = ap (λ z. z ++ more) h.split ∙ append_assoc h.before (h.event ∷ h.after) more;
    clean = h.clean;
    failing = h.failing;
    answers = h.answers;
    stands = h.stands;
  })
  stops-append events more log f (inr h) = inr (record {
    memory = h.memory;
    before = h.before;
    after = h.after ++ more;
    split = ap (λ z. z ++ more) h.split ∙ append_assoc h.before h.after more;
    clean = h.clean;
    answers = h.answers;
  })

  stops-after : (kept : List Event) (is : List Input) (log : List ReadEntry) (f : RunFault)
      → Stops legal files kept log f
      → Stops legal files (events_after files.trees kept is) log f
  unfolding events_after
  stops-after kept [] log f h = h
  stops-after kept (i ∷ is) log f h =
      stops-after (keep (kept ++ checks kept i) (input_walk files.trees i)) is log f
      (stops-more legal files _ (input_walk files.trees i) log f
      (stops-append kept (checks kept i) log f h))

  pub inputs-step : (done next : List Input) (i : Input) (loaded : List LoadedEntry)
      (log : List ReadEntry) → next ≡ done ++ i ∷ []
      → Good legal files
      (keep (events files.trees done ++ checks (events files.trees done) i)
      (input_walk files.trees i)) loaded log []
      → Good legal files (events files.trees next) loaded log []
  inputs-step done next i loaded log is g =
      rw (
        is,
        events-append files.trees [] done (i ∷ []),
        events-one files.trees (events files.trees done) i,
      ) g

  pub inputs-stop : (inputs done rest : List Input) (i : Input) (log : List ReadEntry)
      (f : RunFault) → inputs ≡ done ++ i ∷ rest
      → Stops legal files
      (keep (events files.trees done ++ checks (events files.trees done) i)
      (input_walk files.trees i)) log f
      → Stops legal files (events files.trees inputs) log f
  inputs-stop inputs done rest i log f is h =
      let one = subst (λ (z : List Event). Stops legal files z log f)
      (sym (events-one files.trees (events files.trees done) i)) h in
      let all : events files.trees inputs
      ≡ events_after files.trees (events_after files.trees (events files.trees done) (i ∷ []))
      rest =
      ap (events files.trees) (is ∙ sym (append_assoc done (i ∷ []) rest))
      ∙ (events-append files.trees [] (done ++ i ∷ []) rest
      ∙ ap (λ z. events_after files.trees z rest) (events-append files.trees [] done (i ∷ [])))
      in
      rw all (stops-after _ rest log f one)

  pub good-start : Good legal files [] [] [] []
  good-start = record {
    answers = tt;
    elabs = refl;
    clean = refl;
    settled = λ p e h. cc;
    made = tt;
    known = λ p h. cc;
    read = λ p h. cc;
    apart = λ p h. refl;
  }

  input-stops : (kept base : List Event) (i v : Input) (log : List ReadEntry) (f : RunFault) → v ≡ i
      → base ≡ kept ++ checks kept i
      → Stops legal files (keep base (input_walk files.trees i)) log f
      → Stops legal files (keep (kept ++ checks kept v) (input_walk files.trees v)) log f
  input-stops kept base i v log f is b stops =
      rw is (subst (λ (z : List Event). Stops legal files
      (keep z (input_walk files.trees i)) log f)
      b stops)

  input-goes : (kept base : List Event) (i v : Input) (loaded : List LoadedEntry)
      (log : List ReadEntry)
      → v ≡ i → base ≡ kept ++ checks kept i
      → Good legal files (keep base (input_walk files.trees i)) loaded log []
      → Good legal files (keep (kept ++ checks kept v)
      (input_walk files.trees v)) loaded log []
  input-goes kept base i v loaded log is b good =
      rw is (subst
      (λ (z : List Event). Good legal files
      (keep z (input_walk files.trees i)) loaded log []) b
      good)

  pub input-ends : (r : Result (Unit {0}) RunFault) (kept base : List Event) (i v : Input)
      (loaded : List LoadedEntry) (log : List ReadEntry) → v ≡ i → base ≡ kept ++ checks kept i
      → Goes legal files (keep base (input_walk files.trees i)) loaded log r
      → Goes legal files (keep (kept ++ checks kept v)
      (input_walk files.trees v)) loaded log r
  input-ends (Ok done) kept base i v loaded log is b h = input-goes kept base i v loaded log is b h
  input-ends (Err f) kept base i v loaded log is b h = input-stops kept base i v log f is b h

  pub check-stops : (kept : List Event) (i v : Input) (log : List ReadEntry) (f : RunFault) → v ≡ i
      → Stops legal files (kept ++ checks kept i) log f
      → Stops legal files (keep (kept ++ checks kept v) (input_walk files.trees v)) log f
  check-stops kept i v log f is h =
      rw is (stops-more legal files (kept ++ checks kept i)
      (input_walk files.trees i) log f h)

  -- an input whose path isn't loaded is not checked
  pub no-check : (kept : List Event) (loaded : List LoadedEntry) (log : List ReadEntry)
      (p q own : Text)
      → q ≡ p → Good legal files kept loaded log [] → file_at q loaded ≡ None
      → Good legal files (kept ++ checks kept (at p own)) loaded log []
  no-check kept loaded log p q own e g none =
      let gone : file_at p loaded ≡ None = subst (λ (z : Text). file_at z loaded ≡ None) e none in
      let off : has (elab p) kept ≡ false = has-elab p kept
      ∙ (rw g.elabs (file-none p loaded gone)) in
      let l : has (load the_resolver p) kept
      ≡ false = not_true _ (λ v. elim (g.known p v) [ inl w ↦ cc | inr w ↦ cc ]) in
      rw (l, append-nil) g
