-- How often files are met: once for each input and each import statement of the files that are
-- loaded.
use Rattle.std.proofs.Common.{◌≡◌, ℕ, ◌+◌, ◌<◌, ◌≤◌, true, false, cond, List, [], ◌∷◌, ◌++◌, Some}
use Rattle.std.proofs.Common.{Result, sym, ◌∙◌, ap, subst, append-nil, append_assoc, length, arith}
use Rattle.protobuf_parse_syntax.specs.Trees.{FileSyntax}
use Rattle.protobuf_parse_model.specs.Descriptors.{Text}
use Rattle.protobuf_parse_run.specs.declared.fault.RunFault.{RunFault}
use Rattle.protobuf_parse_run.specs.Walks.{Asked, the_resolver, Event, Input, cycle, long, load}
use Rattle.protobuf_parse_run.specs.Walks.{check}
use Rattle.protobuf_parse_run.specs.Walks.{elab, has, keep, at, named, Trees, checks, import_paths}
use Rattle.protobuf_parse_run.specs.Walks.{input_walk, events, events_after, reads_in}
use Rattle.protobuf_parse_run.specs.Walks.{import_statements}
use Rattle.protobuf_parse_run.specs.Run.{Files, IsCounted, Legal}
use Rattle.protobuf_parse_run.proofs.Keeping.{keep-extends}
use Rattle.protobuf_parse_run.proofs.Inputs.{events-append, events-one}

pub statements-append : (trees : Trees) (xs ys : List Event)
    → import_statements trees (xs ++ ys) ≡ import_statements trees xs + import_statements trees ys
statements-append trees [] ys = omega arith
statements-append trees (load a p ∷ xs) ys = let h = statements-append trees xs ys in omega arith
statements-append trees (cycle p ∷ xs) ys = statements-append trees xs ys
statements-append trees (long p ∷ xs) ys = statements-append trees xs ys
statements-append trees (check n f p ∷ xs) ys = statements-append trees xs ys
statements-append trees (elab p ∷ xs) ys = statements-append trees xs ys

pub count-grows : (trees : Trees) (kept more : List Event)
    → import_statements trees kept ≤ import_statements trees (keep kept more)
count-grows trees kept more =
    let e = keep-extends kept more in
    let h = statements-append trees kept e.0 in
    let y = ap (import_statements trees) e.1 in
    omega (arith, h, y)

pub after-load : (trees : Trees) (kept : List Event) (a : Asked) (p : Text) (t : FileSyntax)
    → trees p ≡ Some t → import_statements trees (kept ++ load a p ∷ [])
    ≡ import_statements trees kept + length (import_paths t)
after-load trees kept a p t is = statements-append trees kept (load a p ∷ [])
    ∙ (rw is (omega arith))

after-checks : (trees : Trees) (kept : List Event) (i : Input)
    → import_statements trees (kept ++ checks kept i) ≡ import_statements trees kept
after-checks trees kept (named p) = ap (import_statements trees) (append-nil kept)
after-checks trees kept (at p own) =
    elim (has (load the_resolver p) kept) as
    (λ b. import_statements trees (kept ++ cond b (check (length (reads_in kept)) own p ∷ []) [])
    ≡ import_statements trees kept) [
      | true ↦ let h = statements-append trees kept (check (length (reads_in kept)) own p ∷ []) in
          omega arith
      | false ↦ ap (import_statements trees) (append-nil kept)
    ]

-- an input's check stops
pub count-check : (trees : Trees) (kept : List Event) (v : Input) (old new : ℕ) → new ≡ old
    → new + import_statements trees kept
    ≤ old + 1 + import_statements trees (keep (kept ++ checks kept v) (input_walk trees v))
count-check trees kept v old new same =
    let h = count-grows trees (kept ++ checks kept v) (input_walk trees v) in
    let e = after-checks trees kept v in
    omega (arith, h, e, same)

module _ (legal : Legal) (files : Files) where
  abbrev count : List Event → ℕ
  count events = import_statements files.trees events

  pub count-input : (r : Result (Unit {0}) RunFault) (kept base : List Event) (i v : Input)
      (start old new : ℕ) → v ≡ i → base ≡ kept ++ checks kept i → old ≡ start
      → IsCounted (new + count base) (old + 1 + count (keep base (input_walk files.trees i))) r
      → IsCounted (new + count kept)
      (start + 1 + count (keep (kept ++ checks kept v) (input_walk files.trees v))) r
  count-input r kept base i v start old new is b began h =
      let y : IsCounted (new + count (kept ++ checks kept i))
      (old + 1 + count (keep (kept ++ checks kept i) (input_walk files.trees i))) r =
      subst (λ (z : List Event). IsCounted (new + count z)
      (old + 1 + count (keep z (input_walk files.trees i))) r) b h in
      let left = ap (λ z. new + z) (after-checks files.trees kept i) in
      let right = ap (λ z. z + 1 + count (keep (kept ++ checks kept i) (input_walk files.trees i)))
      began in
      rw is (subst (λ (z : ℕ). IsCounted (new + count kept) z r) right
      (subst (λ (z : ℕ). IsCounted z
      (old + 1 + count (keep (kept ++ checks kept i) (input_walk files.trees i))) r) left y))

  pub count-inputs : (done next : List Input) (i : Input) (old new k : ℕ) → next ≡ done ++ i ∷ []
      → old ≡ k + count (events files.trees done)
      → new + count (events files.trees done)
      ≡ old + 1 + count
      (keep (events files.trees done ++ checks (events files.trees done) i)
      (input_walk files.trees i)) → new ≡ k + 1 + count (events files.trees next)
  count-inputs done next i old new k is before step =
      let y : events files.trees next
      ≡ keep (events files.trees done ++ checks (events files.trees done) i)
      (input_walk files.trees i) =
      rw is (events-append files.trees [] done (i ∷ [])
      ∙ events-one files.trees (events files.trees done) i) in
      rw y (omega arith)

  inputs-grow : (kept : List Event) (is : List Input)
      → count kept ≤ count (events_after files.trees kept is)
  unfolding events_after
  inputs-grow kept [] = omega arith
  inputs-grow kept (i ∷ is) =
      let h = inputs-grow (keep (kept ++ checks kept i) (input_walk files.trees i)) is in
      let m = count-grows files.trees (kept ++ checks kept i) (input_walk files.trees i) in
      let e = after-checks files.trees kept i in
      omega (arith, h, m, e)

  -- an input stops
  pub count-inputs-stop : (done rest inputs : List Input) (i : Input) (old new k n : ℕ)
      → inputs ≡ done ++ i ∷ rest → k < n → old ≡ k + count (events files.trees done)
      → new + count (events files.trees done)
      ≤ old + 1 + count
      (keep (events files.trees done ++ checks (events files.trees done) i)
      (input_walk files.trees i)) → new ≤ n + count (events files.trees inputs)
  count-inputs-stop done rest inputs i old new k n is few before step =
      let s = events files.trees done in
      let one = keep (s ++ checks s i) (input_walk files.trees i) in
      let y : events files.trees inputs
      ≡ events_after files.trees one rest =
      ap (events files.trees) (is ∙ sym (append_assoc done (i ∷ []) rest))
      ∙ (events-append files.trees [] (done ++ i ∷ []) rest
      ∙ ap (λ z. events_after files.trees z rest)
      (events-append files.trees [] done (i ∷ []) ∙ events-one files.trees s i)) in
      let m = inputs-grow one rest in
      let e = ap count y in
      omega (arith, step, before, few, m, e)
