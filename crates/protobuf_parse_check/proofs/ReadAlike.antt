-- Where a load tells nothing, it reads what a run reads.
use Rattle.std.proofs.Common.{◌≡◌, ◌∙◌, ℕ, zero, suc, false, ◌||◌, List, [], ◌∷◌, ◌++◌}
use Rattle.std.proofs.Common.{Option, None, Some, ap, append-nil, append_assoc, arith, inl, inr}
use Rattle.std.proofs.Common.{length}
use Rattle.std.proofs.Common.{map, refl, subst, sym}
use Rattle.std.specs.Prelude.{nat_le, slice_get}
use Rattle.std.specs.List.{list_any}
use Rattle.std.proofs.lemmas.List.{length_push, map-append}
use Rattle.std.proofs.lemmas.List.Folds.{list_any-append}
use Rattle.protobuf_parse_syntax.specs.Dependencies.{imports}
use Rattle.protobuf_parse_syntax.specs.Trees.{ImportSyntax}
use Rattle.protobuf_parse_model.specs.Descriptors.{Text}
use Rattle.protobuf_parse_run.specs.Walks.{Asked, Event, FileRead, Input, Trees, among, asked_of}
use Rattle.protobuf_parse_run.specs.Walks.{at}
use Rattle.protobuf_parse_run.specs.Walks.{check, input_name, load, named, reads_in, the_reader}
use Rattle.protobuf_parse_run.specs.Walks.{the_resolver}
use Rattle.protobuf_parse_run.proofs.Keeping.{bool_cases, never_both, or_right, reads_in-append}
use Rattle.protobuf_parse_load.specs.declared.known.Known.{Known}
use Rattle.protobuf_parse_load.specs.declared.known.Known.TheVariants.{Unreadable, Loaded}
use Rattle.protobuf_parse_load.specs.Laws.{asked_at, asked_for, event_of, is_told as tells_step}
use Rattle.protobuf_parse_load.specs.Laws.{own_at}
use Rattle.protobuf_parse_load.specs.Steps.{AskedBy, At, Step, Why, by_import, by_input, closed}
use Rattle.protobuf_parse_load.specs.Steps.{closes}
use Rattle.protobuf_parse_load.specs.Steps.{held, holds, holds_known, is_cycle, is_too_long}
use Rattle.protobuf_parse_load.specs.Steps.{is_unread}
use Rattle.protobuf_parse_load.specs.Steps.{known, loads, meet, meets_each}
use Rattle.protobuf_parse_load.specs.Steps.{meets_input, misses, nothing, opened, opens, tells}
use Rattle.protobuf_parse_load.specs.Steps.{told}
use Rattle.protobuf_parse_load.proofs.Following.{option_cases}
use Rattle.protobuf_parse_load.proofs.Fronting.{load-is-run}
use Rattle.protobuf_parse_load.proofs.HeldReads.{last-at, more-at}
use Rattle.protobuf_parse_load.proofs.Machine.{meet-cycle, meet-full, meet-loaded, meet-long}
use Rattle.protobuf_parse_load.proofs.Machine.{meet-missed, meet-opened, meet-unread}
use Rattle.protobuf_parse_check.specs.Laws.{QuietReadsAreRuns}
use Rattle.protobuf_parse_check.proofs.Settled.{or_none}

module _ (inputs : List Input) where
  -- what happens at these steps
  abbrev happens : List Step → List Event
  happens steps = map (event_of inputs) steps

  -- if nothing is told so far, what happens so far reads what was read so far
  abbrev Reads : At → Type 0
  Reads a = list_any tells_step a.steps ≡ false → reads_in (happens a.steps) ≡ a.reads

  reads-told : (a b : At) (by : AskedBy) (p : Text) (why : Why)
      → b.steps ≡ a.steps ++ told by p why ∷ [] → Reads b
  reads-told a b by p why is none =
      absurd (never_both (list_any tells_step b.steps)
      (ap (list_any tells_step) is
      ∙ list_any-append tells_step a.steps (told by p why ∷ [])
      ∙ or_right (list_any tells_step a.steps) (list_any tells_step (told by p why ∷ [])) refl)
      none)

  reads-step : (a b : At) (s : Step) (rs : List FileRead) → b.steps ≡ a.steps ++ s ∷ []
      → b.reads ≡ a.reads ++ rs → reads_in (event_of inputs s ∷ []) ≡ rs → Reads a → Reads b
  reads-step a b s rs steps reads one so none =
      let parts : (list_any tells_step a.steps || list_any tells_step (s ∷ [])) ≡ false =
      sym (list_any-append tells_step a.steps (s ∷ []))
      ∙ sym (ap (list_any tells_step) steps) ∙ none in
      let before : list_any tells_step a.steps ≡ false =
      (or_none (list_any tells_step a.steps) (list_any tells_step (s ∷ [])) parts).0 in
      ap (λ (z : List Step). reads_in (happens z)) steps
      ∙ ap reads_in (map-append (event_of inputs) a.steps (s ∷ []))
      ∙ reads_in-append (happens a.steps) (event_of inputs s ∷ [])
      ∙ ap (λ (z : List FileRead). z ++ reads_in (event_of inputs s ∷ [])) (so before)
      ∙ ap (λ (z : List FileRead). a.reads ++ z) one
      ∙ sym reads

  reads-each : (f : ImportSyntax → At → At)
      → ((i : ImportSyntax) (a : At) → Reads a → Reads (f i a))
      → (is : List ImportSyntax) (a : At) → Reads a → Reads (meets_each f is a)
  reads-each f each [] a so = so
  reads-each f each (i ∷ is) a so = reads-each f each is (f i a) (each i a so)

  module _ (trees : Trees) (input : Text) where
    -- a path that isn't on the chain, and is met anew by this
    reads-off : (asked : Asked) (room : ℕ) (chain : List Text) (by : AskedBy) (p : Text) (a : At)
        → Reads a
        → (among p chain ≡ false → known p a.steps ≡ None
        → Reads (meet trees input asked room chain by p a))
        → Reads (meet trees input asked room chain by p a)
    reads-off asked room chain by p a so new =
        elim (bool_cases (among p chain)) [
          | inl w ↦ subst (λ (z : At). Reads z)
              (sym (meet-cycle trees input asked room chain by p a w))
              (reads-told a (tells (told by p is_cycle) a) by p is_cycle refl)
          | inr w ↦ by_known (known p a.steps) refl w
        ]
      where
        by_known : (k : Option Known) → known p a.steps ≡ k → among p chain ≡ false
            → Reads (meet trees input asked room chain by p a)
        by_known None is off = new off is
        by_known (Some (Unreadable n)) is off =
            subst (λ (z : At). Reads z)
            (sym (meet-unread trees input asked room chain by p a n off is))
            (reads-told a (tells (told by p (is_unread n)) a) by p (is_unread n) refl)
        by_known (Some (Loaded h)) is off =
            elim (bool_cases (nat_le h room)) [
              | inl w ↦ subst (λ (z : At). Reads z)
                  (sym (meet-loaded trees input asked room chain by p a h off is w)) so
              | inr w ↦ subst (λ (z : At). Reads z)
                  (sym (meet-long trees input asked room chain by p a h off is w))
                  (reads-told a (tells (told by p (is_too_long input)) a) by p (is_too_long input)
                  refl)
            ]

    reads-meet : (asked : Asked) (room : ℕ) (chain : List Text) (by : AskedBy) (p : Text) (a : At)
        → asked_for inputs by ≡ asked → Reads a
        → Reads (meet trees input asked room chain by p a)
    reads-meet asked zero chain by p a who so =
        reads-off asked zero chain by p a so
        (λ off none. subst (λ (z : At). Reads z)
        (sym (meet-full trees input asked chain by p a off none))
        (reads-told a (tells (told by p (is_too_long input)) a) by p (is_too_long input) refl))
    reads-meet asked (suc room) chain by p a who so =
        reads-off asked (suc room) chain by p a so
        (λ off none. elim (option_cases (trees p)) [
          | inl t ↦
              let f : ImportSyntax → At → At =
              λ i. meet trees input the_resolver room (chain ++ p ∷ []) (by_import p i.place) i.path
              in
              let start : At = opens by asked p a in
              let one : FileRead = record { asked = asked; path = p } in
              let read : (z : Asked) → z ≡ asked → reads_in (load z p ∷ []) ≡ one ∷ [] =
              λ z is. ap (λ y. reads_in (load y p ∷ [])) is in
              let opened_so : Reads start =
              reads-step a start (opened by p) (one ∷ []) refl refl
              (read (asked_for inputs by) who) so in
              let inner : At = meets_each f (imports t.0.statements) start in
              let inside : Reads inner =
              reads-each f
              (λ i b. reads-meet the_resolver room (chain ++ p ∷ []) (by_import p i.place) i.path b
              refl)
              (imports t.0.statements) start opened_so in
              subst (λ (z : At). Reads z)
              (sym (meet-opened trees input asked room chain by p a t.0 off none t.1))
              (reads-step inner (closes p inner) (closed p (suc inner.height)) [] refl
              (sym (append-nil inner.reads)) refl inside)
          | inr w ↦
              subst (λ (z : At). Reads z)
              (sym (meet-missed trees input asked room chain by p a off none w))
              (reads-told a (misses by asked p a) by p (is_unread (length a.unread)) refl)
        ])

  module _ (trees : Trees) where
    reads-holds : (n : ℕ) (i : Input) (a : At) → slice_get inputs n ≡ Some i → Reads a
        → Reads (holds n i a)
    reads-holds n (named p) a is so = so
    reads-holds n (at p own) a is so = by_known (known p a.steps)
      where
        by_known : (k : Option Known) → Reads (holds_known n p own a k)
        by_known None = so
        by_known (Some (Unreadable m)) = so
        by_known (Some (Loaded h)) =
            let one : FileRead = record { asked = the_reader own; path = p } in
            let read : (o : Option Input) → o ≡ Some (at p own)
            → reads_in (check (length a.reads) (own_at o) p ∷ []) ≡ one ∷ [] =
            λ o e. ap (λ y. reads_in (check (length a.reads) (own_at y) p ∷ [])) e in
            reads-step a (holds_known n p own a (Some (Loaded h))) (held n p (length a.reads))
            (one ∷ []) refl refl (read (slice_get inputs n) is) so

    reads-loads : (before rest : List Input) (a : At) → inputs ≡ before ++ rest → Reads a
        → Reads (loads trees (length before) rest a)
    reads-loads before [] a is so = so
    reads-loads before (i ∷ rest) a is so =
        let n : ℕ = length before in
        let next : inputs ≡ (before ++ i ∷ []) ++ rest =
        is ∙ sym (append_assoc before (i ∷ []) rest) in
        let there : slice_get inputs n ≡ Some i =
        ap (λ (zs : List Input). slice_get zs n) next
        ∙ more-at (before ++ i ∷ []) rest n i (last-at before i) in
        let count : length (before ++ i ∷ []) ≡ suc n =
        let e = length_push before i in omega (arith, e) in
        let b : At = meets_input trees n i a in
        let met : Reads b =
        reads-meet trees (input_name i) (asked_of i) 100 [] (by_input n) (input_name i)
        (holds n i a) (ap asked_at there) (reads-holds n i a there so) in
        subst (λ (z : ℕ). Reads (loads trees z rest b)) count
        (reads-loads (before ++ i ∷ []) rest b next met)

pub quiet-reads-are-runs : QuietReadsAreRuns
quiet-reads-are-runs trees inputs untold =
    sym (reads-loads inputs trees [] inputs nothing refl (λ h. refl) untold)
    ∙ ap reads_in (sym (load-is-run trees inputs untold))
