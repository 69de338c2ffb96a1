-- In the events of a run each read of a path comes after its load, or is it.
use Rattle.std.proofs.Common.{◌≡◌, ℕ, zero, suc, Bool, true, false, ◌||◌, inl, inr, List, [], ◌∷◌}
use Rattle.std.proofs.Common.{◌++◌, map, Option, Some, None, refl, sym, ◌∙◌, ap, subst, find}
use Rattle.std.proofs.Common.{append_assoc, append-nil, length, if◌then◌else◌}
use Rattle.std.specs.Prelude.{bytes_eq, option_map, slice_get}
use Rattle.protobuf_parse_base.specs.PathViews.{path_buf_text}
use Rattle.protobuf_parse_syntax.specs.Trees.{FileSyntax}
use Rattle.protobuf_parse_model.specs.Descriptors.{Text}
use Rattle.protobuf_parse_run.specs.declared.log.ReadEntry.{ReadEntry}
use Rattle.protobuf_parse_run.specs.declared.log.ReadOutcome.{ReadOutcome}
use Rattle.protobuf_parse_run.specs.Walks.{Asked, the_resolver, Input, named, at, Event, cycle}
use Rattle.protobuf_parse_run.specs.Walks.{long}
use Rattle.protobuf_parse_run.specs.Walks.{load, check, elab, has, keep, among, Trees, import_paths}
use Rattle.protobuf_parse_run.specs.Walks.{walks_joined, events_inside, walk, FileRead, reads_in}
use Rattle.protobuf_parse_run.specs.Walks.{checks, input_name}
use Rattle.protobuf_parse_run.specs.Walks.{asked_of, input_walk, events_after, events, until}
use Rattle.protobuf_parse_run.specs.Run.{AreAnswered, first_read, Legal}
use Rattle.protobuf_parse_run.proofs.Keeping.{bool_cases, has-left, has-right, never_both, or_left}
use Rattle.protobuf_parse_run.proofs.Keeping.{some_same, text-same, text-true}
use Rattle.protobuf_parse_run.proofs.Steps.{has-asked}
use Rattle.protobuf_parse_run.proofs.Walking.{walk-load, walk-no_room, walk-on_chain}

-- ** walks have no checks

abbrev IsNoCheck : Event → Type 0
IsNoCheck (check n f p) = ⊥
IsNoCheck _ = Unit {0}

abbrev NoChecks : List Event → Type 0
NoChecks [] = Unit {0}
NoChecks (e ∷ es) = IsNoCheck e × NoChecks es

no-append : (xs ys : List Event) → NoChecks xs → NoChecks ys → NoChecks (xs ++ ys)
no-append [] ys h k = k
no-append (x ∷ xs) ys h k = (h.0, no-append xs ys h.1 k)

no-joined : (f : Text → List Event) (ps : List Text) → ((p : Text) → NoChecks (f p)) → NoChecks
    (walks_joined f ps)
no-joined f [] each = tt
no-joined f (p ∷ ps) each = no-append (f p) (walks_joined f ps) (each p) (no-joined f ps each)

no-inside : (o : Option FileSyntax) (f : Text → List Event) (p : Text)
    → ((q : Text) → NoChecks (f q)) → NoChecks (events_inside o f p)
no-inside None f p each = tt
no-inside (Some t) f p each = no-append (walks_joined f (import_paths t)) (elab p ∷ [])
    (no-joined f (import_paths t) each) (tt, tt)

no-checks : (trees : Trees) (i : Text) (a : Asked) (room : ℕ) (chain : List Text) (p : Text)
    → NoChecks (walk trees i a room chain p)
no-checks trees i a zero chain p =
    elim (bool_cases (among p chain)) [
      | inl w ↦ subst NoChecks (sym (walk-on_chain trees i a 0 chain p w)) (tt, tt)
      | inr w ↦ subst NoChecks (sym (walk-no_room trees i a chain p w)) (tt, tt)
    ]
no-checks trees i a (suc room) chain p =
    elim (bool_cases (among p chain)) [
      | inl w ↦ subst NoChecks (sym (walk-on_chain trees i a (suc room) chain p w)) (tt, tt)
      | inr w ↦ subst NoChecks (sym (walk-load trees i a room chain p w)) (
        tt,
        no-inside (trees p) (walk trees i the_resolver room (chain ++ p ∷ [])) p
            (no-checks trees i the_resolver room (chain ++ p ∷ [])),
      )
    ]

-- ** each event after those before it

-- A path is loaded that was not loaded before. One is checked that was, by the read that is next.
abbrev pub Follows : List Event → Event → Type 0
Follows before (load a p) = has (load the_resolver p) before ≡ false
Follows before (check n f p) = (has (load the_resolver p) before ≡ true)
    × (n ≡ length (reads_in before))
Follows before _ = Unit {0}

abbrev pub AllFollow : List Event → List Event → Type 0
AllFollow before [] = Unit {0}
AllFollow before (e ∷ es) = Follows before e × AllFollow (before ++ e ∷ []) es

follow-append : (before xs ys : List Event) → AllFollow before xs → AllFollow (before ++ xs) ys
    → AllFollow before (xs ++ ys)
follow-append before [] ys h k = subst (λ (z : List Event). AllFollow z ys) (append-nil before) k
follow-append before (x ∷ xs) ys h k = (
  h.0,
  follow-append (before ++ x ∷ []) xs ys h.1
      (subst (λ (z : List Event). AllFollow z ys) (sym (append_assoc before (x ∷ []) xs)) k),
)

follows-new : (kept : List Event) (e : Event) → IsNoCheck e → has e kept ≡ false → Follows kept e
follows-new kept (load a p) n h = sym (has-asked a p kept) ∙ h
follows-new kept (check m f p) n h = absurd n
follows-new kept (cycle p) n h = tt
follows-new kept (long p) n h = tt
follows-new kept (elab p) n h = tt

follow-one : (kept : List Event) (x : Event) (b : Bool) → IsNoCheck x → has x kept ≡ b
    → AllFollow [] kept → AllFollow [] (if b then kept else kept ++ x ∷ [])
follow-one kept x true n h k = k
follow-one kept x false n h k = follow-append [] kept (x ∷ []) k (follows-new kept x n h, tt)

follow-keep : (kept xs : List Event) → NoChecks xs → AllFollow [] kept → AllFollow []
    (keep kept xs)
follow-keep kept [] n k = k
follow-keep kept (x ∷ xs) n k = follow-keep (if has x kept then kept else kept ++ x ∷ []) xs n.1
    (follow-one kept x (has x kept) n.0 refl k)

follow-check : (kept : List Event) (p own : Text) (b : Bool) → has (load the_resolver p) kept ≡ b
    → AllFollow [] kept → AllFollow []
    (kept ++ (if b then check (length (reads_in kept)) own p ∷ [] else []))
follow-check kept p own true h k = follow-append [] kept
    (check (length (reads_in kept)) own p ∷ []) k ((h, refl), tt)
follow-check kept p own false h k = subst (λ (z : List Event). AllFollow [] z)
    (sym (append-nil kept)) k

follow-checks : (kept : List Event) (i : Input) → AllFollow [] kept → AllFollow []
    (kept ++ checks kept i)
follow-checks kept (named p) k = subst (λ (z : List Event). AllFollow [] z)
    (sym (append-nil kept)) k
follow-checks kept (at p own) k = follow-check kept p own (has (load the_resolver p) kept) refl k

events-follow : (trees : Trees) (kept : List Event) (is : List Input) → AllFollow [] kept
    → AllFollow [] (events_after trees kept is)
unfolding events_after
events-follow trees kept [] k = k
events-follow trees kept (i ∷ is) k = events-follow trees
    (keep (kept ++ checks kept i) (input_walk trees i)) is
    (follow-keep (kept ++ checks kept i) (input_walk trees i)
    (no-checks trees (input_name i) (asked_of i) 100 [] (input_name i)) (follow-checks kept i k))

pub all-follow : (trees : Trees) (is : List Input) → AllFollow [] (events trees is)
all-follow trees is = events-follow trees [] is tt

-- ** up to an event

-- an event, and those up to it
pub record Found (test : Event → Bool) (es : List Event) (e : Event) : Type 0 where
  pub before : List Event
  pub after : List Event
  pub split : es ≡ before ++ e ∷ after
  pub to : until test es ≡ before ++ e ∷ []

pub found : (test : Event → Bool) (es : List Event) (e : Event) → find test es ≡ Some e
    → Found test es e
found test [] e h = cc
found test (x ∷ es) e h =
    elim (bool_cases (test x)) [
      | inl w ↦
          let z : Some x ≡ Some e = (rw w at h) in
          let same : x ≡ e = cc in
          record {
            before = [];
            after = es;
            split = ap (λ y. y ∷ es) same;
            to =
                rw w (ap (λ y. y ∷ []) same);
          }
      | inr w ↦
          let z : find test es ≡ Some e = (rw w at h) in
          let f = found test es e z in
          record {
            before = x ∷ f.before;
            after = f.after;
            split = ap (λ y. x ∷ y) f.split;
            to =
                rw w (ap (λ y. x ∷ y) f.to);
          }
    ]

pub follows-front : (acc xs ys : List Event) → AllFollow acc (xs ++ ys) → AllFollow acc xs
follows-front acc [] ys h = tt
follows-front acc (x ∷ xs) ys h = (h.0, follows-front (acc ++ x ∷ []) xs ys h.1)

pub follows-at : (acc before after : List Event) (e : Event) → AllFollow acc (before ++ e ∷ after)
    → AllFollow acc before × Follows (acc ++ before) e
follows-at acc [] after e h =
    (tt, subst (λ (z : List Event). Follows z e) (sym (append-nil acc)) h.0)
follows-at acc (x ∷ before) after e h =
    let r = follows-at (acc ++ x ∷ []) before after e h.1 in
    ((h.0, r.0), subst (λ (z : List Event). Follows z e) (append_assoc acc (x ∷ []) before) r.1)

-- ** paths that are not loaded are not read

abbrev pub paths_read : List FileRead → List Text
paths_read rs = map (λ (r : FileRead). r.path) rs

next-none : (acc es : List Event) (e l : Event) → has l (acc ++ e ∷ es) ≡ false
    → has l ((acc ++ e ∷ []) ++ es) ≡ false
next-none acc es e l h = ap (has l) (append_assoc acc (e ∷ []) es) ∙ h

neither : (a b : Bool) → (a ≡ true → ⊥) → b ≡ false → (a || b) ≡ false
neither true b h k = absurd (h refl)
neither false b h k = k

pub unread : (p : Text) (acc es : List Event) → AllFollow acc es → has (load the_resolver p)
    (acc ++ es) ≡ false → among p (paths_read (reads_in es)) ≡ false
unread p acc [] h none = refl
unread p acc (load a q ∷ es) h none =
    neither (bytes_eq p q) (among p (paths_read (reads_in es)))
    (λ w. never_both _ (has-right (load the_resolver p) acc (load a q ∷ es) (or_left _ _ w)) none)
    (unread p (acc ++ load a q ∷ []) es h.1
    (next-none acc es (load a q) (load the_resolver p) none))
unread p acc (check n f q ∷ es) h none =
    neither (bytes_eq p q) (among p (paths_read (reads_in es)))
    (λ w. never_both _
    (has-left (load the_resolver p) acc (check n f q ∷ es)
    (subst (λ (z : Text). has (load the_resolver z) acc ≡ true) (sym (text-true p q w))
    h.0.0)) none)
    (unread p (acc ++ check n f q ∷ []) es h.1
    (next-none acc es (check n f q) (load the_resolver p) none))
unread p acc (cycle q ∷ es) h none = unread p (acc ++ cycle q ∷ []) es h.1
    (next-none acc es (cycle q) (load the_resolver p) none)
unread p acc (long q ∷ es) h none = unread p (acc ++ long q ∷ []) es h.1
    (next-none acc es (long q) (load the_resolver p) none)
unread p acc (elab q ∷ es) h none = unread p (acc ++ elab q ∷ []) es h.1
    (next-none acc es (elab q) (load the_resolver p) none)

-- ** the answer to the last read

-- the first read of its path
pub first-is-last : (legal : Legal) (rs : List FileRead) (r : FileRead) (log : List ReadEntry)
    (o : ReadOutcome) → among r.path (paths_read rs) ≡ false → AreAnswered legal (rs ++ r ∷ []) log
    → first_read r.path log ≡ Some o → legal r.asked r.path o
first-is-last legal [] r [] o none a h = absurd a
first-is-last legal [] r (e ∷ log) o none a h =
    let same : bytes_eq r.path (path_buf_text e.path) ≡ true = subst
    (λ (z : Text). bytes_eq r.path z ≡ true) (sym a.0) (text-same r.path) in
    let z : Some e.outcome ≡ Some o = (rw same at h) in
    subst (λ (x : ReadOutcome). legal r.asked r.path x) (some_same e.outcome o z) a.1
first-is-last legal (x ∷ rs) r [] o none a h = absurd a
first-is-last legal (x ∷ rs) r (e ∷ log) o none a h =
    elim (bool_cases (bytes_eq r.path x.path)) [
      | inl w ↦ absurd (never_both _ (or_left _ _ w) none)
      | inr w ↦
          let other : bytes_eq r.path (path_buf_text e.path) ≡ false = subst
          (λ (z : Text). bytes_eq r.path z ≡ false) (sym a.0) w in
          let z : first_read r.path log ≡ Some o = (rw other at h) in
          first-is-last legal rs r log o (rw w at none) a.2 z
    ]

-- the read of that number
pub at-is-last : (legal : Legal) (rs : List FileRead) (r : FileRead) (log : List ReadEntry)
    (o : ReadOutcome) → AreAnswered legal (rs ++ r ∷ []) log → option_map
    (λ (e : ReadEntry). e.outcome) (slice_get log (length rs)) ≡ Some o → legal r.asked r.path o
at-is-last legal [] r [] o a h = absurd a
at-is-last legal [] r (e ∷ log) o a h = subst (λ (x : ReadOutcome). legal r.asked r.path x)
    (some_same e.outcome o h) a.1
at-is-last legal (x ∷ rs) r [] o a h = absurd a
at-is-last legal (x ∷ rs) r (e ∷ log) o a h = at-is-last legal rs r log o a.2 h
