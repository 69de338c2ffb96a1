-- On walks that are joined, on what is kept of walks, and on the events of inputs.
use Rattle.std.proofs.Common.{◌≡◌, Bool, true, false, ◌⊎◌, inl, inr, List, [], ◌∷◌, ◌++◌, map, refl}
use Rattle.std.proofs.Common.{sym, ◌∙◌, ap, subst, append_assoc, append-nil, length, ℕ}
use Rattle.std.proofs.Common.{if◌then◌else◌}
use Rattle.std.specs.Prelude.{bytes_eq}
use Rattle.protobuf_parse_model.specs.Descriptors.{Text}
use Rattle.protobuf_parse_run.specs.Walks.{the_resolver, Input, named, at, Event, load, check, elab}
use Rattle.protobuf_parse_run.specs.Walks.{same_event, has, keep, among, Trees, walks_joined}
use Rattle.protobuf_parse_run.specs.Walks.{checks, input_walk, events_after, input_name, reads_in}
use Rattle.protobuf_parse_run.specs.Loading.{Within}
use Rattle.protobuf_parse_run.proofs.Keeping.{has-in, has-left, has-like, has-one, has-right}
use Rattle.protobuf_parse_run.proofs.Keeping.{keep-extends, never_both, or_cases, or_left}
use Rattle.protobuf_parse_run.proofs.Keeping.{or_right, text-same, text-true}

-- ** events of files whose walks are joined

pub has-joined : (f : Text → List Event) (ps : List Text) (x : Text) (e : Event) → among x ps ≡ true
    → has e (f x) ≡ true → has e (walks_joined f ps) ≡ true
has-joined f [] x e m h = cc
has-joined f (p ∷ ps) x e m h =
    elim (or_cases (bytes_eq x p) (among x ps) m) [
      | inl w ↦ has-left e (f p) (walks_joined f ps)
          (subst (λ (z : Text). has e (f z) ≡ true) (text-true x p w) h)
      | inr w ↦ has-right e (f p) (walks_joined f ps) (has-joined f ps x e w h)
    ]

pub joined-has : (f : Text → List Event) (ps : List Text) (e : Event)
    → has e (walks_joined f ps) ≡ true → (x : Text) × (among x ps ≡ true) × (has e (f x) ≡ true)
joined-has f [] e h = cc
joined-has f (p ∷ ps) e h =
    elim (has-in e (f p) (walks_joined f ps) h) [
      | inl w ↦ (p, or_left _ _ (text-same p), w)
      | inr w ↦ let r = joined-has f ps e w in (r.0, or_right _ _ r.1, r.2)
    ]

pub joined-same : (f g : Text → List Event) (ps : List Text)
    → ((x : Text) → among x ps ≡ true → f x ≡ g x) → walks_joined f ps ≡ walks_joined g ps
joined-same f g [] each = refl
joined-same f g (p ∷ ps) each =
    ap (λ z. z ++ walks_joined f ps) (each p (or_left _ _ (text-same p)))
    ∙ ap (λ z. g p ++ z) (joined-same f g ps (λ x m. each x (or_right _ _ m)))

-- ** what is kept

pub keep-old : (kept xs : List Event) (e : Event) → has e kept ≡ true → has e (keep kept xs) ≡ true
keep-old kept xs e h = let r = keep-extends kept xs in rw r.1 (has-left e kept r.0 h)

pub kept-or : (b : Bool) (kept : List Event) (x e : Event) → has x kept ≡ b → same_event e x ≡ true
    → has e (if b then kept else kept ++ x ∷ []) ≡ true
kept-or true kept x e is h = sym (has-like e x kept h) ∙ is
kept-or false kept x e is h = has-right e kept (x ∷ []) (or_left _ _ h)

pub keep-new : (kept xs : List Event) (e : Event) → has e xs ≡ true → has e (keep kept xs) ≡ true
keep-new kept [] e h = cc
keep-new kept (x ∷ xs) e h =
    elim (or_cases (same_event e x) (has e xs) h) [
      | inl w ↦ keep-old (if has x kept then kept else kept ++ x ∷ []) xs e
          (kept-or (has x kept) kept x e refl w)
      | inr w ↦ keep-new (if has x kept then kept else kept ++ x ∷ []) xs e w
    ]

pub or-from : (b : Bool) (kept : List Event) (x e : Event)
    → has e (if b then kept else kept ++ x ∷ []) ≡ true → (has e kept ≡ true)
    ⊎ (same_event e x ≡ true)
or-from true kept x e h = inl h
or-from false kept x e h = elim (has-in e kept (x ∷ []) h)
    [ inl w ↦ inl w | inr w ↦ inr (has-one e x w) ]

pub keep-from : (kept xs : List Event) (e : Event) → has e (keep kept xs) ≡ true
    → (has e kept ≡ true) ⊎ (has e xs ≡ true)
keep-from kept [] e h = inl h
keep-from kept (x ∷ xs) e h =
    elim (keep-from (if has x kept then kept else kept ++ x ∷ []) xs e h) [
      | inl w ↦ elim (or-from (has x kept) kept x e w)
          [ inl v ↦ inl v | inr v ↦ inr (or_left _ _ v) ]
      | inr w ↦ inr (or_right _ _ w)
    ]

-- ** the events of inputs

pub events-extend : (trees : Trees) (kept : List Event) (is : List Input) → (rest : List Event)
    × (events_after trees kept is ≡ kept ++ rest)
unfolding events_after
events-extend trees kept [] = ([], sym (append-nil kept))
events-extend trees kept (i ∷ is) =
    let k = kept ++ checks kept i in
    let a = keep-extends k (input_walk trees i) in
    let b = events-extend trees (keep k (input_walk trees i)) is in (
      checks kept i ++ (a.0 ++ b.0),
      b.1
          ∙ (ap (λ z. z ++ b.0) a.1
          ∙ (append_assoc k a.0 b.0 ∙ append_assoc kept (checks kept i) (a.0 ++ b.0))),
    )

pub events-keep : (trees : Trees) (kept : List Event) (is : List Input) (e : Event)
    → has e kept ≡ true → has e (events_after trees kept is) ≡ true
events-keep trees kept is e h = let r = events-extend trees kept is in subst
    (λ (es : List Event). has e es ≡ true) (sym r.1) (has-left e kept r.0 h)

-- what is no check comes from the walk of an input
pub record IsOfWalk (trees : Trees) (kept : List Event) (is : List Input) (d : Event)
    : Type 0 where
  pub input : Input
  pub is_input : among (input_name input) (map input_name is) ≡ true
  pub walked : has d (input_walk trees input) ≡ true
  pub within : Within (input_walk trees input) (events_after trees kept is)

later-walk : (trees : Trees) (kept : List Event) (i : Input) (is : List Input) (d : Event)
    → IsOfWalk trees (keep (kept ++ checks kept i) (input_walk trees i)) is d
    → IsOfWalk trees kept (i ∷ is) d
unfolding events_after
later-walk trees kept i is d w = record {
  input = w.input;
  is_input = or_right _ _ w.is_input;
  walked = w.walked;
  within = w.within;
}

pub events-from : (trees : Trees) (kept : List Event) (is : List Input) (d : Event)
    → ((before : List Event) (i : Input) → has d (checks before i) ≡ true → ⊥)
    → has d (events_after trees kept is) ≡ true
    → (has d kept ≡ true) ⊎ IsOfWalk trees kept is d
unfolding events_after
events-from trees kept [] d none h = inl h
events-from trees kept (i ∷ is) d none h =
    let k = kept ++ checks kept i in
    elim (events-from trees (keep k (input_walk trees i)) is d none h) [
      | inl w ↦ elim (keep-from k (input_walk trees i) d w) [
        | inl v ↦ elim (has-in d kept (checks kept i) v)
            [ inl u ↦ inl u | inr u ↦ absurd (none kept i u) ]
        | inr v ↦ inr (record {
          input = i;
          is_input = or_left _ _ (text-same (input_name i));
          walked = v;
          within = λ e u. events-keep trees (keep k (input_walk trees i)) is e
              (keep-new k (input_walk trees i) e u);
        })
      ]
      | inr w ↦ inr (later-walk trees kept i is d w)
    ]

pub one-check : (d : Event) (n : ℕ) (own p : Text) (b : Bool) → same_event d (check n own p) ≡ false
    → has d (if b then check n own p ∷ [] else []) ≡ true → ⊥
one-check d n own p true other h = never_both _ (has-one d (check n own p) h) other
one-check d n own p false other h = cc

pub no-load : (q : Text) (before : List Event) (i : Input)
    → has (load the_resolver q) (checks before i) ≡ true → ⊥
no-load q before (named p) h = cc
no-load q before (at p own) h = one-check (load the_resolver q) (length (reads_in before)) own p
    (has (load the_resolver p) before) refl h

pub no-elab : (q : Text) (before : List Event) (i : Input) → has (elab q) (checks before i) ≡ true
    → ⊥
no-elab q before (named p) h = cc
no-elab q before (at p own) h = one-check (elab q) (length (reads_in before)) own p
    (has (load the_resolver p) before) refl h
