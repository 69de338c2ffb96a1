-- The files of a run in their order: each once, just those that are reached, after their imports.
use Rattle.std.proofs.Common.{◌≡◌, ℕ, zero, suc, Bool, true, false, ◌⊎◌, inl, inr, List, [], ◌∷◌}
use Rattle.std.proofs.Common.{◌++◌, map, Option, Some, None, refl, sym, ◌∙◌, ap, subst, find}
use Rattle.std.proofs.Common.{append_assoc, append-nil, length, if◌then◌else◌}
use Rattle.std.specs.Prelude.{bytes_eq, is_some, not, ◌↔◌}
use Rattle.protobuf_parse_syntax.specs.Trees.{FileSyntax}
use Rattle.protobuf_parse_model.specs.Descriptors.{Text}
use Rattle.protobuf_parse_elaboration.specs.FilesByPath.{AreDistinct, leads, stays}
use Rattle.protobuf_parse_run.specs.Walks.{Asked, the_resolver, Input, named, at, Event, cycle}
use Rattle.protobuf_parse_run.specs.Walks.{long, load, check, elab, same_event, has, keep, among}
use Rattle.protobuf_parse_run.specs.Walks.{Trees, Reaches, import_paths, walks_joined}
use Rattle.protobuf_parse_run.specs.Walks.{events_inside, walk, checks, input_walk, input_name}
use Rattle.protobuf_parse_run.specs.Walks.{asked_of, reads_in, events_after, events, elab_paths}
use Rattle.protobuf_parse_run.specs.Run.{Files, fails}
use Rattle.protobuf_parse_run.specs.Loading.{Within}
use Rattle.protobuf_parse_run.specs.Stability.{IsClean, IsFileOfRun, order}
use Rattle.protobuf_parse_run.specs.Order.{breaks_off, AreWalked, IsReached}
use Rattle.protobuf_parse_run.proofs.Keeping.{bool_cases, elab_paths-append, false_true, first_same}
use Rattle.protobuf_parse_run.proofs.Keeping.{has-elab, has-here, has-in, has-last, has-left}
use Rattle.protobuf_parse_run.proofs.Keeping.{has-like, has-one, has-right, never_both, or_cases}
use Rattle.protobuf_parse_run.proofs.Keeping.{or_left, or_right, rest_same, some_same, text-same}
use Rattle.protobuf_parse_run.proofs.Keeping.{text-true}
use Rattle.protobuf_parse_run.proofs.Joining.{events-from, events-keep, has-joined, joined-has}
use Rattle.protobuf_parse_run.proofs.Joining.{keep-new, no-elab, no-load}
use Rattle.protobuf_parse_run.proofs.Knowing.{distinct-push}
use Rattle.protobuf_parse_run.proofs.Walking.{walk-load, walk-no_room, walk-on_chain}

pub elab-same : (p : Text) (x : Event) → same_event (elab p) x ≡ true → x ≡ elab p
elab-same p (elab q) h = sym (ap elab (text-true p q h))
elab-same p _ h = cc

-- ** events at which no walk breaks off

breaks-like : (trees : Trees) (e x : Event) → same_event e x ≡ true
    → breaks_off trees e ≡ breaks_off trees x
breaks-like trees (cycle p) (cycle q) h = refl
breaks-like trees (long p) (long q) h = refl
breaks-like trees (load a p) (load b q) h =
    ap (λ (z : Text). not (is_some (trees z))) (text-true p q h)
breaks-like trees (check n f p) (check m g q) h = refl
breaks-like trees (elab p) (elab q) h = refl
breaks-like trees _ _ h = absurd (false_true h)

-- at none of these events a walk breaks off
abbrev Whole : Trees → List Event → Type 0
Whole trees es = (e : Event) → has e es ≡ true → breaks_off trees e ≡ false

are-whole : (trees : Trees) (es : List Event) → find (breaks_off trees) es ≡ None → Whole trees es
are-whole trees [] n e h = absurd (false_true h)
are-whole trees (x ∷ es) n e h =
    elim (bool_cases (breaks_off trees x)) [
      | inl w ↦ absurd (let z : Some x ≡ None = (rw w at n) in cc)
      | inr w ↦ elim (or_cases (same_event e x) (has e es) h) [
        | inl v ↦ breaks-like trees e x v ∙ w
        | inr v ↦ let z : find (breaks_off trees) es ≡ None = (rw w at n) in
            are-whole trees es z e v
      ]
    ]

-- a walk that only breaks off
only-breaks : (trees : Trees) (es : List Event) (e : Event) → Whole trees es → es ≡ e ∷ []
    → breaks_off trees e ≡ true → ⊥
only-breaks trees es e whole is b =
    never_both (breaks_off trees e) b
    (whole e (subst (λ (z : List Event). has e z ≡ true) (sym is) (has-here e [])))

-- ** events at which all that a file imports is done

abbrev IsReady : Trees → List Event → Event → Type 0
IsReady trees before (elab p) = (t : FileSyntax) (q : Text) → trees p ≡ Some t
    → among q (import_paths t) ≡ true → has (elab q) before ≡ true
IsReady trees before _ = Unit {0}

abbrev AreReady : Trees → List Event → List Event → Type 0
AreReady trees before [] = Unit {0}
AreReady trees before (e ∷ es) = IsReady trees before e × AreReady trees (before ++ e ∷ []) es

ready-append : (trees : Trees) (before xs ys : List Event) → AreReady trees before xs
    → AreReady trees (before ++ xs) ys → AreReady trees before (xs ++ ys)
ready-append trees before [] ys h k =
    subst (λ (z : List Event). AreReady trees z ys) (append-nil before) k
ready-append trees before (x ∷ xs) ys h k = (
  h.0,
  ready-append trees (before ++ x ∷ []) xs ys h.1
      (subst (λ (z : List Event). AreReady trees z ys) (sym (append_assoc before (x ∷ []) xs)) k),
)

ready-one : (trees : Trees) (less more : List Event) (e : Event) → Within less more
    → IsReady trees less e → IsReady trees more e
ready-one trees less more (elab p) w h = λ t q is m. w (elab q) (h t q is m)
ready-one trees less more (cycle p) w h = tt
ready-one trees less more (long p) w h = tt
ready-one trees less more (load a p) w h = tt
ready-one trees less more (check n f p) w h = tt

within-push : (less more : List Event) (x : Event) → Within less more
    → Within (less ++ x ∷ []) (more ++ x ∷ [])
within-push less more x w e h =
    elim (has-in e less (x ∷ []) h) [
      | inl u ↦ has-left e more (x ∷ []) (w e u)
      | inr u ↦ has-right e more (x ∷ []) u
    ]

-- it is so behind more events
ready-more : (trees : Trees) (less more es : List Event) → Within less more
    → AreReady trees less es → AreReady trees more es
ready-more trees less more [] w h = tt
ready-more trees less more (e ∷ es) w h = (
  ready-one trees less more e w h.0,
  ready-more trees (less ++ e ∷ []) (more ++ e ∷ []) es (within-push less more e w) h.1,
)

ready-alone : (trees : Trees) (before es : List Event) → AreReady trees [] es
    → AreReady trees before es
ready-alone trees before es h = ready-more trees [] before es (λ e v. absurd (false_true v)) h

-- and in what is kept
ready-kept : (trees : Trees) (kept : List Event) (x : Event) (b : Bool) → AreReady trees [] kept
    → IsReady trees kept x → AreReady trees [] (if b then kept else kept ++ x ∷ [])
ready-kept trees kept x true k h = k
ready-kept trees kept x false k h = ready-append trees [] kept (x ∷ []) k (h, tt)

within-kept : (kept : List Event) (x : Event) (b : Bool) → has x kept ≡ b
    → Within (kept ++ x ∷ []) (if b then kept else kept ++ x ∷ [])
within-kept kept x true is e h =
    elim (has-in e kept (x ∷ []) h) [
      | inl u ↦ u
      | inr u ↦ sym (has-like e x kept (has-one e x u)) ∙ is
    ]
within-kept kept x false is e h = h

ready-keep : (trees : Trees) (kept xs : List Event) → AreReady trees [] kept
    → AreReady trees kept xs → AreReady trees [] (keep kept xs)
ready-keep trees kept [] k h = k
ready-keep trees kept (x ∷ xs) k h =
    ready-keep trees (if has x kept then kept else kept ++ x ∷ []) xs
    (ready-kept trees kept x (has x kept) k h.0)
    (ready-more trees (kept ++ x ∷ []) (if has x kept then kept else kept ++ x ∷ []) xs
    (within-kept kept x (has x kept) refl) h.1)

-- ** a walk that does not break off

-- it elaborates its file, and each file after what that imports
record IsDone (trees : Trees) (es : List Event) (p : Text) : Type 0 where
  ready : AreReady trees [] es
  elabs : has (elab p) es ≡ true

ready-joined : (trees : Trees) (f : Text → List Event) (ps : List Text)
    → ((q : Text) → among q ps ≡ true → IsDone trees (f q) q)
    → AreReady trees [] (walks_joined f ps)
ready-joined trees f [] each = tt
ready-joined trees f (p ∷ ps) each =
    ready-append trees [] (f p) (walks_joined f ps) (each p (or_left _ _ (text-same p))).ready
    (ready-alone trees (f p) (walks_joined f ps)
    (ready-joined trees f ps (λ q m. each q (or_right _ _ m))))

done-inside : (trees : Trees) (f : Text → List Event) (a : Asked) (p : Text)
    (o : Option FileSyntax) → trees p ≡ o → not (is_some o) ≡ false
    → ((q : Text) → Within (f q) (events_inside o f p) → IsDone trees (f q) q)
    → IsDone trees (load a p ∷ events_inside o f p) p
done-inside trees f a p None is some each = absurd (false_true (sym some))
done-inside trees f a p (Some t) is some each = record {
  ready = (
    tt,
    ready-alone trees (load a p ∷ []) (joined ++ elab p ∷ [])
        (ready-append trees [] joined (elab p ∷ []) (ready-joined trees f (import_paths t) inner)
        (here, tt)),
  );
  elabs = has-last (elab p) joined;
}
  where
    joined : List Event
    joined = walks_joined f (import_paths t)

    inner : (q : Text) → among q (import_paths t) ≡ true → IsDone trees (f q) q
    inner q m = each q
        (λ e h. has-left e joined (elab p ∷ []) (has-joined f (import_paths t) q e m h))

    here : (u : FileSyntax) (q : Text) → trees p ≡ Some u → among q (import_paths u) ≡ true
        → has (elab q) joined ≡ true
    here u q now m =
        let same : u ≡ t = some_same u t (sym now ∙ is) in
        let imported : among q (import_paths t) ≡ true =
        subst (λ (z : FileSyntax). among q (import_paths z) ≡ true) same m in
        has-joined f (import_paths t) q (elab q) imported (inner q imported).elabs

walk-done : (trees : Trees) (i : Text) (a : Asked) (room : ℕ) (chain : List Text) (p : Text)
    → Whole trees (walk trees i a room chain p) → IsDone trees (walk trees i a room chain p) p
walk-done trees i a zero chain p whole =
    elim (bool_cases (among p chain)) [
      | inl w ↦ absurd
          (only-breaks trees _ (cycle p) whole (walk-on_chain trees i a 0 chain p w) refl)
      | inr w ↦ absurd
          (only-breaks trees _ (long i) whole (walk-no_room trees i a chain p w) refl)
    ]
walk-done trees i a (suc room) chain p whole =
    elim (bool_cases (among p chain)) [
      | inl w ↦ absurd
          (only-breaks trees _ (cycle p) whole (walk-on_chain trees i a (suc room) chain p w) refl)
      | inr w ↦
          let f = walk trees i the_resolver room (chain ++ p ∷ []) in
          let opened : walk trees i a (suc room) chain p ≡ load a p ∷ events_inside (trees p) f p =
          walk-load trees i a room chain p w in
          let open_whole : Whole trees (load a p ∷ events_inside (trees p) f p) =
          subst (λ (es : List Event). Whole trees es) opened whole in
          subst (λ (es : List Event). IsDone trees es p) (sym opened)
          (done-inside trees f a p (trees p) refl
          (open_whole (load a p) (has-here (load a p) (events_inside (trees p) f p)))
          (λ q within. walk-done trees i the_resolver room (chain ++ p ∷ []) q
          (λ e h. open_whole e (or_right _ _ (within e h)))))
    ]

-- ** the files of a walk are reached

inside-reaches : (trees : Trees) (f : Text → List Event) (p q : Text) (o : Option FileSyntax)
    → trees p ≡ o → ((x : Text) → has (elab q) (f x) ≡ true → Reaches trees x q)
    → has (elab q) (events_inside o f p) ≡ true → Reaches trees p q
inside-reaches trees f p q None is each h = absurd (false_true h)
inside-reaches trees f p q (Some t) is each h =
    elim (has-in (elab q) (walks_joined f (import_paths t)) (elab p ∷ []) h) [
      | inl w ↦ let r = joined-has f (import_paths t) (elab q) w in
          leads p r.0 q t is r.1 (each r.0 r.2)
      | inr w ↦ subst (λ (z : Text). Reaches trees p z)
          (sym (text-true q p (has-one (elab q) (elab p) w))) (stays p)
    ]

other-event : (q : Text) (es : List Event) (x : Event) → es ≡ x ∷ []
    → same_event (elab q) x ≡ false → has (elab q) es ≡ true → ⊥
other-event q es x is other h =
    never_both (same_event (elab q) x)
    (has-one (elab q) x (subst (λ (z : List Event). has (elab q) z ≡ true) is h)) other

walk-reaches : (trees : Trees) (i : Text) (a : Asked) (room : ℕ) (chain : List Text) (p q : Text)
    → has (elab q) (walk trees i a room chain p) ≡ true → Reaches trees p q
walk-reaches trees i a zero chain p q h =
    elim (bool_cases (among p chain)) [
      | inl w ↦ absurd
          (other-event q _ (cycle p) (walk-on_chain trees i a 0 chain p w) refl h)
      | inr w ↦ absurd
          (other-event q _ (long i) (walk-no_room trees i a chain p w) refl h)
    ]
walk-reaches trees i a (suc room) chain p q h =
    elim (bool_cases (among p chain)) [
      | inl w ↦ absurd
          (other-event q _ (cycle p) (walk-on_chain trees i a (suc room) chain p w) refl h)
      | inr w ↦
          let f = walk trees i the_resolver room (chain ++ p ∷ []) in
          let opened : has (elab q) (load a p ∷ events_inside (trees p) f p) ≡ true =
          subst (λ (es : List Event). has (elab q) es ≡ true)
          (walk-load trees i a room chain p w) h in
          inside-reaches trees f p q (trees p) refl
          (λ x k. walk-reaches trees i the_resolver room (chain ++ p ∷ []) x q k) opened
    ]

-- ** what a walk loads it elaborates

-- a file that these events load
abbrev pub Loads : List Event → Text → Type 0
Loads events q = has (load the_resolver q) events ≡ true

-- ** what a walk loads it elaborates

inside-elabs : (f : Text → List Event) (p q : Text) (o : Option FileSyntax)
    → ((x : Text) → Loads (f x) q → has (elab q) (f x) ≡ true) → Loads (events_inside o f p) q
    → has (elab q) (events_inside o f p) ≡ true
inside-elabs f p q None each h = cc
inside-elabs f p q (Some t) each h =
    elim (has-in (load the_resolver q) (walks_joined f (import_paths t)) (elab p ∷ []) h) [
      | inl w ↦ let r = joined-has f (import_paths t) (load the_resolver q) w in has-left (elab q)
          (walks_joined f (import_paths t)) (elab p ∷ [])
          (has-joined f (import_paths t) r.0 (elab q) r.1 (each r.0 r.2))
      | inr w ↦ cc
    ]

inside-elab : (f : Text → List Event) (p q : Text) (t : FileSyntax) (o : Option FileSyntax)
    → o ≡ Some t → q ≡ p → has (elab q) (events_inside o f p) ≡ true
inside-elab f p q t o is same_event =
    rw (is, same_event) (has-last (elab p) (walks_joined f (import_paths t)))

walk-elabs : (trees : Trees) (i : Text) (a : Asked) (room : ℕ) (chain : List Text) (p q : Text)
    (t : FileSyntax) → trees q ≡ Some t → Loads (walk trees i a room chain p) q
    → has (elab q) (walk trees i a room chain p) ≡ true
walk-elabs trees i a zero chain p q t is h =
    elim (bool_cases (among p chain)) [
      | inl w ↦ absurd (let z = (rw (walk-on_chain trees i a 0 chain p w) at h) in cc)
      | inr w ↦ absurd (let z = (rw (walk-no_room trees i a chain p w) at h) in cc)
    ]
walk-elabs trees i a (suc room) chain p q t is h =
    elim (bool_cases (among p chain)) [
      | inl w ↦ absurd (let z = (rw (walk-on_chain trees i a (suc room) chain p w) at h) in cc)
      | inr w ↦
          let f = walk trees i the_resolver room (chain ++ p ∷ []) in
          let opened : walk trees i a (suc room) chain p ≡ load a p ∷ events_inside (trees p) f p =
          walk-load trees i a room chain p w in
          let into : Loads (load a p ∷ events_inside (trees p) f p) q = subst
          (λ (es : List Event). Loads es q) opened h in
          subst (λ (es : List Event). has (elab q) es ≡ true) (sym opened) (
          elim (or_cases (bytes_eq q p) (has (load the_resolver q) (events_inside (trees p) f p))
          into) [
            | inl v ↦ inside-elab f p q t (trees p)
                (subst (λ (z : Text). trees z ≡ Some t) (text-true q p v) is) (text-true q p v)
            | inr v ↦ inside-elabs f p q (trees p)
                (λ x k. walk-elabs trees i the_resolver room (chain ++ p ∷ []) x q t is k) v
          ])
    ]

-- ** the events of inputs

ready-check : (trees : Trees) (kept : List Event) (n : ℕ) (own p : Text) (b : Bool)
    → AreReady trees [] kept
    → AreReady trees [] (kept ++ (if b then check n own p ∷ [] else []))
ready-check trees kept n own p true k =
    ready-append trees [] kept (check n own p ∷ []) k (tt, tt)
ready-check trees kept n own p false k =
    subst (λ (z : List Event). AreReady trees [] z) (sym (append-nil kept)) k

ready-checks : (trees : Trees) (kept : List Event) (i : Input) → AreReady trees [] kept
    → AreReady trees [] (kept ++ checks kept i)
ready-checks trees kept (named p) k =
    subst (λ (z : List Event). AreReady trees [] z) (sym (append-nil kept)) k
ready-checks trees kept (at p own) k = ready-check trees kept (length (reads_in kept)) own p
    (has (load the_resolver p) kept) k

module _ (trees : Trees) (kept : List Event) (i : Input) (is : List Input)
    (whole : Whole trees
    (events_after trees (keep (kept ++ checks kept i) (input_walk trees i)) is)) where
  next-whole : Whole trees (input_walk trees i)
  next-whole e h =
      let base = kept ++ checks kept i in
      whole e (events-keep trees (keep base (input_walk trees i)) is e
      (keep-new base (input_walk trees i) e h))

  next-done : IsDone trees (input_walk trees i) (input_name i)
  next-done = walk-done trees (input_name i) (asked_of i) 100 [] (input_name i) next-whole

events-ready : (trees : Trees) (kept : List Event) (is : List Input) → AreReady trees [] kept
    → Whole trees (events_after trees kept is) → AreReady trees [] (events_after trees kept is)
unfolding events_after
events-ready trees kept [] k whole = k
events-ready trees kept (i ∷ is) k whole =
    let base = kept ++ checks kept i in
    events-ready trees (keep base (input_walk trees i)) is
    (ready-keep trees base (input_walk trees i) (ready-checks trees kept i k)
    (ready-alone trees base (input_walk trees i) (next-done trees kept i is whole).ready))
    whole

inputs-elab : (trees : Trees) (kept : List Event) (is : List Input) (n : Text)
    → Whole trees (events_after trees kept is) → among n (map input_name is) ≡ true
    → has (elab n) (events_after trees kept is) ≡ true
unfolding events_after
inputs-elab trees kept [] n whole h = absurd (false_true h)
inputs-elab trees kept (i ∷ is) n whole h =
    let base = kept ++ checks kept i in
    elim (or_cases (bytes_eq n (input_name i)) (among n (map input_name is)) h) [
      | inl w ↦
          subst (λ (z : Text). has (elab z)
          (events_after trees (keep base (input_walk trees i)) is) ≡ true)
          (sym (text-true n (input_name i) w))
          (events-keep trees (keep base (input_walk trees i)) is (elab (input_name i))
          (keep-new base (input_walk trees i) (elab (input_name i))
          (next-done trees kept i is whole).elabs))
      | inr w ↦ inputs-elab trees (keep base (input_walk trees i)) is n whole w
    ]

-- ** files and their imports among such events

ready-in : (trees : Trees) (before es : List Event) (p q : Text) (t : FileSyntax)
    → AreReady trees before es → has (elab p) es ≡ true → trees p ≡ Some t
    → among q (import_paths t) ≡ true → has (elab q) (before ++ es) ≡ true
ready-in trees before [] p q t r h is m = absurd (false_true h)
ready-in trees before (x ∷ es) p q t r h is m =
    elim (or_cases (same_event (elab p) x) (has (elab p) es) h) [
      | inl w ↦
          let now : IsReady trees before (elab p) =
          subst (λ (z : Event). IsReady trees before z) (elab-same p x w) r.0 in
          has-left (elab q) before (x ∷ es) (now t q is m)
      | inr w ↦ subst (λ (z : List Event). has (elab q) z ≡ true) (append_assoc before (x ∷ []) es)
          (ready-in trees (before ++ x ∷ []) es p q t r.1 w is m)
    ]

older : (e x : Event) (before : List Event) → same_event e x ≡ false
    → has e (before ++ x ∷ []) ≡ true → has e before ≡ true
older e x before other h =
    elim (has-in e before (x ∷ []) h) [
      | inl w ↦ w
      | inr w ↦ absurd (never_both (same_event e x) (has-one e x w) other)
    ]

abbrev ComesBefore : Text → List Event → List Text → Type 0
ComesBefore q before front = (has (elab q) before ≡ true) ⊎ (among q front ≡ true)

skip : (q : Text) (before : List Event) (x : Event) (front : List Text)
    → same_event (elab q) x ≡ false → ComesBefore q (before ++ x ∷ []) front
    → ComesBefore q before front
skip q before x front other h =
    elim h [ inl w ↦ inl (older (elab q) x before other w) | inr w ↦ inr w ]

into-front : (q x : Text) (before : List Event) (front : List Text)
    → ComesBefore q (before ++ elab x ∷ []) front → ComesBefore q before (x ∷ front)
into-front q x before front (inl h) = elim (has-in (elab q) before (elab x ∷ []) h)
    [ inl w ↦ inl w | inr w ↦ inr (or_left _ _ (has-one (elab q) (elab x) w)) ]
into-front q x before front (inr h) = inr (or_right _ _ h)

no_list : (x : Text) (xs : List Text) → ◌≡◌ {A = List Text} [] (x ∷ xs) → ⊥
no_list x xs h = cc

ready-order : (trees : Trees) (before es : List Event) (front back : List Text) (p q : Text)
    (t : FileSyntax) → AreReady trees before es → elab_paths es ≡ front ++ p ∷ back
    → trees p ≡ Some t → among q (import_paths t) ≡ true → ComesBefore q before front
ready-order trees before [] [] back p q t r is tree m = absurd (no_list p back is)
ready-order trees before [] (y ∷ front) back p q t r is tree m =
    absurd (no_list y (front ++ p ∷ back) is)
ready-order trees before (elab x ∷ es) [] back p q t r is tree m =
    inl (r.0 t q
    (subst (λ (z : Text). trees z ≡ Some t) (sym (first_same is)) tree) m)
ready-order trees before (elab x ∷ es) (y ∷ front) back p q t r is tree m =
    subst (λ (z : Text). ComesBefore q before (z ∷ front))
    (first_same is)
    (into-front q x before front
    (ready-order trees (before ++ elab x ∷ []) es front back p q t r.1
    (rest_same is) tree m))
ready-order trees before (cycle x ∷ es) front back p q t r is tree m =
    skip q before (cycle x) front refl
    (ready-order trees (before ++ cycle x ∷ []) es front back p q t r.1 is tree m)
ready-order trees before (long x ∷ es) front back p q t r is tree m =
    skip q before (long x) front refl
    (ready-order trees (before ++ long x ∷ []) es front back p q t r.1 is tree m)
ready-order trees before (load a x ∷ es) front back p q t r is tree m =
    skip q before (load a x) front refl
    (ready-order trees (before ++ load a x ∷ []) es front back p q t r.1 is tree m)
ready-order trees before (check n f x ∷ es) front back p q t r is tree m =
    skip q before (check n f x) front refl
    (ready-order trees (before ++ check n f x ∷ []) es front back p q t r.1 is tree m)

-- ** each file once

others-once : (kept : List Event) (x : Event) → elab_paths (x ∷ []) ≡ []
    → AreDistinct (elab_paths kept) → AreDistinct (elab_paths (kept ++ x ∷ []))
others-once kept x none k =
    subst AreDistinct
    (sym (elab_paths-append kept (x ∷ []) ∙ (ap (λ (z : List Text). elab_paths kept ++ z) none
    ∙ append-nil (elab_paths kept)))) k

once-one : (kept : List Event) (x : Event) → has x kept ≡ false
    → AreDistinct (elab_paths kept) → AreDistinct (elab_paths (kept ++ x ∷ []))
once-one kept (elab p) new k =
    subst AreDistinct (sym (elab_paths-append kept (elab p ∷ [])))
    (distinct-push p (elab_paths kept) k (sym (has-elab p kept) ∙ new))
once-one kept (cycle p) new k = others-once kept (cycle p) refl k
once-one kept (long p) new k = others-once kept (long p) refl k
once-one kept (load a p) new k = others-once kept (load a p) refl k
once-one kept (check n f p) new k = others-once kept (check n f p) refl k

once-kept : (kept : List Event) (x : Event) (b : Bool) → has x kept ≡ b
    → AreDistinct (elab_paths kept)
    → AreDistinct (elab_paths (if b then kept else kept ++ x ∷ []))
once-kept kept x true is k = k
once-kept kept x false is k = once-one kept x is k

once-keep : (kept xs : List Event) → AreDistinct (elab_paths kept)
    → AreDistinct (elab_paths (keep kept xs))
once-keep kept [] k = k
once-keep kept (x ∷ xs) k = once-keep (if has x kept then kept else kept ++ x ∷ []) xs
    (once-kept kept x (has x kept) refl k)

once-check : (kept : List Event) (n : ℕ) (own p : Text) (b : Bool)
    → AreDistinct (elab_paths kept)
    → AreDistinct (elab_paths (kept ++ (if b then check n own p ∷ [] else [])))
once-check kept n own p true k = others-once kept (check n own p) refl k
once-check kept n own p false k =
    subst (λ (z : List Event). AreDistinct (elab_paths z)) (sym (append-nil kept)) k

once-checks : (kept : List Event) (i : Input) → AreDistinct (elab_paths kept)
    → AreDistinct (elab_paths (kept ++ checks kept i))
once-checks kept (named p) k =
    subst (λ (z : List Event). AreDistinct (elab_paths z)) (sym (append-nil kept)) k
once-checks kept (at p own) k = once-check kept (length (reads_in kept)) own p
    (has (load the_resolver p) kept) k

events-once : (trees : Trees) (kept : List Event) (is : List Input)
    → AreDistinct (elab_paths kept) → AreDistinct (elab_paths (events_after trees kept is))
unfolding events_after
events-once trees kept [] k = k
events-once trees kept (i ∷ is) k =
    let base = kept ++ checks kept i in
    events-once trees (keep base (input_walk trees i)) is
    (once-keep base (input_walk trees i) (once-checks kept i k))

-- ** a run

pub none-comes-twice : (trees : Trees) (inputs : List Input) → AreDistinct (order trees inputs)
none-comes-twice trees inputs = events-once trees [] inputs tt

tree-there : (o : Option FileSyntax) → not (is_some o) ≡ false → (t : FileSyntax) × (o ≡ Some t)
tree-there None h = cc
tree-there (Some t) h = (t, refl)

module _ (trees : Trees) (inputs : List Input) (walked : AreWalked trees inputs) where
  abbrev all : List Event
  all = events trees inputs

  all-whole : Whole trees all
  all-whole = are-whole trees all walked

  all-ready : AreReady trees [] all
  all-ready = events-ready trees [] inputs tt all-whole

  pub imports-first : (front back : List Text) (p : Text) (t : FileSyntax)
      → order trees inputs ≡ front ++ p ∷ back → trees p ≡ Some t
      → (q : Text) → among q (import_paths t) ≡ true → among q front ≡ true
  imports-first front back p t is tree q m =
      elim (ready-order trees [] all front back p q t all-ready is tree m) [
        | inl w ↦ absurd (false_true w)
        | inr w ↦ w
      ]

  -- what a file of the run reaches is one
  pub reached-is : (p q : Text) → Reaches trees p q → IsFileOfRun trees inputs p
      → IsFileOfRun trees inputs q
  reached-is p q (stays _) h = h
  reached-is p q (leads _ m _ t is a rest) h =
      reached-is m q rest
      (sym (has-elab m all) ∙ ready-in trees [] all p m t all-ready (has-elab p all ∙ h) is a)

  all-come : (p : Text) → IsReached trees inputs p → IsFileOfRun trees inputs p
  all-come p r = reached-is r.from p r.reaches
      (sym (has-elab r.from all) ∙ inputs-elab trees [] inputs r.from all-whole r.is_input)

  -- what is loaded is a file of the run
  pub loaded-is : (q : Text) → Loads all q → IsFileOfRun trees inputs q
  loaded-is q h =
      let t = tree-there (trees q) (all-whole (load the_resolver q) h) in
      elim (events-from trees [] inputs (load the_resolver q) (no-load q) h) [
        | inl w ↦ absurd (false_true w)
        | inr w ↦ sym (has-elab q all) ∙ w.within (elab q)
            (walk-elabs trees (input_name w.input) (asked_of w.input) 100 []
            (input_name w.input) q t.0 t.1 w.walked)
      ]

only-reached : (trees : Trees) (inputs : List Input) (p : Text) → IsFileOfRun trees inputs p
    → IsReached trees inputs p
only-reached trees inputs p h =
    elim (events-from trees [] inputs (elab p) (no-elab p) (has-elab p (events trees inputs) ∙ h)) [
      | inl w ↦ absurd (false_true w)
      | inr w ↦ record {
        from = input_name w.input;
        is_input = w.is_input;
        reaches = walk-reaches trees (input_name w.input) (asked_of w.input) 100 []
            (input_name w.input) p w.walked;
      }
    ]

pub all-reached-come : (trees : Trees) (inputs : List Input) → AreWalked trees inputs
    → (p : Text) → IsFileOfRun trees inputs p ↔ IsReached trees inputs p
all-reached-come trees inputs walked p =
    (λ h. only-reached trees inputs p h, λ h. all-come trees inputs walked p h)

pub reached-come-too : (trees : Trees) (inputs : List Input) → AreWalked trees inputs
    → (p q : Text) → IsFileOfRun trees inputs p → Reaches trees p q → IsFileOfRun trees inputs q
reached-come-too trees inputs walked p q h reach = reached-is trees inputs walked p q reach h

-- ** an accepted run

find-less : (small large : Event → Bool) (es : List Event)
    → ((e : Event) → small e ≡ true → large e ≡ true) → find large es ≡ None
    → find small es ≡ None
find-less small large [] less h = refl
find-less small large (x ∷ es) less h =
    elim (bool_cases (large x)) [
      | inl w ↦ absurd (let z : Some x ≡ None = (rw w at h) in cc)
      | inr w ↦
          let z : find large es ≡ None = (rw w at h) in
          elim (bool_cases (small x)) [
            | inl v ↦ absurd (never_both (large x) (less x v) w)
            | inr v ↦ rw v (find-less small large es less z)
          ]
    ]

breaks-fails : (files : Files) (e : Event) → breaks_off files.trees e ≡ true
    → fails files e ≡ true
breaks-fails files (cycle p) h = refl
breaks-fails files (long p) h = refl
breaks-fails files (load a p) h = h
breaks-fails files (check n f p) h = absurd (false_true h)
breaks-fails files (elab p) h = absurd (false_true h)

pub accepted-walked : (files : Files) (inputs : List Input) → IsClean files inputs
    → AreWalked files.trees inputs
accepted-walked files inputs clean =
    find-less (breaks_off files.trees) (fails files) (events files.trees inputs)
    (breaks-fails files) clean
