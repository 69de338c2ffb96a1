-- Files that are loaded: met again they add no events to a run's, but for a chain that is too long.
use Rattle.std.proofs.Common.{◌≡◌, ◌⊎◌, inl, inr, ℕ, zero, suc, ◌≤◌, ◌<◌, true, false, List, []}
use Rattle.std.proofs.Common.{◌∷◌}
use Rattle.std.proofs.Common.{◌++◌, Option, Some, None, refl, sym, ◌∙◌, ap, subst, map, max, arith}
use Rattle.std.proofs.Common.{append-nil, append_assoc, cond}
use Rattle.std.specs.Prelude.{bytes_eq}
use Rattle.protobuf_parse_syntax.specs.Trees.{FileSyntax}
use Rattle.protobuf_parse_model.specs.Descriptors.{Text}
use Rattle.protobuf_parse_run.specs.Walks.{Asked, Event, Input, Trees, among, elab, events_inside}
use Rattle.protobuf_parse_run.specs.Walks.{has}
use Rattle.protobuf_parse_run.specs.Walks.{import_paths, keep, load, long, the_resolver, walk}
use Rattle.protobuf_parse_run.specs.Walks.{walks_joined}
use Rattle.protobuf_parse_run.proofs.Keeping.{among-in, bool_cases, has-like, keep-append}
use Rattle.protobuf_parse_run.proofs.Keeping.{keep-extends}
use Rattle.protobuf_parse_run.proofs.Keeping.{keep-fresh, none_some, not_true, some_same, text-same}
use Rattle.protobuf_parse_run.proofs.Keeping.{text-true}
use Rattle.protobuf_parse_run.proofs.Walking.{walk-load, walk-no_room}
use Rattle.protobuf_parse_load.specs.declared.known.Known.{Known}
use Rattle.protobuf_parse_load.specs.declared.known.Known.TheVariants.{Unreadable, Loaded}
use Rattle.protobuf_parse_load.specs.Laws.{event_of}
use Rattle.protobuf_parse_load.specs.Steps.{Step, closed, known, known_by}
use Rattle.protobuf_parse_load.specs.StepLists.{or_else}
use Rattle.protobuf_parse_load.proofs.Learning.{by-or_else, known-push}

pub keep-had : (kept xs : List Event) (e : Event) → has e kept ≡ true
    → keep kept (e ∷ xs) ≡ keep kept xs
keep-had kept xs e h = rw h refl

-- a file is loaded, whoever is asked for it
pub has-load : (a b : Asked) (p : Text) (xs : List Event)
    → has (load a p) xs ≡ has (load b p) xs
has-load a b p xs = has-like (load b p) (load a p) xs (text-same p)

-- ** what is known of paths

known-append : (p : Text) (steps more : List Step)
    → known p (steps ++ more) ≡ or_else (known p steps) (known p more)
known-append p [] more = refl
known-append p (x ∷ steps) more =
    ap (known_by p x) (known-append p steps more) ∙ by-or_else p x (known p steps) (known p more)

-- what is known stays so
pub known-stays : (p : Text) (steps more : List Step) (k : Known) → known p steps ≡ Some k
    → known p (steps ++ more) ≡ Some k
known-stays p steps more k h =
    known-append p steps more ∙ ap (λ o. or_else o (known p more)) h

cond-loaded : (p q : Text) (g h : ℕ) → cond (bytes_eq p q) (Some (Loaded g)) None ≡ Some (Loaded h)
    → (p ≡ q) × (h ≡ g)
cond-loaded p q g h e =
    elim (bool_cases (bytes_eq p q)) [
      | inl w ↦
          let z : ◌≡◌ {A = Option Known} (Some (Loaded g)) (Some (Loaded h)) = (rw w at e) in
          (text-true p q w, cc)
      | inr w ↦ absurd (none_some (Loaded h) (rw w at e))
    ]

-- what was known before a file was closed
pub known-closing : (p q : Text) (g h : ℕ) (steps : List Step)
    → known p (steps ++ closed q g ∷ []) ≡ Some (Loaded h)
    → (known p steps ≡ Some (Loaded h)) ⊎ ((p ≡ q) × (h ≡ g))
known-closing p q g h steps e =
    cases (known p steps) (sym (known-push p steps (closed q g)) ∙ e)
  where
    cases : (o : Option Known)
        → or_else o (cond (bytes_eq p q) (Some (Loaded g)) None) ≡ Some (Loaded h)
        → (o ≡ Some (Loaded h)) ⊎ ((p ≡ q) × (h ≡ g))
    cases None e = inr (cond-loaded p q g h e)
    cases (Some k) e = inl e

pub known-now : (q : Text) (g : ℕ) (steps : List Step) → known q steps ≡ None
    → known q (steps ++ closed q g ∷ []) ≡ Some (Loaded g)
known-now q g steps none =
    known-push q steps (closed q g)
    ∙ ap (λ o. or_else o (known_by q (closed q g) None)) none
    ∙ ap (λ b. cond b (Some (Loaded g)) None) (text-same q)

-- the height of a loaded file
abbrev pub height_in : Option Known → ℕ
height_in None = 0
height_in (Some (Unreadable n)) = 0
height_in (Some (Loaded h)) = h

abbrev pub tallest : List Step → List Text → ℕ
tallest steps [] = 0
tallest steps (p ∷ ps) = max (height_in (known p steps)) (tallest steps ps)

abbrev pub AllLoaded : List Step → List Text → Type 0
AllLoaded steps [] = Unit {0}
AllLoaded steps (p ∷ ps) = ((h : ℕ) × (known p steps ≡ Some (Loaded h))) × AllLoaded steps ps

pub loaded-more : (steps more : List Step) (ps : List Text) → AllLoaded steps ps
    → AllLoaded (steps ++ more) ps
loaded-more steps more [] a = tt
loaded-more steps more (p ∷ ps) a =
    ((a.0.0, known-stays p steps more (Loaded a.0.0) a.0.1), loaded-more steps more ps a.1)

pub tallest-more : (steps more : List Step) (ps : List Text) → AllLoaded steps ps
    → tallest (steps ++ more) ps ≡ tallest steps ps
tallest-more steps more [] a = refl
tallest-more steps more (p ∷ ps) a =
    rw (known-stays p steps more (Loaded a.0.0) a.0.1, a.0.1, tallest-more steps more ps a.1) refl

-- the loaded files of the chain have longer chains than this
abbrev pub Higher : List Step → ℕ → List Text → Type 0
Higher steps h chain = (p : Text) (g : ℕ) → among p chain ≡ true
    → known p steps ≡ Some (Loaded g) → h < g

same-height : (g h : ℕ) (k : Option Known) → k ≡ Some (Loaded g) → k ≡ Some (Loaded h) → g ≡ h
same-height g h k a b = let e : Loaded g ≡ Loaded h = some_same (Loaded g) (Loaded h) (sym a ∙ b) in
    cc

module _ (trees : Trees) (inputs : List Input) where
  -- what happens in a run at these steps
  abbrev pub evs : List Step → List Event
  evs steps = map (event_of inputs) steps

  -- a loaded file: its imports are loaded, and the longest chain from it goes by one of them
  pub record IsGrounded (steps : List Step) (p : Text) (h : ℕ) : Type 0 where
    pub tree : FileSyntax
    pub is : trees p ≡ Some tree
    pub below : AllLoaded steps (import_paths tree)
    pub height : h ≡ suc (tallest steps (import_paths tree))
    pub load : has (load the_resolver p) (evs steps) ≡ true
    pub elab : has (elab p) (evs steps) ≡ true

  abbrev pub Grounded : List Step → Type 0
  Grounded steps = (p : Text) (h : ℕ) → known p steps ≡ Some (Loaded h) → IsGrounded steps p h

  -- a file of that height, met where there is so much room, in a walk of this input
  abbrev pub Again : List Step → Text → ℕ → ℕ → List Event → Type 0
  Again steps i room h kept = ((h ≤ room) × (kept ≡ evs steps))
      ⊎ ((room < h) × ((later : List Event) × (kept ≡ (evs steps ++ long i ∷ []) ++ later)))

  module _ (steps : List Step) (g : Grounded steps) (i : Text)
      (short : has (long i) (evs steps) ≡ false) where
    all-again : (f : Text → List Event) (room : ℕ) (ps : List Text) → AllLoaded steps ps
        → ((p : Text) (h : ℕ) → known p steps ≡ Some (Loaded h) → h ≤ tallest steps ps
        → Again steps i room h (keep (evs steps) (f p)))
        → Again steps i room (tallest steps ps) (keep (evs steps) (walks_joined f ps))
    all-again f room [] a each = inl (omega arith, refl)
    all-again f room (p ∷ ps) a each =
        let t : height_in (known p steps) ≡ a.0.0 = rw a.0.1 refl in
        let e = each p a.0.0 a.0.1 (omega (arith, t)) in
        rw keep-append
        (elim e [
          | inl u ↦ rw u.1 (elim (all-again f room ps a.1
              (λ q h k le. each q h k (omega (arith, le)))) [
                | inl v ↦ inl (omega (arith, t, u.0, v.0), v.1)
                | inr v ↦ inr (omega (arith, t, v.0), v.1)
              ])
          | inr u ↦ let r = keep-extends (keep (evs steps) (f p)) (walks_joined f ps) in
              inr (
                omega (arith, t, u.0),
                (
                  u.1.0 ++ r.0,
                  r.1 ∙ (ap (λ z. z ++ r.0) u.1.1
                      ∙ append_assoc (evs steps ++ long i ∷ []) u.1.0 r.0),
                ),
              )
        ])

    -- a loaded file, met again
    pub again : (asked : Asked) (room : ℕ) (chain : List Text) (p : Text) (h : ℕ)
        → known p steps ≡ Some (Loaded h) → Higher steps h chain
        → Again steps i room h (keep (evs steps) (walk trees i asked room chain p))
    again asked zero chain p h k high =
        let off : among p chain ≡ false = not_true (among p chain) (λ on.
        let lt = high p h on k in omega (arith, lt)) in
        let e = g p h k in
        rw (walk-no_room trees i asked chain p off)
        (inr (
          omega (arith, e.height),
          ([], keep-fresh (evs steps) [] (long i) short ∙ sym (append-nil _)),
        ))
    again asked (suc room) chain p h k high =
        let off : among p chain ≡ false = not_true (among p chain) (λ on.
        let lt = high p h on k in omega (arith, lt)) in
        let e = g p h k in
        let f : Text → List Event = walk trees i the_resolver room (chain ++ p ∷ []) in
        let walks : List Event = walks_joined f (import_paths e.tree) in
        let inner = all-again f room (import_paths e.tree) e.below
        (λ q j c le. again the_resolver room (chain ++ p ∷ []) q j c
        (higher q j c (omega (arith, le, e.height)))) in
        let walked : walk trees i asked (suc room) chain p ≡ load asked p ∷ (walks ++ elab p ∷ []) =
        walk-load trees i asked room chain p off
        ∙ ap (λ t. load asked p ∷ events_inside t f p) e.is in
        let had : has (load asked p) (evs steps) ≡ true =
        has-load asked the_resolver p (evs steps) ∙ e.load in
        let all : keep (evs steps) (walk trees i asked (suc room) chain p)
        ≡ keep (keep (evs steps) walks) (elab p ∷ []) =
        ap (keep (evs steps)) walked
        ∙ (keep-had (evs steps) (walks ++ elab p ∷ []) (load asked p) had
        ∙ keep-append (evs steps) walks (elab p ∷ [])) in
        rw all
        (elim inner [
          | inl u ↦ inl (
            omega (arith, u.0, e.height),
            ap (λ z. keep z (elab p ∷ [])) u.1 ∙ keep-had (evs steps) [] (elab p) e.elab,
          )
          | inr u ↦ let r = keep-extends (keep (evs steps) walks) (elab p ∷ []) in
              inr (
                omega (arith, u.0, e.height),
                (
                  u.1.0 ++ r.0,
                  r.1 ∙ (ap (λ z. z ++ r.0) u.1.1
                      ∙ append_assoc (evs steps ++ long i ∷ []) u.1.0 r.0),
                ),
              )
        ])
      where
        higher : (q : Text) (j : ℕ) → known q steps ≡ Some (Loaded j) → j < h
            → Higher steps j (chain ++ p ∷ [])
        higher q j c lt r m on there = elim (among-in r p chain on) [
          | inl u ↦ let up = high r m u there in omega (arith, up, lt)
          | inr u ↦ let same = same-height h m (known p steps) k
              (subst (λ (z : Text). known z steps ≡ Some (Loaded m)) u there) in
              omega (arith, same, lt)
        ]
