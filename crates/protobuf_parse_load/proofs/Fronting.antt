-- A load and the events of a run agree up to the first that ends the run.
use Rattle.std.proofs.Common.{◌≡◌, ◌⊎◌, inl, inr, ℕ, zero, suc, Bool, true, false, not}
use Rattle.std.proofs.Common.{List, [], ◌∷◌, ◌++◌, Option, Some, None, refl, sym, ◌∙◌, ap, subst}
use Rattle.std.proofs.Common.{map}
use Rattle.std.proofs.Common.{max, length, arith, append-nil, append_assoc, find, is_some}
use Rattle.std.proofs.lemmas.Bool.Decides.{nat_tests}
use Rattle.std.proofs.lemmas.List.{length_push, map-append}
use Rattle.std.proofs.lemmas.List.Folds.{list_any-append}
use Rattle.std.specs.Prelude.{bytes_eq, nat_le, slice_get}
use Rattle.std.specs.List.{list_any}
use Rattle.protobuf_parse_syntax.specs.Dependencies.{imports}
use Rattle.protobuf_parse_syntax.specs.Trees.{FileSyntax, ImportSyntax}
use Rattle.protobuf_parse_model.specs.Descriptors.{Text}
use Rattle.protobuf_parse_run.specs.Run.{fails}
use Rattle.protobuf_parse_run.specs.Walks.{Asked, Event, FileRead, Input, Trees, among, asked_of}
use Rattle.protobuf_parse_run.specs.Walks.{at}
use Rattle.protobuf_parse_run.specs.Walks.{check, checks, cycle, elab, events, events_after}
use Rattle.protobuf_parse_run.specs.Walks.{events_inside, has, import_paths, input_name, input_walk}
use Rattle.protobuf_parse_run.specs.Walks.{keep, load, long, named, reads_in, the_reader}
use Rattle.protobuf_parse_run.specs.Walks.{the_resolver, until, walk, walks_joined, with_input}
use Rattle.protobuf_parse_run.proofs.Keeping.{among-in, bool_cases, clean-has, cycle-same}
use Rattle.protobuf_parse_run.proofs.Keeping.{false_true}
use Rattle.protobuf_parse_run.proofs.Keeping.{has-in, has-last, has-left, has-one}
use Rattle.protobuf_parse_run.proofs.Keeping.{keep-append, keep-extends, keep-fresh, long-same}
use Rattle.protobuf_parse_run.proofs.Keeping.{never_both, none_some, not_true, or_left}
use Rattle.protobuf_parse_run.proofs.Keeping.{or_right, reads_in-append, text-same}
use Rattle.protobuf_parse_run.proofs.Walking.{walk-load, walk-no_room, walk-on_chain}
use Rattle.protobuf_parse_load.specs.declared.known.Known.{Known}
use Rattle.protobuf_parse_load.specs.declared.known.Known.TheVariants.{Unreadable, Loaded}
use Rattle.protobuf_parse_load.specs.Laws.{LoadIsRun, RunIsFront, asked_at, asked_for, event_of}
use Rattle.protobuf_parse_load.specs.Laws.{is_told, load_events, own_at}
use Rattle.protobuf_parse_load.specs.Steps.{AskedBy, At, Step, Why, back, by_import, by_input}
use Rattle.protobuf_parse_load.specs.Steps.{closed}
use Rattle.protobuf_parse_load.specs.Steps.{closes, held, holds, holds_known, is_cycle, is_too_long}
use Rattle.protobuf_parse_load.specs.Steps.{is_unread, known, load_steps, loads, meet}
use Rattle.protobuf_parse_load.specs.Steps.{meets_each, meets_input, nothing, opened, opens}
use Rattle.protobuf_parse_load.specs.Steps.{told}
use Rattle.protobuf_parse_load.proofs.Following.{option_cases}
use Rattle.protobuf_parse_load.proofs.HeldReads.{last-at, more-at}
use Rattle.protobuf_parse_load.proofs.Machine.{meet-cycle, meet-full, meet-loaded, meet-long}
use Rattle.protobuf_parse_load.proofs.Machine.{meet-missed, meet-opened}
use Rattle.protobuf_parse_load.proofs.Settling.{AllLoaded, Grounded, Higher, IsGrounded, again, evs}
use Rattle.protobuf_parse_load.proofs.Settling.{has-load, known-closing, known-now, known-stays}
use Rattle.protobuf_parse_load.proofs.Settling.{loaded-more, tallest, tallest-more}
use Rattle.protobuf_parse_load.proofs.Standing.{among-last, among-left, holding}
use Rattle.protobuf_parse_load.proofs.Untold.{Longer, any-push, find-push}
use Rattle.protobuf_parse_load.proofs.Untold.{known-held, known-opened, longer-each, longer-meet}
use Rattle.protobuf_parse_load.proofs.Untold.{longer-trans, no-unread, until-first}

module _ (trees : Trees) (inputs : List Input) (ends : Event → Bool)
    (cycles : (p : Text) → ends (cycle p) ≡ true) (chains : (i : Text) → ends (long i) ≡ true)
    (reads : (a : Asked) (p : Text) → ends (load a p) ≡ not (is_some (trees p))) where
  abbrev pub ev : Step → Event
  ev s = event_of inputs s

  abbrev pub Evs : List Step → List Event
  Evs steps = evs trees inputs steps

  evs-push : (steps : List Step) (s : Step) → Evs (steps ++ s ∷ []) ≡ Evs steps ++ ev s ∷ []
  evs-push steps s = map-append (event_of inputs) steps (s ∷ [])

  -- a file that was closed is known
  was-closed : (p : Text) (steps : List Step) → list_any is_told steps ≡ false
      → has (elab p) (Evs steps) ≡ true → (h : ℕ) × (known p steps ≡ Some (Loaded h))
  was-closed p [] u h = absurd (false_true h)
  was-closed p (opened by q ∷ steps) u h = was-closed p steps u h
  was-closed p (told by q why ∷ steps) u h = absurd (false_true (sym u))
  was-closed p (held n q r ∷ steps) u h = was-closed p steps u h
  was-closed p (closed q g ∷ steps) u h =
      elim (bool_cases (bytes_eq p q)) [
        | inl w ↦ (g, rw w refl)
        | inr w ↦ let r = was-closed p steps u (rw w at h) in (r.0, rw w r.1)
      ]

  grounded-more : (steps more : List Step) (p : Text) (h : ℕ)
      → IsGrounded trees inputs steps p h → IsGrounded trees inputs (steps ++ more) p h
  grounded-more steps more p h e = record {
    tree = e.tree;
    is = e.is;
    below = loaded-more steps more (import_paths e.tree) e.below;
    height = e.height ∙ ap suc (sym (tallest-more steps more (import_paths e.tree) e.below));
    load = rw (map-append (event_of inputs) steps more)
        (has-left (load the_resolver p) (Evs steps) (Evs more) e.load);
    elab = rw (map-append (event_of inputs) steps more)
        (has-left (elab p) (Evs steps) (Evs more) e.elab);
  }

  -- ** what holds while nothing ends the run

  pub record Sound (a : At) (chain : List Text) : Type 0 where
    pub quiet : find ends (Evs a.steps) ≡ None
    pub untold : list_any is_told a.steps ≡ false
    pub grounded : Grounded trees inputs a.steps
    pub was_opened : (p : Text) → has (load the_resolver p) (Evs a.steps) ≡ true
        → (among p chain ≡ true) ⊎ ((h : ℕ) × (known p a.steps ≡ Some (Loaded h)))
    pub off : (p : Text) (h : ℕ) → among p chain ≡ true → known p a.steps ≡ Some (Loaded h) → ⊥
    pub count : length (reads_in (Evs a.steps)) ≡ length a.reads

  -- an event that may end a run where nothing is told
  abbrev pub IsOther : Event → Type 0
  IsOther (elab p) = Unit {0}
  IsOther (check n own p) = Unit {0}
  IsOther _ = ⊥

  -- the event of a step ends the run, and none before it
  pub record Refuses (steps : List Step) (kept : List Event) : Type 0 where
    pub before : List Step
    pub last : Step
    pub more : List Step
    pub later : List Event
    pub split : steps ≡ (before ++ last ∷ []) ++ more
    pub kept_is : kept ≡ (Evs before ++ ev last ∷ []) ++ later
    pub quiet : find ends (Evs before) ≡ None
    pub ending : ends (ev last) ≡ true
    pub cause : (is_told last ≡ true) ⊎ IsOther (ev last)

  refuses-more : (steps more : List Step) (kept later : List Event) → Refuses steps kept
      → Refuses (steps ++ more) (kept ++ later)
  refuses-more steps more kept later r = record {
    before = r.before;
    last = r.last;
    more = r.more ++ more;
    later = r.later ++ later;
    split = ap (λ z. z ++ more) r.split ∙ append_assoc (r.before ++ r.last ∷ []) r.more more;
    kept_is = ap (λ z. z ++ later) r.kept_is
        ∙ append_assoc (Evs r.before ++ ev r.last ∷ []) r.later later;
    quiet = r.quiet;
    ending = r.ending;
    cause = r.cause;
  }

  refuses-now : (a : At) (chain : List Text) (s : Step) → Sound a chain → ends (ev s) ≡ true
      → (is_told s ≡ true) ⊎ IsOther (ev s)
      → Refuses (a.steps ++ s ∷ []) (Evs a.steps ++ ev s ∷ [])
  refuses-now a chain s sound ending cause = record {
    before = a.steps;
    last = s;
    more = [];
    later = [];
    split = sym (append-nil (a.steps ++ s ∷ []));
    kept_is = sym (append-nil (Evs a.steps ++ ev s ∷ []));
    quiet = sound.quiet;
    ending = ending;
    cause = cause;
  }

  refuses-later : (a b : At) (kept events : List Event) → Longer a b → Refuses a.steps kept
      → Refuses b.steps (keep kept events)
  refuses-later a b kept events x r =
      let k = keep-extends kept events in
      subst (λ (z : List Event). Refuses b.steps z) (sym k.1)
      (subst (λ (z : List Step). Refuses z (kept ++ k.0)) (sym x.1)
      (refuses-more a.steps x.0 kept k.0 r))

  -- a path was met, and is loaded
  record IsThere (chain : List Text) (p : Text) (a b : At) (kept : List Event) : Type 0 where
    sound : Sound b chain
    height : ℕ
    is : known p b.steps ≡ Some (Loaded height)
    tall : b.height ≡ max a.height height
    same : kept ≡ Evs b.steps

  record AreThere (chain : List Text) (ps : List Text) (a b : At) (kept : List Event)
      : Type 0 where
    sound : Sound b chain
    are : AllLoaded b.steps ps
    tall : b.height ≡ max a.height (tallest b.steps ps)
    same : kept ≡ Evs b.steps

  abbrev Fares : List Text → Text → At → At → List Event → Type 0
  Fares chain p a b kept = IsThere chain p a b kept ⊎ Refuses b.steps kept

  abbrev FareAll : List Text → List Text → At → At → List Event → Type 0
  FareAll chain ps a b kept = AreThere chain ps a b kept ⊎ Refuses b.steps kept

  module _ (chain : List Text) (f : ImportSyntax → At → At) (w : Text → List Event)
      (each : (i : ImportSyntax) (a : At) → Sound a chain
      → Fares chain i.path a (f i a) (keep (Evs a.steps) (w i.path)))
      (longer : (i : ImportSyntax) (a : At) → Longer a (f i a)) where
    there-next : (i : ImportSyntax) (is : List ImportSyntax) (a : At)
        → IsThere chain i.path a (f i a) (keep (Evs a.steps) (w i.path))
        → AreThere chain (map (λ (j : ImportSyntax). j.path) is) (f i a) (meets_each f is (f i a))
        (keep (Evs (f i a).steps) (walks_joined w (map (λ (j : ImportSyntax). j.path) is)))
        → AreThere chain (i.path ∷ map (λ (j : ImportSyntax). j.path) is) a
        (meets_each f is (f i a))
        (keep (Evs (f i a).steps) (walks_joined w (map (λ (j : ImportSyntax). j.path) is)))
    there-next i is a u v =
        let x = longer-each f longer is (f i a) in
        let k : known i.path (meets_each f is (f i a)).steps ≡ Some (Loaded u.height) =
        ap (known i.path) x.1 ∙ known-stays i.path (f i a).steps x.0 (Loaded u.height) u.is in
        record {
          sound = v.sound;
          are = ((u.height, k), v.are);
          tall = rw k (omega (arith, u.tall, v.tall));
          same = v.same;
        }

    fare-all : (is : List ImportSyntax) (a : At) → Sound a chain
        → FareAll chain (map (λ (j : ImportSyntax). j.path) is) a (meets_each f is a)
        (keep (Evs a.steps) (walks_joined w (map (λ (j : ImportSyntax). j.path) is)))
    fare-all [] a s = inl (record { sound = s; are = tt; tall = omega arith; same = refl })
    fare-all (i ∷ is) a s =
        rw (keep-append (Evs a.steps) (w i.path)
        (walks_joined w (map (λ (j : ImportSyntax). j.path) is)))
        (elim (each i a s) [
          | inl u ↦ rw u.same (elim (fare-all is (f i a) u.sound) [
            | inl v ↦ inl (there-next i is a u v)
            | inr v ↦ inr v
          ])
          | inr u ↦ inr (refuses-later (f i a) (meets_each f is (f i a))
              (keep (Evs a.steps) (w i.path))
              (walks_joined w (map (λ (j : ImportSyntax). j.path) is))
              (longer-each f longer is (f i a)) u)
        ])

  -- ** a path is met

  -- a file on the chain is not known
  unknown : (a : At) (chain : List Text) (p : Text) → Sound a (chain ++ p ∷ [])
      → known p a.steps ≡ None
  unknown a chain p s = cases (known p a.steps) refl
    where
      cases : (k : Option Known) → known p a.steps ≡ k → k ≡ None
      cases None e = refl
      cases (Some (Unreadable n)) e = absurd (no-unread p a.steps n s.untold e)
      cases (Some (Loaded h)) e =
          absurd (s.off p h (among-last p p chain (text-same p)) e)

  no-long : (a : At) (chain : List Text) (i : Text) → Sound a chain
      → has (long i) (Evs a.steps) ≡ false
  no-long a chain i s =
      clean-has ends (Evs a.steps) (long i) (λ x h. long-same i x h) s.quiet (chains i)

  no-cycle : (a : At) (chain : List Text) (p : Text) → Sound a chain
      → has (cycle p) (Evs a.steps) ≡ false
  no-cycle a chain p s =
      clean-has ends (Evs a.steps) (cycle p) (λ x h. cycle-same p x h) s.quiet (cycles p)

  unopened : (a : At) (chain : List Text) (asked : Asked) (p : Text) → Sound a chain
      → among p chain ≡ false → known p a.steps ≡ None → has (load asked p) (Evs a.steps) ≡ false
  unopened a chain asked p s off none =
      has-load asked the_resolver p (Evs a.steps)
      ∙ not_true (has (load the_resolver p) (Evs a.steps)) (λ h. elim (s.was_opened p h) [
        | inl u ↦ never_both (among p chain) u off
        | inr u ↦ none_some (Loaded u.0) (sym none ∙ u.1)
      ])

  -- something isn't followed
  fares-told : (chain : List Text) (by : AskedBy) (p : Text) (why : Why) (a b : At)
      (later : List Event) (kept : List Event) → Sound a chain → b.steps ≡ a.steps ++ told by p why
      ∷ []
      → ends (ev (told by p why)) ≡ true
      → kept ≡ (Evs a.steps ++ ev (told by p why) ∷ []) ++ later
      → Fares chain p a b kept
  fares-told chain by p why a b later kept s is ending kept_is =
      let s_told : Step = told by p why in
      inr (subst (λ (z : List Step). Refuses z kept) (append-nil (a.steps ++ s_told ∷ []) ∙ sym is)
      (subst (λ (z : List Event). Refuses ((a.steps ++ s_told ∷ []) ++ []) z) (sym kept_is)
      (refuses-more (a.steps ++ s_told ∷ []) [] (Evs a.steps ++ ev s_told ∷ []) later
      (refuses-now a chain s_told s ending (inl refl)))))

  fares-again : (input : Text) (asked : Asked) (room : ℕ) (chain : List Text) (by : AskedBy)
      (p : Text) (h : ℕ) (a : At) → Sound a chain → among p chain ≡ false
      → known p a.steps ≡ Some (Loaded h)
      → Fares chain p a (meet trees input asked room chain by p a)
      (keep (Evs a.steps) (walk trees input asked room chain p))
  fares-again input asked room chain by p h a s off k =
      let high : Higher a.steps h chain = λ q g m i. absurd (s.off q g m i) in
      elim (again trees inputs a.steps s.grounded input (no-long a chain input s) asked room chain p
      h
      k high) [
        | inl u ↦ let le : nat_le h room ≡ true = grind (arith, nat_tests, u.0) in
            rw (meet-loaded trees input asked room chain by p a h off k le)
            (inl (record {
              sound = record {
                quiet = s.quiet;
                untold = s.untold;
                grounded = s.grounded;
                was_opened = s.was_opened;
                off = s.off;
                count = s.count;
              };
              height = h;
              is = k;
              tall = omega arith;
              same = u.1;
            }))
        | inr u ↦ let le : nat_le h room ≡ false = grind (arith, nat_tests, u.0) in
            fares-told chain by p (is_too_long input) a (meet trees input asked room chain by p a)
            u.1.0 (keep (Evs a.steps) (walk trees input asked room chain p)) s
            (ap (λ (z : At). z.steps) (meet-long trees input asked room chain by p a h off k le))
            (chains input) u.1.1
      ]

  -- a step is told, whose event is new
  fares-step : (chain : List Text) (by : AskedBy) (p : Text) (why : Why) (a b : At)
      (walked : List Event) → Sound a chain → b.steps ≡ a.steps ++ told by p why ∷ []
      → ends (ev (told by p why)) ≡ true → walked ≡ ev (told by p why) ∷ []
      → has (ev (told by p why)) (Evs a.steps) ≡ false
      → Fares chain p a b (keep (Evs a.steps) walked)
  fares-step chain by p why a b walked s is ending walk_is fresh =
      fares-told chain by p why a b [] (keep (Evs a.steps) walked) s is ending
      (ap (keep (Evs a.steps)) walk_is
      ∙ keep-fresh (Evs a.steps) [] (ev (told by p why)) fresh
      ∙ sym (append-nil (Evs a.steps ++ ev (told by p why) ∷ [])))

  fares-cycle : (input : Text) (asked : Asked) (room : ℕ) (chain : List Text) (by : AskedBy)
      (p : Text) (a : At) → Sound a chain → among p chain ≡ true
      → Fares chain p a (meet trees input asked room chain by p a)
      (keep (Evs a.steps) (walk trees input asked room chain p))
  fares-cycle input asked room chain by p a s on =
      fares-step chain by p is_cycle a (meet trees input asked room chain by p a)
      (walk trees input asked room chain p) s
      (ap (λ (z : At). z.steps) (meet-cycle trees input asked room chain by p a on)) (cycles p)
      (walk-on_chain trees input asked room chain p on) (no-cycle a chain p s)

  fares-full : (input : Text) (asked : Asked) (chain : List Text) (by : AskedBy) (p : Text) (a : At)
      → Sound a chain → among p chain ≡ false → known p a.steps ≡ None
      → Fares chain p a (meet trees input asked 0 chain by p a)
      (keep (Evs a.steps) (walk trees input asked 0 chain p))
  fares-full input asked chain by p a s off none =
      fares-step chain by p (is_too_long input) a (meet trees input asked 0 chain by p a)
      (walk trees input asked 0 chain p) s
      (ap (λ (z : At). z.steps) (meet-full trees input asked chain by p a off none)) (chains input)
      (walk-no_room trees input asked chain p off) (no-long a chain input s)

  fares-missed : (input : Text) (asked : Asked) (room : ℕ) (chain : List Text) (by : AskedBy)
      (p : Text) (a : At) → asked_for inputs by ≡ asked → Sound a chain → among p chain ≡ false
      → known p a.steps ≡ None → trees p ≡ None
      → Fares chain p a (meet trees input asked (suc room) chain by p a)
      (keep (Evs a.steps) (walk trees input asked (suc room) chain p))
  fares-missed input asked room chain by p a who s off none tree =
      let why : Why = is_unread (length a.unread) in
      let same : load asked p ≡ ev (told by p why) = ap (λ z. load z p) (sym who) in
      fares-step chain by p why a (meet trees input asked (suc room) chain by p a)
      (walk trees input asked (suc room) chain p) s
      (ap (λ (z : At). z.steps) (meet-missed trees input asked room chain by p a off none tree))
      (reads (asked_for inputs by) p ∙ ap (λ t. not (is_some t)) tree)
      (walk-load trees input asked room chain p off
      ∙ ap (λ t. load asked p ∷ events_inside t (walk trees input the_resolver room
      (chain ++ p ∷ [])) p) tree ∙ ap (λ e. e ∷ []) same)
      (unopened a chain (asked_for inputs by) p s off none)

  sound-opened : (chain : List Text) (by : AskedBy) (asked : Asked) (p : Text) (a : At)
      (t : FileSyntax) → Sound a chain → among p chain ≡ false → known p a.steps ≡ None
      → trees p ≡ Some t → Sound (opens by asked p a) (chain ++ p ∷ [])
  sound-opened chain by asked p a t s off none tree =
      let o : Step = opened by p in
      let es : Evs (a.steps ++ o ∷ []) ≡ Evs a.steps ++ ev o ∷ [] = evs-push a.steps o in
      let fine : ends (ev o) ≡ false = reads (asked_for inputs by) p
      ∙ ap (λ x. not (is_some x)) tree in
      record {
        quiet = rw es (find-push ends (Evs a.steps) (ev o) s.quiet fine);
        untold = any-push is_told a.steps o s.untold refl;
        grounded = λ q h c. grounded-more a.steps (o ∷ []) q h
            (s.grounded q h (sym (known-opened q p by a.steps) ∙ c));
        was_opened = λ q h.
            elim (has-in (load the_resolver q) (Evs a.steps) (ev o ∷ []) (rw es at h)) [
              | inl u ↦ elim (s.was_opened q u) [
                | inl v ↦ inl (among-left q chain (p ∷ []) v)
                | inr v ↦ inr (v.0, known-opened q p by a.steps ∙ v.1)
              ]
              | inr u ↦ inl (among-last q p chain (has-one (load the_resolver q) (ev o) u))
            ];
        off = λ q h on c.
            let d : known q a.steps ≡ Some (Loaded h) = sym (known-opened q p by a.steps) ∙ c in
            elim (among-in q p chain on) [
              | inl u ↦ s.off q h u d
              | inr u ↦ none_some (Loaded h) (sym none
                  ∙ subst (λ (z : Text). known z a.steps ≡ Some (Loaded h)) u d)
            ];
        count = ap (λ z. length (reads_in z)) es
            ∙ counted (Evs a.steps) (ev o) a.reads (record {
              asked = asked_for inputs by;
              path = p;
            })
            (record { asked = asked; path = p }) refl s.count;
      }
    where
      counted : (xs : List Event) (e : Event) (log : List FileRead) (x y : FileRead)
          → reads_in (e ∷ []) ≡ x ∷ [] → length (reads_in xs) ≡ length log
          → length (reads_in (xs ++ e ∷ [])) ≡ length (log ++ y ∷ [])
      counted xs e log x y one h =
          ap length (reads_in-append xs (e ∷ []) ∙ ap (λ z. reads_in xs ++ z) one)
          ∙ omega (arith, h, length_push (reads_in xs) x, length_push log y)

  sound-closed : (chain : List Text) (p : Text) (t : FileSyntax) (b : At)
      → Sound b (chain ++ p ∷ []) → among p chain ≡ false → trees p ≡ Some t
      → has (load the_resolver p) (Evs b.steps) ≡ true → AllLoaded b.steps (import_paths t)
      → b.height ≡ tallest b.steps (import_paths t) → ends (elab p) ≡ false
      → Sound (closes p b) chain
  sound-closed chain p t b s off tree loaded are tall fine =
      let g : ℕ = suc b.height in
      let c : Step = closed p g in
      let es : Evs (b.steps ++ c ∷ []) ≡ Evs b.steps ++ elab p ∷ [] = evs-push b.steps c in
      record {
        quiet = rw es (find-push ends (Evs b.steps) (elab p) s.quiet fine);
        untold = any-push is_told b.steps c s.untold refl;
        grounded = λ q h k. elim (known-closing q p g h b.steps k) [
          | inl u ↦ grounded-more b.steps (c ∷ []) q h (s.grounded q h u)
          | inr u ↦ rw (u.0, u.1) (record {
            tree = t;
            is = tree;
            below = loaded-more b.steps (c ∷ []) (import_paths t) are;
            height = ap suc (tall ∙ sym (tallest-more b.steps (c ∷ []) (import_paths t) are));
            load = rw es (has-left (load the_resolver p) (Evs b.steps) (elab p ∷ []) loaded);
            elab = rw es (has-last (elab p) (Evs b.steps));
          })
        ];
        was_opened = λ q h.
            elim (has-in (load the_resolver q) (Evs b.steps) (elab p ∷ []) (rw es at h)) [
              | inl u ↦ elim (s.was_opened q u) [
                | inl v ↦ elim (among-in q p chain v) [
                  | inl x ↦ inl x
                  | inr x ↦ inr (
                    g,
                    subst (λ (z : Text). known z (b.steps ++ c ∷ [])
                        ≡ Some (Loaded g)) (sym x) (known-now p g b.steps (unknown b chain p s)),
                  )
                ]
                | inr v ↦ inr (v.0, known-stays q b.steps (c ∷ []) (Loaded v.0) v.1)
              ]
              | inr u ↦ absurd (false_true (has-one (load the_resolver q) (elab p) u))
            ];
        off = λ q h on k. elim (known-closing q p g h b.steps k) [
          | inl u ↦ s.off q h (among-left q chain (p ∷ []) on) u
          | inr u ↦ never_both (among p chain)
              (subst (λ (z : Text). among z chain ≡ true) u.0 on) off
        ];
        count = ap (λ z. length (reads_in z)) es
            ∙ ap length (reads_in-append (Evs b.steps) (elab p ∷ [])
            ∙ append-nil (reads_in (Evs b.steps))) ∙ s.count;
      }

  -- the imports of a new file are loaded
  closing : (chain : List Text) (p : Text) (t : FileSyntax) (a start b : At) (kept : List Event)
      → among p chain ≡ false → trees p ≡ Some t → start.height ≡ 0
      → AreThere (chain ++ p ∷ []) (import_paths t) start b kept
      → has (load the_resolver p) (Evs b.steps) ≡ true
      → Fares chain p a (back a.height (closes p b)) (keep (Evs b.steps) (elab p ∷ []))
  closing chain p t a start b kept off tree low u loaded =
      let g : ℕ = suc b.height in
      let c : Step = closed p g in
      let none : known p b.steps ≡ None = unknown b chain p u.sound in
      let fresh : has (elab p) (Evs b.steps) ≡ false = not_true (has (elab p) (Evs b.steps)) (λ h.
      let r = was-closed p b.steps u.sound.untold h in none_some (Loaded r.0) (sym none ∙ r.1)) in
      let tall : b.height ≡ tallest b.steps (import_paths t) = omega (arith, u.tall, low) in
      let es : Evs (b.steps ++ c ∷ []) ≡ Evs b.steps ++ elab p ∷ [] = evs-push b.steps c in
      rw (keep-fresh (Evs b.steps) [] (elab p) fresh)
      (elim (bool_cases (ends (elab p))) [
        | inl e ↦ inr (refuses-now b (chain ++ p ∷ []) c u.sound e (inr tt))
        | inr e ↦ inl (record {
          sound = raised-sound (closes p b) chain a.height
              (sound-closed chain p t b u.sound off tree loaded u.are tall e);
          height = g;
          is = known-now p g b.steps none;
          tall = refl;
          same = sym es;
        })
      ])
    where
      raised-sound : (b : At) (chain : List Text) (k : ℕ) → Sound b chain → Sound (back k b) chain
      raised-sound b chain k s = record {
        quiet = s.quiet;
        untold = s.untold;
        grounded = s.grounded;
        was_opened = s.was_opened;
        off = s.off;
        count = s.count;
      }

  fares-new : (input : Text) (asked : Asked) (room : ℕ) (chain : List Text) (by : AskedBy)
      (p : Text) (a : At) (t : FileSyntax) → asked_for inputs by ≡ asked → Sound a chain
      → among p chain ≡ false → known p a.steps ≡ None → trees p ≡ Some t
      → ((i : ImportSyntax) (b : At) → Sound b (chain ++ p ∷ [])
      → Fares (chain ++ p ∷ []) i.path b (meet trees input the_resolver room (chain ++ p ∷ [])
      (by_import p i.place) i.path b)
      (keep (Evs b.steps) (walk trees input the_resolver room (chain ++ p ∷ []) i.path)))
      → Fares chain p a (meet trees input asked (suc room) chain by p a)
      (keep (Evs a.steps) (walk trees input asked (suc room) chain p))
  fares-new input asked room chain by p a t who s off none tree each =
      let inner : List Text = chain ++ p ∷ [] in
      let f : ImportSyntax → At → At = λ i x. meet trees input the_resolver room inner
      (by_import p i.place) i.path x in
      let w : Text → List Event = walk trees input the_resolver room inner in
      let longer : (i : ImportSyntax) (x : At) → Longer x (f i x) = λ i x. longer-meet trees input
      the_resolver room inner (by_import p i.place) i.path x in
      let start : At = opens by asked p a in
      let is = imports t.statements in
      let b : At = meets_each f is start in
      let walks : List Event = walks_joined w (import_paths t) in
      let es : Evs start.steps ≡ Evs a.steps ++ load asked p ∷ [] =
      evs-push a.steps (opened by p) ∙ ap (λ z. Evs a.steps ++ load z p ∷ []) who in
      let x = longer-each f longer is start in
      let walked : walk trees input asked (suc room) chain p
      ≡ load asked p ∷ (walks ++ elab p ∷ []) = walk-load trees input asked room chain p off
      ∙ ap (λ z. load asked p ∷ events_inside z w p) tree in
      let all : keep (Evs a.steps) (walk trees input asked (suc room) chain p)
      ≡ keep (keep (Evs start.steps) walks) (elab p ∷ []) =
      ap (keep (Evs a.steps)) walked
      ∙ (keep-fresh (Evs a.steps) (walks ++ elab p ∷ []) (load asked p)
      (unopened a chain asked p s off none)
      ∙ (ap (λ z. keep z (walks ++ elab p ∷ [])) (sym es)
      ∙ keep-append (Evs start.steps) walks (elab p ∷ []))) in
      let loaded : has (load the_resolver p) (Evs b.steps) ≡ true =
      has-load the_resolver asked p (Evs b.steps)
      ∙ (rw (x.1, map-append (event_of inputs) start.steps x.0, es)
      (has-left (load asked p) (Evs a.steps ++ load asked p ∷ []) (Evs x.0)
      (has-last (load asked p) (Evs a.steps)))) in
      rw (meet-opened trees input asked room chain by p a t off none tree, all)
      (elim (fare-all inner f w each longer is start
      (sound-opened chain by asked p a t s off none tree)) [
        | inl u ↦ rw u.same (closing chain p t a start b (keep (Evs start.steps) walks) off tree
            refl u
            loaded)
        | inr u ↦ inr (refuses-later b (closes p b) (keep (Evs start.steps) walks) (elab p ∷ [])
            (closed p (suc b.height) ∷ [], refl) u)
      ])

  -- by what is known of it
  fares-off : (input : Text) (asked : Asked) (room : ℕ) (chain : List Text) (by : AskedBy)
      (p : Text) (a : At) → Sound a chain
      → (among p chain ≡ false → known p a.steps ≡ None
      → Fares chain p a (meet trees input asked room chain by p a)
      (keep (Evs a.steps) (walk trees input asked room chain p)))
      → Fares chain p a (meet trees input asked room chain by p a)
      (keep (Evs a.steps) (walk trees input asked room chain p))
  fares-off input asked room chain by p a s new =
      elim (bool_cases (among p chain)) [
        | inl on ↦ fares-cycle input asked room chain by p a s on
        | inr off ↦ cases (known p a.steps) refl off
      ]
    where
      cases : (k : Option Known) → known p a.steps ≡ k → among p chain ≡ false
          → Fares chain p a (meet trees input asked room chain by p a)
          (keep (Evs a.steps) (walk trees input asked room chain p))
      cases None k off = new off k
      cases (Some (Unreadable n)) k off = absurd (no-unread p a.steps n s.untold k)
      cases (Some (Loaded h)) k off = fares-again input asked room chain by p h a s off k

  fares : (input : Text) (asked : Asked) (room : ℕ) (chain : List Text) (by : AskedBy)
      (p : Text) (a : At) → asked_for inputs by ≡ asked → Sound a chain
      → Fares chain p a (meet trees input asked room chain by p a)
      (keep (Evs a.steps) (walk trees input asked room chain p))
  fares input asked zero chain by p a who s =
      fares-off input asked zero chain by p a s (λ off none. fares-full input asked chain by p a s
      off
      none)
  fares input asked (suc room) chain by p a who s =
      fares-off input asked (suc room) chain by p a s (λ off none. elim (option_cases (trees p)) [
        | inl t ↦ fares-new input asked room chain by p a t.0 who s off none t.1
            (λ i b x. fares input the_resolver room (chain ++ p ∷ []) (by_import p i.place) i.path b
            refl x)
        | inr none_there ↦ fares-missed input asked room chain by p a who s off none none_there
      ])

  -- ** what is held

  longer-holds : (n : ℕ) (i : Input) (a : At) → Longer a (holds n i a)
  longer-holds n (named p) a = ([], sym (append-nil a.steps))
  longer-holds n (at p own) a = by_known (known p a.steps)
    where
      by_known : (k : Option Known) → Longer a (holds_known n p own a k)
      by_known None = ([], sym (append-nil a.steps))
      by_known (Some (Unreadable m)) = ([], sym (append-nil a.steps))
      by_known (Some (Loaded h)) = (held n p (length a.reads) ∷ [], refl)

  longer-input : (n : ℕ) (i : Input) (a : At) → Longer a (meets_input trees n i a)
  longer-input n i a =
      longer-trans a (holds n i a) (meets_input trees n i a) (longer-holds n i a)
      (longer-meet trees (input_name i) (asked_of i) 100 [] (by_input n) (input_name i)
      (holds n i a))

  longer-loads : (n : ℕ) (rest : List Input) (a : At) → Longer a (loads trees n rest a)
  longer-loads n [] a = ([], sym (append-nil a.steps))
  longer-loads n (i ∷ rest) a =
      longer-trans a (meets_input trees n i a) (loads trees n (i ∷ rest) a) (longer-input n i a)
      (longer-loads (suc n) rest (meets_input trees n i a))

  sound-held : (n : ℕ) (p own : Text) (a : At) → Sound a [] → slice_get inputs n ≡ Some (at p own)
      → ends (check (length a.reads) own p) ≡ false → Sound (holding n p own a) []
  sound-held n p own a s is fine =
      let r : ℕ = length a.reads in
      let d : Step = held n p r in
      let same : ev d ≡ check r own p = ap (λ z. check r (own_at z) p) is in
      let es : Evs (a.steps ++ d ∷ []) ≡ Evs a.steps ++ check r own p ∷ [] =
      evs-push a.steps d ∙ ap (λ z. Evs a.steps ++ z ∷ []) same in
      record {
        quiet = rw es (find-push ends (Evs a.steps) (check r own p) s.quiet fine);
        untold = any-push is_told a.steps d s.untold refl;
        grounded = λ q h k. grounded-more a.steps (d ∷ []) q h
            (s.grounded q h (sym (known-held q p n r a.steps) ∙ k));
        was_opened = λ q h.
            elim (has-in (load the_resolver q) (Evs a.steps) (check r own p ∷ []) (rw es at h)) [
              | inl u ↦ elim (s.was_opened q u) [
                | inl v ↦ inl v
                | inr v ↦ inr (v.0, known-stays q a.steps (d ∷ []) (Loaded v.0) v.1)
              ]
              | inr u ↦ absurd (false_true (has-one (load the_resolver q) (check r own p) u))
            ];
        off = λ q h on k. absurd (false_true on);
        count = ap (λ z. length (reads_in z)) es
            ∙ ap length (reads_in-append (Evs a.steps) (check r own p ∷ []))
            ∙ omega (
              arith,
              s.count,
              length_push (reads_in (Evs a.steps))
                  (record { asked = the_reader own; path = p }),
              length_push a.reads (record { asked = the_reader own; path = p }),
            );
      }

  -- an input is held against what was loaded, or not, as a run checks it
  abbrev pub FaresHeld : Input → At → At → Type 0
  FaresHeld i a b = (Sound b [] × (Evs a.steps ++ checks (Evs a.steps) i ≡ Evs b.steps))
      ⊎ Refuses b.steps (Evs a.steps ++ checks (Evs a.steps) i)

  fares-unheld : (n : ℕ) (p own : Text) (a : At) → Sound a []
      → has (load the_resolver p) (Evs a.steps) ≡ false
      → FaresHeld (at p own) a (holds_known n p own a (known p a.steps))
  fares-unheld n p own a s fresh = cases (known p a.steps) refl
    where
      none : Evs a.steps ++ checks (Evs a.steps) (at p own) ≡ Evs a.steps
      none = (rw fresh (append-nil (Evs a.steps)))

      cases : (k : Option Known) → known p a.steps ≡ k
          → FaresHeld (at p own) a (holds_known n p own a k)
      cases None e = inl (s, none)
      cases (Some (Unreadable m)) e = absurd (no-unread p a.steps m s.untold e)
      cases (Some (Loaded h)) e =
          absurd (never_both (has (load the_resolver p) (Evs a.steps)) (s.grounded p h e).load
          fresh)

  fares-loaded : (n : ℕ) (p own : Text) (a : At) → Sound a []
      → slice_get inputs n ≡ Some (at p own) → has (load the_resolver p) (Evs a.steps) ≡ true
      → FaresHeld (at p own) a (holding n p own a)
  fares-loaded n p own a s is had =
      let r : ℕ = length a.reads in
      let d : Step = held n p r in
      let same : ev d ≡ check r own p = ap (λ z. check r (own_at z) p) is in
      let es : Evs (a.steps ++ d ∷ []) ≡ Evs a.steps ++ check r own p ∷ [] =
      evs-push a.steps d ∙ ap (λ z. Evs a.steps ++ z ∷ []) same in
      let checked : Evs a.steps ++ checks (Evs a.steps) (at p own)
      ≡ Evs a.steps ++ check r own p ∷ [] =
      rw had (ap (λ z. Evs a.steps ++ check z own p ∷ []) s.count) in
      elim (bool_cases (ends (check r own p))) [
        | inl e ↦ inr (subst (λ (z : List Event). Refuses (a.steps ++ d ∷ []) z)
            (ap (λ z. Evs a.steps ++ z ∷ []) same ∙ sym checked)
            (refuses-now a [] d s (ap ends same ∙ e) (inr tt)))
        | inr e ↦ inl (sound-held n p own a s is e, checked ∙ sym es)
      ]

  fares-held : (n : ℕ) (i : Input) (a : At) → slice_get inputs n ≡ Some i → Sound a []
      → FaresHeld i a (holds n i a)
  fares-held n (named p) a is s = inl (s, append-nil (Evs a.steps))
  fares-held n (at p own) a is s =
      elim (bool_cases (has (load the_resolver p) (Evs a.steps))) [
        | inl had ↦ elim (s.was_opened p had) [
          | inl on ↦ absurd (false_true on)
          | inr u ↦ rw u.1 (fares-loaded n p own a s is had)
        ]
        | inr fresh ↦ fares-unheld n p own a s fresh
      ]

  -- ** the inputs

  after-next : (kept : List Event) (i : Input) (rest : List Input)
      → events_after trees kept (i ∷ rest) ≡ events_after trees (with_input i trees kept) rest
  unfolding events_after
  after-next kept i rest = refl

  after-none : (kept : List Event) → events_after trees kept [] ≡ kept
  unfolding events_after
  after-none kept = refl

  after-extends : (kept : List Event) (rest : List Input)
      → (more : List Event) × (events_after trees kept rest ≡ kept ++ more)
  after-extends kept [] = ([], after-none kept ∙ sym (append-nil kept))
  after-extends kept (i ∷ rest) =
      let c = checks kept i in
      let k = keep-extends (kept ++ c) (input_walk trees i) in
      let r = after-extends (with_input i trees kept) rest in (
        c ++ (k.0 ++ r.0),
        after-next kept i rest ∙ r.1
            ∙ (ap (λ z. z ++ r.0) k.1
            ∙ (append_assoc (kept ++ c) k.0 r.0 ∙ append_assoc kept c (k.0 ++ r.0))),
      )

  -- a whole load is sound, or refuses
  abbrev pub FaresWhole : At → List Event → Type 0
  FaresWhole b kept = (find ends (Evs b.steps) ≡ None) × (list_any is_told b.steps ≡ false)
      × (kept ≡ Evs b.steps) ⊎ Refuses b.steps kept

  whole-refuses : (a b : At) (kept : List Event) (rest : List Input) → Longer a b
      → Refuses a.steps kept → FaresWhole b (events_after trees kept rest)
  whole-refuses a b kept rest x r =
      let k = after-extends kept rest in
      inr (subst (λ (z : List Event). Refuses b.steps z) (sym k.1)
      (subst (λ (z : List Step). Refuses z (kept ++ k.0)) (sym x.1)
      (refuses-more a.steps x.0 kept k.0 r)))

  fares-loads : (before rest : List Input) (a : At) → inputs ≡ before ++ rest → Sound a []
      → FaresWhole (loads trees (length before) rest a) (events_after trees (Evs a.steps) rest)
  fares-loads before [] a is s = inl (s.quiet, s.untold, after-none (Evs a.steps))
  fares-loads before (i ∷ rest) a is s =
      let n : ℕ = length before in
      let there : slice_get inputs n ≡ Some i = rw (is, ← append_assoc before (i ∷ []) rest)
      (more-at (before ++ i ∷ []) rest n i (last-at before i)) in
      let next : inputs ≡ (before ++ i ∷ []) ++ rest = is ∙ sym (append_assoc before (i ∷ []) rest)
      in
      let count : length (before ++ i ∷ []) ≡ suc n =
      let e = length_push before i in omega (arith, e) in
      let c : At = holds n i a in
      let b : At = meets_input trees n i a in
      let checked : List Event = Evs a.steps ++ checks (Evs a.steps) i in
      let who : asked_for inputs (by_input n) ≡ asked_of i = ap asked_at there in
      rw (after-next (Evs a.steps) i rest)
      (elim (fares-held n i a there s) [
        | inl u ↦ rw u.1 (elim (fares (input_name i) (asked_of i) 100 [] (by_input n) (input_name i)
            c
            who u.0) [
              | inl v ↦ rw v.same (subst (λ (z : ℕ). FaresWhole (loads trees z rest b)
                  (events_after trees (Evs b.steps) rest)) count
                  (fares-loads (before ++ i ∷ []) rest b next v.sound))
              | inr v ↦ whole-refuses b (loads trees (suc n) rest b)
                  (keep (Evs c.steps) (input_walk trees i)) rest (longer-loads (suc n) rest b) v
            ])
        | inr u ↦ whole-refuses b (loads trees (suc n) rest b)
            (keep checked (input_walk trees i)) rest (longer-loads (suc n) rest b)
            (refuses-later c b checked (input_walk trees i)
            (longer-meet trees (input_name i) (asked_of i) 100 [] (by_input n) (input_name i) c) u)
      ])

  sound-nothing : Sound nothing []
  sound-nothing = record {
    quiet = refl;
    untold = refl;
    grounded = λ p h k. absurd (none_some (Loaded h) k);
    was_opened = λ p h. absurd (false_true h);
    off = λ p h on k. none_some (Loaded h) k;
    count = refl;
  }

  pub fares-whole : FaresWhole (loads trees 0 inputs nothing) (events trees inputs)
  fares-whole = fares-loads [] inputs nothing refl sound-nothing

  pub front-is : until ends (events trees inputs) ≡ until ends (load_events trees inputs)
  front-is =
      elim fares-whole [
        | inl u ↦ ap (until ends) u.2
        | inr r ↦ ap (until ends) r.kept_is
            ∙ until-first ends (Evs r.before) (ev r.last) r.later r.quiet r.ending
            ∙ sym (ap (λ z. until ends (Evs z)) r.split
            ∙ ap (until ends) (map-append (event_of inputs) (r.before ++ r.last ∷ []) r.more
            ∙ ap (λ z. z ++ Evs r.more) (evs-push r.before r.last))
            ∙ until-first ends (Evs r.before) (ev r.last) (Evs r.more) r.quiet r.ending)
      ]

pub run-is-front : RunIsFront
run-is-front files inputs =
    front-is files.trees inputs (fails files) (λ p. refl) (λ i. refl) (λ a p. refl)

-- what ends a run of which nothing is known but trees
abbrev pub tells_alone : Trees → Event → Bool
tells_alone trees (cycle p) = true
tells_alone trees (long i) = true
tells_alone trees (load a p) = not (is_some (trees p))
tells_alone trees (check n own p) = false
tells_alone trees (elab p) = false

other-ends-none : (trees : Trees) (inputs : List Input) (e : Event)
    → IsOther trees inputs (tells_alone trees) (λ p. refl) (λ i. refl) (λ a p. refl) e
    → tells_alone trees e ≡ true → ⊥
other-ends-none trees inputs (elab p) o h = false_true h
other-ends-none trees inputs (check n own p) o h = false_true h
other-ends-none trees inputs (cycle p) o h = o
other-ends-none trees inputs (long i) o h = o
other-ends-none trees inputs (load a p) o h = o

told-among : (before : List Step) (last : Step) (more steps : List Step)
    → steps ≡ (before ++ last ∷ []) ++ more → is_told last ≡ true
    → list_any is_told steps ≡ true
told-among before last more steps is h =
    ap (list_any is_told) is ∙ list_any-append is_told (before ++ last ∷ []) more
    ∙ or_left _ _ (list_any-append is_told before (last ∷ []) ∙ or_right _ _ (or_left _ _ h))

pub load-is-run : LoadIsRun
load-is-run trees inputs untold =
    elim (fares-whole trees inputs (tells_alone trees) (λ p. refl) (λ i. refl) (λ a p. refl)) [
      | inl u ↦ u.2
      | inr r ↦ absurd (elim r.cause [
        | inl w ↦ never_both (list_any is_told (load_steps trees inputs))
            (told-among r.before r.last r.more (load_steps trees inputs) r.split w) untold
        | inr w ↦ other-ends-none trees inputs (event_of inputs r.last) w r.ending
      ])
    ]
