-- A load asks the resolver for no path twice.
use Rattle.std.proofs.Common.{◌≡◌, ◌⊎◌, inl, inr, ℕ, zero, suc, true, false, List, [], ◌∷◌, ◌++◌}
use Rattle.std.proofs.Common.{Option, Some, None, refl, ◌∙◌, ap, subst, append-nil, is_some, length}
use Rattle.std.proofs.lemmas.Grind.{flat_map-append}
use Rattle.std.specs.Prelude.{bytes_eq, nat_le, cond}
use Rattle.protobuf_parse_syntax.specs.Dependencies.{imports}
use Rattle.protobuf_parse_syntax.specs.Trees.{ImportSyntax}
use Rattle.protobuf_parse_model.specs.Descriptors.{Text}
use Rattle.protobuf_parse_elaboration.specs.FilesByPath.{AreDistinct}
use Rattle.protobuf_parse_run.specs.Run.{if_resolver, resolved_in}
use Rattle.protobuf_parse_run.specs.Walks.{Asked, FileRead, Input, Trees, among, asked_of, at}
use Rattle.protobuf_parse_run.specs.Walks.{input_name, named, the_reader, the_resolver}
use Rattle.protobuf_parse_run.proofs.Keeping.{bool_cases, false_true, never_both, not_true}
use Rattle.protobuf_parse_run.proofs.Knowing.{distinct-push}
use Rattle.protobuf_parse_load.specs.declared.known.Known.{Known}
use Rattle.protobuf_parse_load.specs.declared.known.Known.TheVariants.{Unreadable, Loaded}
use Rattle.protobuf_parse_load.specs.Laws.{PathsAreAskedOnce}
use Rattle.protobuf_parse_load.specs.Steps.{AskedBy, At, Step, by_import, by_input, closed}
use Rattle.protobuf_parse_load.specs.Steps.{closes, held, holds, holds_known, is_cycle, is_too_long}
use Rattle.protobuf_parse_load.specs.Steps.{is_unread, known, loads, meet, meets_each, meets_input}
use Rattle.protobuf_parse_load.specs.Steps.{misses, nothing, opened, opens, tells, told}
use Rattle.protobuf_parse_load.proofs.Following.{option_cases}
use Rattle.protobuf_parse_load.proofs.Machine.{meet-cycle, meet-full, meet-loaded, meet-long}
use Rattle.protobuf_parse_load.proofs.Machine.{meet-missed, meet-opened, meet-unread}
use Rattle.protobuf_parse_load.proofs.Standing.{among-end, among-last, among-left, known-last}
use Rattle.protobuf_parse_load.proofs.Standing.{known-more}

-- ** one read more

resolved-push : (log : List FileRead) (asked : Asked) (p : Text)
    → resolved_in (log ++ record { asked = asked; path = p } ∷ [])
    ≡ resolved_in log ++ if_resolver asked p
resolved-push log asked p =
    flat_map-append (λ (r : FileRead). if_resolver r.asked r.path) log
    (record { asked = asked; path = p } ∷ [])
    ∙ ap (λ z. resolved_in log ++ z) (append-nil (if_resolver asked p))

-- a path that was asked for now or before
read-among : (log : List FileRead) (asked : Asked) (p q : Text)
    → among q (resolved_in (log ++ record { asked = asked; path = p } ∷ [])) ≡ true
    → (among q (resolved_in log) ≡ true) ⊎ (bytes_eq q p ≡ true)
read-among log the_resolver p q h =
    among-end q p (resolved_in log) (rw (resolved-push log the_resolver p) at h)
read-among log (the_reader own) p q h =
    inl (rw (resolved-push log (the_reader own) p, append-nil (resolved_in log)) at h)

read-once : (log : List FileRead) (asked : Asked) (p : Text) → AreDistinct (resolved_in log)
    → among p (resolved_in log) ≡ false
    → AreDistinct (resolved_in (log ++ record { asked = asked; path = p } ∷ []))
read-once log the_resolver p d fresh =
    rw (resolved-push log the_resolver p) (distinct-push p (resolved_in log) d fresh)
read-once log (the_reader own) p d fresh =
    rw (resolved-push log (the_reader own) p, append-nil (resolved_in log)) d

-- ** a walk

-- no path was asked for twice, and of each that was something is known, but for those of the chain
pub record IsAsked (chain : List Text) (a : At) : Type 0 where
  pub once : AreDistinct (resolved_in a.reads)
  pub found : (q : Text) → among q (resolved_in a.reads) ≡ true
      → (among q chain ≡ true) ⊎ (is_some (known q a.steps) ≡ true)

asked-step : (chain : List Text) (a b : At) (s : Step) → b.reads ≡ a.reads
    → b.steps ≡ a.steps ++ s ∷ [] → IsAsked chain a → IsAsked chain b
asked-step chain a b s reads steps w = record {
  once = rw reads w.once;
  found = λ q h. elim (w.found q (rw reads at h)) [
    | inl u ↦ inl u
    | inr u ↦ inr (rw steps (known-more q a.steps s u))
  ];
}

asked-same : (chain : List Text) (a b : At) → b.reads ≡ a.reads → b.steps ≡ a.steps
    → IsAsked chain a → IsAsked chain b
asked-same chain a b reads steps w = record {
  once = rw reads w.once;
  found = λ q h. rw steps (w.found q (rw reads at h));
}

-- a path of which nothing is known was not asked for
unasked : (chain : List Text) (a : At) (p : Text) → IsAsked chain a → among p chain ≡ false
    → known p a.steps ≡ None → among p (resolved_in a.reads) ≡ false
unasked chain a p w off none =
    not_true (among p (resolved_in a.reads)) (λ h. elim (w.found p h) [
      | inl u ↦ never_both (among p chain) u off
      | inr u ↦ false_true (subst (λ (z : Option Known). is_some z ≡ true) none u)
    ])

some-cond : (p q : Text) (k : Known) → bytes_eq p q ≡ true
    → is_some (cond (bytes_eq p q) (Some k) None) ≡ true
some-cond p q k h = rw h refl

asked-missed : (chain : List Text) (by : AskedBy) (asked : Asked) (p : Text) (a : At)
    → among p chain ≡ false → known p a.steps ≡ None → IsAsked chain a
    → IsAsked chain (misses by asked p a)
asked-missed chain by asked p a off none w =
    let n : ℕ = length a.unread in
    let s : Step = told by p (is_unread n) in
    record {
      once = read-once a.reads asked p w.once (unasked chain a p w off none);
      found = λ q h. elim (read-among a.reads asked p q h) [
        | inl u ↦ elim (w.found q u) [
          | inl v ↦ inl v
          | inr v ↦ inr (known-more q a.steps s v)
        ]
        | inr u ↦ inr (known-last q a.steps s (some-cond q p (Unreadable n) u))
      ];
    }

asked-opened : (chain : List Text) (by : AskedBy) (asked : Asked) (p : Text) (a : At)
    → among p chain ≡ false → known p a.steps ≡ None → IsAsked chain a
    → IsAsked (chain ++ p ∷ []) (opens by asked p a)
asked-opened chain by asked p a off none w = record {
  once = read-once a.reads asked p w.once (unasked chain a p w off none);
  found = λ q h. elim (read-among a.reads asked p q h) [
    | inl u ↦ elim (w.found q u) [
      | inl v ↦ inl (among-left q chain (p ∷ []) v)
      | inr v ↦ inr (known-more q a.steps (opened by p) v)
    ]
    | inr u ↦ inl (among-last q p chain u)
  ];
}

asked-closed : (chain : List Text) (p : Text) (b : At) → IsAsked (chain ++ p ∷ []) b
    → IsAsked chain (closes p b)
asked-closed chain p b w =
    let s : Step = closed p (suc b.height) in
    record {
      once = w.once;
      found = λ q h. elim (w.found q h) [
        | inl u ↦ elim (among-end q p chain u) [
          | inl v ↦ inl v
          | inr v ↦ inr (known-last q b.steps s (some-cond q p (Loaded (suc b.height)) v))
        ]
        | inr u ↦ inr (known-more q b.steps s u)
      ];
    }

asked-each : (chain : List Text) (f : ImportSyntax → At → At)
    → ((i : ImportSyntax) (a : At) → IsAsked chain a → IsAsked chain (f i a))
    → (is : List ImportSyntax) (a : At) → IsAsked chain a → IsAsked chain (meets_each f is a)
asked-each chain f each [] a w = w
asked-each chain f each (i ∷ is) a w = asked-each chain f each is (f i a) (each i a w)

module _ (trees : Trees) (input : Text) where
  asked-told : (chain : List Text) (a b : At) (s : Step) → b ≡ tells s a → IsAsked chain a
      → IsAsked chain b
  asked-told chain a b s is w =
      asked-step chain a b s (ap (λ (z : At). z.reads) is) (ap (λ (z : At). z.steps) is) w

  asked-known : (asked : Asked) (room : ℕ) (chain : List Text) (by : AskedBy) (p : Text) (a : At)
      (k : Known) → among p chain ≡ false → known p a.steps ≡ Some k → IsAsked chain a
      → IsAsked chain (meet trees input asked room chain by p a)
  asked-known asked room chain by p a (Unreadable n) off is w =
      asked-told chain a (meet trees input asked room chain by p a) (told by p (is_unread n))
      (meet-unread trees input asked room chain by p a n off is) w
  asked-known asked room chain by p a (Loaded h) off is w =
      elim (bool_cases (nat_le h room)) [
        | inl le ↦
            let e = meet-loaded trees input asked room chain by p a h off is le in
            asked-same chain a (meet trees input asked room chain by p a)
            (ap (λ (z : At). z.reads) e) (ap (λ (z : At). z.steps) e) w
        | inr le ↦ asked-told chain a (meet trees input asked room chain by p a)
            (told by p (is_too_long input))
            (meet-long trees input asked room chain by p a h off is le) w
      ]

  asked-off : (asked : Asked) (room : ℕ) (chain : List Text) (by : AskedBy) (p : Text) (a : At)
      → (among p chain ≡ false → known p a.steps ≡ None
      → IsAsked chain (meet trees input asked room chain by p a)) → IsAsked chain a
      → IsAsked chain (meet trees input asked room chain by p a)
  asked-off asked room chain by p a new w =
      elim (bool_cases (among p chain)) [
        | inl on ↦ asked-told chain a (meet trees input asked room chain by p a) (told by p
            is_cycle)
            (meet-cycle trees input asked room chain by p a on) w
        | inr off ↦ elim (option_cases (known p a.steps)) [
          | inl k ↦ asked-known asked room chain by p a k.0 off k.1 w
          | inr none ↦ new off none
        ]
      ]

  asked-new : (asked : Asked) (room : ℕ) (chain : List Text) (by : AskedBy) (p : Text) (a : At)
      → ((i : ImportSyntax) (b : At) → IsAsked (chain ++ p ∷ []) b → IsAsked (chain ++ p ∷ [])
      (meet trees input the_resolver room (chain ++ p ∷ []) (by_import p i.place) i.path b))
      → IsAsked chain a → among p chain ≡ false → known p a.steps ≡ None
      → IsAsked chain (meet trees input asked (suc room) chain by p a)
  asked-new asked room chain by p a each w off none =
      elim (option_cases (trees p)) [
        | inl t ↦
            let inside : ImportSyntax → At → At = λ i b. meet trees input the_resolver room
            (chain ++ p ∷ []) (by_import p i.place) i.path b in
            let start : At = opens by asked p a in
            let b : At = meets_each inside (imports t.0.statements) start in
            let e = meet-opened trees input asked room chain by p a t.0 off none t.1 in
            asked-same chain (closes p b) (meet trees input asked (suc room) chain by p a)
            (ap (λ (z : At). z.reads) e) (ap (λ (z : At). z.steps) e)
            (asked-closed chain p b (asked-each (chain ++ p ∷ []) inside each
            (imports t.0.statements) start (asked-opened chain by asked p a off none w)))
        | inr tree ↦
            let e = meet-missed trees input asked room chain by p a off none tree in
            asked-same chain (misses by asked p a) (meet trees input asked (suc room) chain by p a)
            (ap (λ (z : At). z.reads) e) (ap (λ (z : At). z.steps) e)
            (asked-missed chain by asked p a off none w)
      ]

  asked-meet : (asked : Asked) (room : ℕ) (chain : List Text) (by : AskedBy) (p : Text) (a : At)
      → IsAsked chain a → IsAsked chain (meet trees input asked room chain by p a)
  asked-meet asked zero chain by p a w =
      asked-off asked zero chain by p a (λ off none. asked-told chain a
      (meet trees input asked zero chain by p a) (told by p (is_too_long input))
      (meet-full trees input asked chain by p a off none) w) w
  asked-meet asked (suc room) chain by p a w =
      asked-off asked (suc room) chain by p a (asked-new asked room chain by p a
      (λ i b x. asked-meet the_resolver room (chain ++ p ∷ []) (by_import p i.place) i.path b x) w)
      w

-- ** the inputs

asked-holds : (n : ℕ) (i : Input) (a : At) → IsAsked [] a → IsAsked [] (holds n i a)
asked-holds n (named p) a w = w
asked-holds n (at p own) a w = by_known (known p a.steps)
  where
    by_known : (k : Option Known) → IsAsked [] (holds_known n p own a k)
    by_known None = w
    by_known (Some (Unreadable m)) = w
    by_known (Some (Loaded h)) =
        let e : resolved_in (a.reads ++ record { asked = the_reader own; path = p } ∷ [])
        ≡ resolved_in a.reads = resolved-push a.reads (the_reader own) p
        ∙ append-nil (resolved_in a.reads) in
        record {
          once = rw e w.once;
          found = λ q there. elim (w.found q (rw e at there)) [
            | inl u ↦ inl u
            | inr u ↦ inr (known-more q a.steps (held n p (length a.reads)) u)
          ];
        }

asked-loads : (trees : Trees) (n : ℕ) (rest : List Input) (a : At) → IsAsked [] a
    → IsAsked [] (loads trees n rest a)
asked-loads trees n [] a w = w
asked-loads trees n (i ∷ rest) a w =
    asked-loads trees (suc n) rest (meets_input trees n i a)
    (asked-meet trees (input_name i) (asked_of i) 100 [] (by_input n) (input_name i) (holds n i a)
    (asked-holds n i a w))

pub paths-are-asked-once : PathsAreAskedOnce
paths-are-asked-once trees inputs =
    let start : IsAsked [] nothing =
    record { once = tt; found = λ q h. absurd (false_true h) } in
    (asked-loads trees 0 inputs nothing start).once
