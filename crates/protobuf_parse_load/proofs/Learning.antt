-- What steps say of paths, and a map of that.
use Rattle.std.proofs.Common.{◌≡◌, true, false, inl, inr, List, [], ◌∷◌, ◌++◌, Option, Some, None}
use Rattle.std.proofs.Common.{refl, sym, ◌∙◌, ap, unwrap_or, cond}
use Rattle.std.proofs.lemmas.List.{map-append}
use Rattle.std.proofs.lemmas.Map.Text.{btree_map_updates_text}
use Rattle.std.specs.Prelude.{String, string_bytes, bytes_eq}
use Rattle.std.specs.Cmp.Lexicographic.{slice_cmp}
use Rattle.std.specs.Ordering.{nat_cmp}
use Rattle.std.specs.String.{string_cmp}
use Rattle.std.specs.Global.{Global}
use Rattle.std.specs.BTreeMap.{UpdatesBy, get_by_text}
use Rattle.protobuf_parse_model.specs.Descriptors.{Text}
use Rattle.protobuf_parse_run.proofs.Keeping.{bool_cases, never_both, not_true, text-same}
use Rattle.protobuf_parse_run.proofs.Keeping.{text-true}
use Rattle.protobuf_parse_load.specs.declared.known.Known.{Known}
use Rattle.protobuf_parse_load.specs.declared.known.Known.TheVariants.{Unreadable, Loaded}
use Rattle.protobuf_parse_load.specs.declared.step.LoadStep.{LoadStep}
use Rattle.protobuf_parse_load.specs.Loads.{step_view, steps_view}
use Rattle.protobuf_parse_load.specs.Steps.{Step, Why, closed, held, is_cycle, is_too_long}
use Rattle.protobuf_parse_load.specs.Steps.{is_unread}
use Rattle.protobuf_parse_load.specs.Steps.{known, known_by, opened, told, unread_by}
use Rattle.protobuf_parse_load.specs.StepLists.{HasKnown, Learns, LearnsOf, PathMap, or_else}

pub or_else-none : (o : Option Known) → or_else o None ≡ o
or_else-none None = refl
or_else-none (Some k) = refl

or_else-cond : (p q : Text) (k : Known) (o r : Option Known)
    → cond (bytes_eq p q) (Some k) (or_else o r) ≡ or_else (cond (bytes_eq p q) (Some k) o) r
or_else-cond p q k o r =
    elim (bool_cases (bytes_eq p q)) [ inl w ↦ rw w refl | inr w ↦ rw w refl ]

unread-or_else : (p q : Text) (why : Why) (o r : Option Known)
    → unread_by p q why (or_else o r) ≡ or_else (unread_by p q why o) r
unread-or_else p q (is_unread n) o r = or_else-cond p q (Unreadable n) o r
unread-or_else p q is_cycle o r = refl
unread-or_else p q (is_too_long input) o r = refl

pub by-or_else : (p : Text) (s : Step) (o r : Option Known)
    → known_by p s (or_else o r) ≡ or_else (known_by p s o) r
by-or_else p (opened by q) o r = refl
by-or_else p (told by q why) o r = unread-or_else p q why o r
by-or_else p (closed q h) o r = or_else-cond p q (Loaded h) o r
by-or_else p (held n q m) o r = refl

-- one step more
pub known-push : (p : Text) (steps : List Step) (s : Step)
    → known p (steps ++ s ∷ []) ≡ or_else (known p steps) (known_by p s None)
known-push p [] s = refl
known-push p (x ∷ steps) s =
    ap (known_by p x) (known-push p steps s)
    ∙ by-or_else p x (known p steps) (known_by p s None)

pub views-push : (steps : List LoadStep) (s : LoadStep)
    → steps_view (steps ++ s ∷ []) ≡ steps_view steps ++ step_view s ∷ []
views-push steps s = map-append step_view steps (s ∷ [])

-- a map that says what the steps say, with one step more
pub learned : (old new : PathMap) (steps all : List LoadStep) (s : LoadStep) → HasKnown old steps
    → Learns old new (step_view s) → all ≡ steps ++ s ∷ [] → HasKnown new all
learned old new steps all s has learns is =
    record {
      found = rw is (rw (views-push steps s) (λ p. learns p
          ∙ ap (λ o. or_else o (known_by p (step_view s) None)) (has.found p)
          ∙ sym (known-push p (steps_view steps) (step_view s))));
    }

bytes_eq-apart : (p q : Text) → bytes_eq p q ≡ false → bytes_eq q p ≡ false
bytes_eq-apart p q h =
    not_true (bytes_eq q p) (λ y. never_both (bytes_eq p q)
    (rw (text-true q p y) (text-same p)) h)

or_else-had : (had : Option Known) (k : Known) → Some (unwrap_or had k) ≡ or_else had (Some k)
or_else-had None k = refl
or_else-had (Some h) k = refl

pub learns_of : (old new : PathMap) (key : String Global) (q : Text) (k v : Known)
    → string_bytes key ≡ q → v ≡ unwrap_or (get_by_text old (string_bytes key)) k
    → UpdatesBy string_cmp (λ x. slice_cmp nat_cmp (string_bytes key) (string_bytes x)) old new
    (Some v) → LearnsOf old new q k
learns_of old new key q k v named is updates p =
    btree_map_updates_text (string_bytes key) old new (Some v) updates p
    ∙ elim (bool_cases (bytes_eq (string_bytes key) p)) [
      | inl w ↦
          let same : string_bytes key ≡ p = text-true (string_bytes key) p w in
          let here : bytes_eq p q ≡ true = rw (← same, named) (text-same q) in
          let had : v ≡ unwrap_or (get_by_text old p) k =
          is ∙ ap (λ (t : Text). unwrap_or (get_by_text old t) k) same in
          rw (w, here) (ap Some had ∙ or_else-had (get_by_text old p) k)
      | inr w ↦
          let off : bytes_eq p q ≡ false = rw (← named) (bytes_eq-apart (string_bytes key) p w) in
          rw (w, off) (sym (or_else-none (get_by_text old p)))
    ]
