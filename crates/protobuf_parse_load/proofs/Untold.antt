-- Steps that tell nothing, events up to the first of them that passes a test, and steps that are
-- added.
use Rattle.std.proofs.Common.{◌≡◌, inl, inr, ℕ, Bool, true, false}
use Rattle.std.proofs.Common.{List, [], ◌∷◌, ◌++◌, Option, Some, None, refl, sym, ◌∙◌, ap}
use Rattle.std.proofs.Common.{append-nil, append_assoc, find}
use Rattle.std.proofs.lemmas.List.Folds.{list_any-append}
use Rattle.std.specs.Prelude.{bytes_eq}
use Rattle.std.specs.List.{list_any}
use Rattle.protobuf_parse_syntax.specs.Trees.{ImportSyntax}
use Rattle.protobuf_parse_model.specs.Descriptors.{Text}
use Rattle.protobuf_parse_run.specs.Walks.{Asked, Event, Trees}
use Rattle.protobuf_parse_run.specs.Walks.{until}
use Rattle.protobuf_parse_run.proofs.Keeping.{bool_cases}
use Rattle.protobuf_parse_run.proofs.Keeping.{false_true}
use Rattle.protobuf_parse_run.proofs.Keeping.{find-none}
use Rattle.protobuf_parse_run.proofs.Keeping.{none_some}
use Rattle.protobuf_parse_load.specs.declared.known.Known.{Known}
use Rattle.protobuf_parse_load.specs.declared.known.Known.TheVariants.{Unreadable, Loaded}
use Rattle.protobuf_parse_load.specs.Laws.{is_told}
use Rattle.protobuf_parse_load.specs.Steps.{AskedBy, At, Step}
use Rattle.protobuf_parse_load.specs.Steps.{closed}
use Rattle.protobuf_parse_load.specs.Steps.{held}
use Rattle.protobuf_parse_load.specs.Steps.{known, meet}
use Rattle.protobuf_parse_load.specs.Steps.{meets_each, opened}
use Rattle.protobuf_parse_load.specs.Steps.{told}
use Rattle.protobuf_parse_load.proofs.Following.{meet-well}
use Rattle.protobuf_parse_load.proofs.Learning.{known-push, or_else-none}

-- ** the first that passes a test

pub find-head : (test : Event → Bool) (x : Event) (xs : List Event) → find test (x ∷ xs) ≡ None
    → (test x ≡ false) × (find test xs ≡ None)
find-head test x xs h =
    elim (bool_cases (test x)) [
      | inl w ↦ absurd (none_some x (sym (rw w at h)))
      | inr w ↦ (w, (rw w at h))
    ]

pub find-push : (test : Event → Bool) (xs : List Event) (x : Event) → find test xs ≡ None
    → test x ≡ false → find test (xs ++ x ∷ []) ≡ None
find-push test xs x h e = find-none test xs (x ∷ []) h (rw e refl)

pub until-first : (test : Event → Bool) (xs : List Event) (x : Event) (more : List Event)
    → find test xs ≡ None → test x ≡ true → until test ((xs ++ x ∷ []) ++ more) ≡ xs ++ x ∷ []
until-first test [] x more h e = rw e refl
until-first test (y ∷ xs) x more h e =
    let k = find-head test y xs h in rw k.0 (ap (λ z. y ∷ z) (until-first test xs x more k.1 e))

-- ** steps that tell nothing

pub any-push : (f : Step → Bool) (xs : List Step) (x : Step) → list_any f xs ≡ false → f x ≡ false
    → list_any f (xs ++ x ∷ []) ≡ false
any-push f xs x h e = list_any-append f xs (x ∷ []) ∙ (rw (h, e) refl)

-- a path is not known to be unread where nothing is told
pub no-unread : (p : Text) (steps : List Step) (n : ℕ) → list_any is_told steps ≡ false
    → known p steps ≡ Some (Unreadable n) → ⊥
no-unread p [] n h e = none_some (Unreadable n) e
no-unread p (opened by q ∷ steps) n h e = no-unread p steps n h e
no-unread p (told by q why ∷ steps) n h e = false_true (sym h)
no-unread p (held m q r ∷ steps) n h e = no-unread p steps n h e
no-unread p (closed q g ∷ steps) n h e =
    elim (bool_cases (bytes_eq p q)) [
      | inl w ↦
          let z : ◌≡◌ {A = Option Known} (Some (Loaded g)) (Some (Unreadable n)) = (rw w at e) in cc
      | inr w ↦ no-unread p steps n h (rw w at e)
    ]

pub known-opened : (p q : Text) (by : AskedBy) (steps : List Step)
    → known p (steps ++ opened by q ∷ []) ≡ known p steps
known-opened p q by steps = known-push p steps (opened by q) ∙ or_else-none (known p steps)

pub known-held : (p q : Text) (n r : ℕ) (steps : List Step)
    → known p (steps ++ held n q r ∷ []) ≡ known p steps
known-held p q n r steps = known-push p steps (held n q r) ∙ or_else-none (known p steps)

-- steps are added
abbrev pub Longer : At → At → Type 0
Longer a b = (more : List Step) × (b.steps ≡ a.steps ++ more)

pub longer-trans : (a b c : At) → Longer a b → Longer b c → Longer a c
longer-trans a b c x y =
    (x.0 ++ y.0, y.1 ∙ (rw x.1 (append_assoc a.steps x.0 y.0)))

pub longer-each : (f : ImportSyntax → At → At) → ((i : ImportSyntax) (a : At) → Longer a (f i a))
    → (is : List ImportSyntax) (a : At) → Longer a (meets_each f is a)
longer-each f each [] a = ([], sym (append-nil a.steps))
longer-each f each (i ∷ is) a =
    longer-trans a (f i a) (meets_each f is (f i a)) (each i a) (longer-each f each is (f i a))

pub longer-meet : (trees : Trees) (input : Text) (asked : Asked) (room : ℕ) (chain : List Text)
    (by : AskedBy) (p : Text) (a : At) → Longer a (meet trees input asked room chain by p a)
longer-meet trees input asked room chain by p a =
    let w = (meet-well trees input asked room chain by p a).0 in (w.more, w.extends)
