-- What a load tells of the imports of a file it tells before the file is closed; and what it tells
-- that can't be read has no tree.
use Rattle.std.proofs.Common.{◌≡◌, ◌∙◌, ℕ, zero, suc, Bool, true, false, List, [], ◌∷◌, ◌++◌}
use Rattle.std.proofs.Common.{Option}
use Rattle.std.proofs.Common.{None, Some, ap, append-nil, append_assoc, cond, inl, inr, refl, subst}
use Rattle.std.proofs.Common.{length, sym}
use Rattle.std.specs.Prelude.{bytes_eq, nat_le}
use Rattle.protobuf_parse_syntax.specs.Dependencies.{imports}
use Rattle.protobuf_parse_syntax.specs.Trees.{ImportSyntax}
use Rattle.protobuf_parse_model.specs.Descriptors.{Text}
use Rattle.protobuf_parse_run.specs.Walks.{Asked, Input, Trees, among, asked_of, at, input_name}
use Rattle.protobuf_parse_run.specs.Walks.{named}
use Rattle.protobuf_parse_run.specs.Walks.{the_resolver}
use Rattle.protobuf_parse_run.proofs.Keeping.{bool_cases, none_some, some_same, text-same}
use Rattle.protobuf_parse_run.proofs.Keeping.{text-true}
use Rattle.protobuf_parse_load.specs.declared.known.Known.{Known}
use Rattle.protobuf_parse_load.specs.declared.known.Known.TheVariants.{Unreadable, Loaded}
use Rattle.protobuf_parse_load.specs.Steps.{AskedBy, At, Step, Why, by_import, by_input}
use Rattle.protobuf_parse_load.specs.Steps.{closed}
use Rattle.protobuf_parse_load.specs.Steps.{closed_paths, held, holds, holds_known}
use Rattle.protobuf_parse_load.specs.Steps.{is_cycle}
use Rattle.protobuf_parse_load.specs.Steps.{is_too_long, is_unread, known, load_steps, loads, meet}
use Rattle.protobuf_parse_load.specs.Steps.{meets_each, meets_input, nothing, opened, opens}
use Rattle.protobuf_parse_load.specs.Steps.{tells, told}
use Rattle.protobuf_parse_load.proofs.Following.{meet-well, option_cases}
use Rattle.protobuf_parse_load.proofs.Machine.{meet-cycle, meet-full, meet-loaded, meet-long}
use Rattle.protobuf_parse_load.proofs.Machine.{meet-missed, meet-opened, meet-unread}
use Rattle.protobuf_parse_load.proofs.Standing.{among-last, closed-append}

-- what asks is no import of a file that is closed at these steps
abbrev pub IsOpen : List Step → AskedBy → Type 0
IsOpen steps (by_input n) = Unit {0}
IsOpen steps (by_import p place) = among p (closed_paths steps) ≡ false

-- what can't be read has no tree
abbrev pub IsTreeless : Trees → Text → Why → Type 0
IsTreeless trees p (is_unread n) = trees p ≡ None
IsTreeless trees p is_cycle = Unit {0}
IsTreeless trees p (is_too_long input) = Unit {0}

-- a step behind these
abbrev pub FitsAt : Trees → List Step → Step → Type 0
FitsAt trees before (told by p why) = IsOpen before by × IsTreeless trees p why
FitsAt trees before _ = Unit {0}

-- and each of several
abbrev pub AllFit : Trees → List Step → List Step → Type 0
AllFit trees before [] = Unit {0}
AllFit trees before (s ∷ steps) = FitsAt trees before s × AllFit trees (before ++ s ∷ []) steps

fit-push : (trees : Trees) (before steps : List Step) (s : Step) → AllFit trees before steps
    → FitsAt trees (before ++ steps) s → AllFit trees before (steps ++ s ∷ [])
fit-push trees before [] s all h =
    (subst (λ (z : List Step). FitsAt trees z s) (append-nil before) h, tt)
fit-push trees before (x ∷ steps) s all h = (
  all.0,
  fit-push trees (before ++ x ∷ []) steps s all.1
      (subst (λ (z : List Step). FitsAt trees z s) (sym (append_assoc before (x ∷ []) steps)) h),
)

-- the last of several, behind the others
pub fit-rest : (trees : Trees) (before steps more : List Step) → AllFit trees before (steps ++ more)
    → AllFit trees (before ++ steps) more
fit-rest trees before [] more all =
    subst (λ (z : List Step). AllFit trees z more) (sym (append-nil before)) all
fit-rest trees before (x ∷ steps) more all =
    subst (λ (z : List Step). AllFit trees z more) (append_assoc before (x ∷ []) steps)
    (fit-rest trees (before ++ x ∷ []) steps more all.1)

pub fit-front : (trees : Trees) (before steps more : List Step)
    → AllFit trees before (steps ++ more) → AllFit trees before steps
fit-front trees before [] more all = tt
fit-front trees before (x ∷ steps) more all =
    (all.0, fit-front trees (before ++ x ∷ []) steps more all.1)

-- ** what is known to be unread has no tree

cond-unread : (b : Bool) (k l : Known) (rest : Option Known) → (k ≡ l → ⊥)
    → cond b (Some k) rest ≡ Some l → rest ≡ Some l
cond-unread true k l rest other h = absurd (other (some_same k l h))
cond-unread false k l rest other h = h

unread-treeless : (trees : Trees) (p : Text) (before steps : List Step) (n : ℕ)
    → AllFit trees before steps → known p steps ≡ Some (Unreadable n) → trees p ≡ None
unread-treeless trees p before [] n all h = absurd (none_some (Unreadable n) h)
unread-treeless trees p before (opened by q ∷ steps) n all h =
    unread-treeless trees p (before ++ opened by q ∷ []) steps n all.1 h
unread-treeless trees p before (held m q r ∷ steps) n all h =
    unread-treeless trees p (before ++ held m q r ∷ []) steps n all.1 h
unread-treeless trees p before (closed q g ∷ steps) n all h =
    unread-treeless trees p (before ++ closed q g ∷ []) steps n all.1
    (cond-unread (bytes_eq p q) (Loaded g) (Unreadable n) (known p steps) (λ z. cc) h)
unread-treeless trees p before (told by q is_cycle ∷ steps) n all h =
    unread-treeless trees p (before ++ told by q is_cycle ∷ []) steps n all.1 h
unread-treeless trees p before (told by q (is_too_long i) ∷ steps) n all h =
    unread-treeless trees p (before ++ told by q (is_too_long i) ∷ []) steps n all.1 h
unread-treeless trees p before (told by q (is_unread m) ∷ steps) n all h =
    elim (bool_cases (bytes_eq p q)) [
      | inl w ↦ ap trees (text-true p q w) ∙ all.0.1
      | inr w ↦
          let rest : known p steps ≡ Some (Unreadable n) = (rw w at h) in
          unread-treeless trees p (before ++ told by q (is_unread m) ∷ []) steps n all.1 rest
    ]

-- what is not known is not closed
cond-none : (b : Bool) (k : Known) (rest : Option Known) → cond b (Some k) rest ≡ None
    → (b ≡ false) × (rest ≡ None)
cond-none true k rest h = absurd (none_some k (sym h))
cond-none false k rest h = (refl, h)

unknown-open : (p : Text) (steps : List Step) → known p steps ≡ None
    → among p (closed_paths steps) ≡ false
unknown-open p [] e = refl
unknown-open p (opened by q ∷ steps) e = unknown-open p steps e
unknown-open p (told by q (is_unread n) ∷ steps) e =
    unknown-open p steps (cond-none (bytes_eq p q) (Unreadable n) (known p steps) e).1
unknown-open p (told by q is_cycle ∷ steps) e = unknown-open p steps e
unknown-open p (told by q (is_too_long i) ∷ steps) e = unknown-open p steps e
unknown-open p (closed q g ∷ steps) e =
    let r = cond-none (bytes_eq p q) (Loaded g) (known p steps) e in
    let off : among p (closed_paths steps) ≡ false = unknown-open p steps r.1 in
    rw (r.0, off) refl
unknown-open p (held n q r ∷ steps) e = unknown-open p steps e

-- ** a walk

-- the steps so far fit
abbrev pub Fit : Trees → At → Type 0
Fit trees a = AllFit trees [] a.steps

fit-told : (trees : Trees) (by : AskedBy) (p : Text) (why : Why) (a b : At)
    → b ≡ tells (told by p why) a → Fit trees a → IsOpen a.steps by → IsTreeless trees p why
    → Fit trees b
fit-told trees by p why a b is fit unclosed treeless =
    subst (λ (z : At). Fit trees z) (sym is)
    (fit-push trees [] a.steps (told by p why) fit (unclosed, treeless))

module _ (trees : Trees) (input : Text) where
  -- imports, one after another
  each-fits : (room : ℕ) (chain : List Text) (p : Text)
      → ((i : ImportSyntax) (a : At) → Fit trees a → IsOpen a.steps (by_import p i.place)
      → Fit trees (meet trees input the_resolver room (chain ++ p ∷ []) (by_import p i.place) i.path
      a))
      → (is : List ImportSyntax) (a : At) → Fit trees a → among p (closed_paths a.steps) ≡ false
      → let f : ImportSyntax → At → At =
      λ i. meet trees input the_resolver room (chain ++ p ∷ []) (by_import p i.place) i.path in
      Fit trees (meets_each f is a)
  each-fits room chain p each [] a fit unclosed = fit
  each-fits room chain p each (i ∷ is) a fit unclosed =
      let b : At = meet trees input the_resolver room (chain ++ p ∷ []) (by_import p i.place) i.path
      a in
      let w =
      (meet-well trees input the_resolver room (chain ++ p ∷ []) (by_import p i.place) i.path
      a).0 in
      each-fits room chain p each is b (each i a fit unclosed)
      (w.apart p (among-last p p chain (text-same p)) unclosed)

  -- a path that isn't on the chain, and is met anew by this
  off-fits : (asked : Asked) (room : ℕ) (chain : List Text) (by : AskedBy) (p : Text) (a : At)
      → Fit trees a → IsOpen a.steps by
      → (among p chain ≡ false → known p a.steps ≡ None
      → Fit trees (meet trees input asked room chain by p a))
      → Fit trees (meet trees input asked room chain by p a)
  off-fits asked room chain by p a fit unclosed new =
      elim (bool_cases (among p chain)) [
        | inl w ↦ fit-told trees by p is_cycle a (meet trees input asked room chain by p a)
            (meet-cycle trees input asked room chain by p a w) fit unclosed tt
        | inr w ↦ by_known (known p a.steps) refl w
      ]
    where
      by_known : (k : Option Known) → known p a.steps ≡ k → among p chain ≡ false
          → Fit trees (meet trees input asked room chain by p a)
      by_known None is off = new off is
      by_known (Some (Unreadable n)) is off =
          fit-told trees by p (is_unread n) a (meet trees input asked room chain by p a)
          (meet-unread trees input asked room chain by p a n off is) fit unclosed
          (unread-treeless trees p [] a.steps n fit is)
      by_known (Some (Loaded h)) is off =
          elim (bool_cases (nat_le h room)) [
            | inl w ↦ subst (λ (z : At). Fit trees z)
                (sym (meet-loaded trees input asked room chain by p a h off is w)) fit
            | inr w ↦ fit-told trees by p (is_too_long input) a
                (meet trees input asked room chain by p a)
                (meet-long trees input asked room chain by p a h off is w) fit unclosed tt
          ]

  meet-fits : (asked : Asked) (room : ℕ) (chain : List Text) (by : AskedBy) (p : Text) (a : At)
      → Fit trees a → IsOpen a.steps by → Fit trees (meet trees input asked room chain by p a)
  meet-fits asked zero chain by p a fit unclosed =
      off-fits asked zero chain by p a fit unclosed
      (λ off none. fit-told trees by p (is_too_long input) a
      (meet trees input asked zero chain by p a)
      (meet-full trees input asked chain by p a off none) fit unclosed tt)
  meet-fits asked (suc room) chain by p a fit unclosed =
      off-fits asked (suc room) chain by p a fit unclosed
      (λ off none. elim (option_cases (trees p)) [
        | inl t ↦
            let f : ImportSyntax → At → At =
            λ i. meet trees input the_resolver room (chain ++ p ∷ []) (by_import p i.place) i.path
            in
            let start : At = opens by asked p a in
            let same : closed_paths start.steps ≡ closed_paths a.steps =
            closed-append a.steps (opened by p ∷ []) ∙ append-nil (closed_paths a.steps) in
            let inner : At = meets_each f (imports t.0.statements) start in
            let inside : Fit trees inner =
            each-fits room chain p
            (λ i b. meet-fits the_resolver room (chain ++ p ∷ []) (by_import p i.place) i.path b)
            (imports t.0.statements) start (fit-push trees [] a.steps (opened by p) fit tt)
            (ap (among p) same ∙ unknown-open p a.steps none) in
            subst (λ (z : At). Fit trees z)
            (sym (meet-opened trees input asked room chain by p a t.0 off none t.1))
            (fit-push trees [] inner.steps (closed p (suc inner.height)) inside tt)
        | inr w ↦
            subst (λ (z : At). Fit trees z)
            (sym (meet-missed trees input asked room chain by p a off none w))
            (fit-push trees [] a.steps (told by p (is_unread (length a.unread))) fit (unclosed, w))
      ])

-- ** the inputs

holds-fits : (trees : Trees) (n : ℕ) (i : Input) (a : At) → Fit trees a → Fit trees (holds n i a)
holds-fits trees n (named p) a fit = fit
holds-fits trees n (at p own) a fit = by_known (known p a.steps)
  where
    by_known : (k : Option Known) → Fit trees (holds_known n p own a k)
    by_known None = fit
    by_known (Some (Unreadable m)) = fit
    by_known (Some (Loaded h)) = fit-push trees [] a.steps (held n p (length a.reads)) fit tt

loads-fit : (trees : Trees) (n : ℕ) (inputs : List Input) (a : At) → Fit trees a
    → Fit trees (loads trees n inputs a)
loads-fit trees n [] a fit = fit
loads-fit trees n (i ∷ inputs) a fit =
    loads-fit trees (suc n) inputs (meets_input trees n i a)
    (meet-fits trees (input_name i) (asked_of i) 100 [] (by_input n) (input_name i) (holds n i a)
    (holds-fits trees n i a fit) tt)

pub load-fits : (trees : Trees) (inputs : List Input) → AllFit trees [] (load_steps trees inputs)
load-fits trees inputs = loads-fit trees 0 inputs nothing tt
