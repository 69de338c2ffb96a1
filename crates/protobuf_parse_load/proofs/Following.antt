-- Loads leave nothing out, and load each file once and after its imports.
use Rattle.std.proofs.Common.{◌≡◌, ◌⊎◌, inl, inr, ℕ, zero, suc, Bool, true, false, List, [], ◌∷◌}
use Rattle.std.proofs.Common.{◌++◌}
use Rattle.std.proofs.Common.{Option, Some, None, refl, sym, ◌∙◌, ap, subst, append_assoc}
use Rattle.std.proofs.Common.{append-nil}
use Rattle.std.proofs.Common.{length}
use Rattle.std.proofs.lemmas.Bool.{eq-eqb}
use Rattle.std.proofs.lemmas.List.Folds.{list_any-append}
use Rattle.std.specs.Prelude.{◌&&◌, bytes_eq, nat_eq, nat_le, cond}
use Rattle.std.specs.List.{AllByRecursion, list_any}
use Rattle.protobuf_parse_syntax.specs.Dependencies.{imports}
use Rattle.protobuf_parse_syntax.specs.Trees.{FileSyntax, ImportSyntax}
use Rattle.protobuf_parse_model.specs.Descriptors.{Text}
use Rattle.protobuf_parse_elaboration.specs.FilesByPath.{AreDistinct}
use Rattle.protobuf_parse_run.specs.Walks.{Asked, Input, Trees, among, asked_of, at, input_name}
use Rattle.protobuf_parse_run.specs.Walks.{named}
use Rattle.protobuf_parse_run.specs.Walks.{the_resolver}
use Rattle.protobuf_parse_run.proofs.Keeping.{bool_cases, first_same, never_both, none_some}
use Rattle.protobuf_parse_run.proofs.Keeping.{not_true, or_left, or_right, rest_same}
use Rattle.protobuf_parse_run.proofs.Keeping.{some_same, text-same, text-true}
use Rattle.protobuf_parse_run.proofs.Knowing.{distinct-push}
use Rattle.protobuf_parse_load.specs.declared.known.Known.{Known}
use Rattle.protobuf_parse_load.specs.declared.known.Known.TheVariants.{Unreadable, Loaded}
use Rattle.protobuf_parse_load.specs.Laws.{AreFollowed, FilesComeOnce, ImportsComeFirst}
use Rattle.protobuf_parse_load.specs.Laws.{InputsAreFollowed}
use Rattle.protobuf_parse_load.specs.Laws.{InputsCome, IsFollowed, same_asker, tells_of}
use Rattle.protobuf_parse_load.specs.Steps.{AskedBy, At, Step, Why, back, by_import, by_input}
use Rattle.protobuf_parse_load.specs.Steps.{closed}
use Rattle.protobuf_parse_load.specs.Steps.{closed_paths, closes, held, holds, holds_known}
use Rattle.protobuf_parse_load.specs.Steps.{is_cycle}
use Rattle.protobuf_parse_load.specs.Steps.{is_too_long, is_unread, known}
use Rattle.protobuf_parse_load.specs.Steps.{load_steps, loads, meet, meets_each, meets_input}
use Rattle.protobuf_parse_load.specs.Steps.{misses}
use Rattle.protobuf_parse_load.specs.Steps.{nothing, opened, opens, tells, told, unread_by}
use Rattle.protobuf_parse_load.proofs.Machine.{meet-cycle, meet-full, meet-loaded, meet-long}
use Rattle.protobuf_parse_load.proofs.Machine.{meet-missed, meet-opened, meet-unread}
use Rattle.protobuf_parse_load.proofs.Standing.{among-end, among-last, among-left, closed-append}

-- ** steps behind steps

pub option_cases : {A : Type 0} (o : Option A) → ((a : A) × (o ≡ Some a)) ⊎ (o ≡ None)
option_cases (Some a) = inl (a, refl)
option_cases None = inr refl

both-true : (a b : Bool) → a ≡ true → b ≡ true → (a && b) ≡ true
both-true a b h k = rw (h, k) refl

same-asker : (by : AskedBy) → same_asker by by ≡ true
same-asker (by_input n) = eq-eqb n n refl
same-asker (by_import p a) =
    both-true (bytes_eq p p) (nat_eq a.line a.line && nat_eq a.col a.col) (text-same p)
    (both-true (nat_eq a.line a.line) (nat_eq a.col a.col) (eq-eqb a.line a.line refl)
    (eq-eqb a.col a.col refl))

-- the file of this path, asked for so, is told or loaded by now
abbrev pub IsMetBy : List Step → AskedBy → Text → Type 0
IsMetBy steps by p = IsFollowed steps (closed_paths steps) by p

any-left : (f : Step → Bool) (xs ys : List Step) → list_any f xs ≡ true
    → list_any f (xs ++ ys) ≡ true
any-left f xs ys h = list_any-append f xs ys ∙ or_left _ _ h

pub met-more : (steps more : List Step) (by : AskedBy) (p : Text) → IsMetBy steps by p
    → IsMetBy (steps ++ more) by p
met-more steps more by p (inl h) = inl (any-left (tells_of by) steps more h)
met-more steps more by p (inr h) =
    inr (rw (closed-append steps more) (among-left p (closed_paths steps) (closed_paths more) h))

met-told : (steps : List Step) (by : AskedBy) (p : Text) (why : Why)
    → IsMetBy (steps ++ told by p why ∷ []) by p
met-told steps by p why =
    inl (list_any-append (tells_of by) steps (told by p why ∷ [])
    ∙ or_right _ _ (or_left _ _ (same-asker by)))

-- ** what is known of a path, and the files that are loaded

cond-other : (b : Bool) (k l : Known) (rest : Option Known) → (k ≡ l → ⊥)
    → cond b (Some k) rest ≡ Some l → rest ≡ Some l
cond-other true k l rest other h = absurd (other (some_same k l h))
cond-other false k l rest other h = h

unread-loaded : (p q : Text) (why : Why) (rest : Option Known) (h : ℕ)
    → unread_by p q why rest ≡ Some (Loaded h) → rest ≡ Some (Loaded h)
unread-loaded p q (is_unread n) rest h e =
    cond-other (bytes_eq p q) (Unreadable n) (Loaded h) rest (λ z. cc) e
unread-loaded p q is_cycle rest h e = e
unread-loaded p q (is_too_long input) rest h e = e

pub loaded-closed : (p : Text) (steps : List Step) (h : ℕ) → known p steps ≡ Some (Loaded h)
    → among p (closed_paths steps) ≡ true
loaded-closed p [] h e = absurd (none_some (Loaded h) e)
loaded-closed p (opened by q ∷ steps) h e = loaded-closed p steps h e
loaded-closed p (told by q why ∷ steps) h e =
    loaded-closed p steps h (unread-loaded p q why (known p steps) h e)
loaded-closed p (closed q g ∷ steps) h e =
    elim (bool_cases (bytes_eq p q)) [
      | inl w ↦ or_left (bytes_eq p q) (among p (closed_paths steps)) w
      | inr w ↦ or_right (bytes_eq p q) (among p (closed_paths steps))
          (loaded-closed p steps h (rw w at e))
    ]
loaded-closed p (held n q r ∷ steps) h e = loaded-closed p steps h e

cond-none : (b : Bool) (k : Known) (rest : Option Known) → cond b (Some k) rest ≡ None
    → (b ≡ false) × (rest ≡ None)
cond-none true k rest h = absurd (none_some k (sym h))
cond-none false k rest h = (refl, h)

unread-none : (p q : Text) (why : Why) (rest : Option Known) → unread_by p q why rest ≡ None
    → rest ≡ None
unread-none p q (is_unread n) rest e = (cond-none (bytes_eq p q) (Unreadable n) rest e).1
unread-none p q is_cycle rest e = e
unread-none p q (is_too_long input) rest e = e

unknown-open : (p : Text) (steps : List Step) → known p steps ≡ None
    → among p (closed_paths steps) ≡ false
unknown-open p [] e = refl
unknown-open p (opened by q ∷ steps) e = unknown-open p steps e
unknown-open p (told by q why ∷ steps) e =
    unknown-open p steps (unread-none p q why (known p steps) e)
unknown-open p (closed q g ∷ steps) e =
    let r = cond-none (bytes_eq p q) (Loaded g) (known p steps) e in
    let off : among p (closed_paths steps) ≡ false = unknown-open p steps r.1 in
    rw (r.0, off) refl
unknown-open p (held n q r ∷ steps) e = unknown-open p steps e

-- ** each file behind its imports

-- a file that is closed behind these steps has a tree, and its imports are told or loaded
abbrev pub FollowsAt : Trees → List Step → Step → Type 0
FollowsAt trees before (closed p h) = (t : FileSyntax) × (trees p ≡ Some t)
    × AllByRecursion (λ (i : ImportSyntax). IsMetBy before (by_import p i.place) i.path)
    (imports t.statements)
FollowsAt trees before _ = Unit {0}

abbrev pub AllFollow : Trees → List Step → List Step → Type 0
AllFollow trees before [] = Unit {0}
AllFollow trees before (s ∷ steps) = FollowsAt trees before s
    × AllFollow trees (before ++ s ∷ []) steps

follow-push : (trees : Trees) (before steps : List Step) (s : Step) → AllFollow trees before steps
    → FollowsAt trees (before ++ steps) s → AllFollow trees before (steps ++ s ∷ [])
follow-push trees before [] s all h =
    (subst (λ (z : List Step). FollowsAt trees z s) (append-nil before) h, tt)
follow-push trees before (x ∷ steps) s all h = (
  all.0,
  follow-push trees (before ++ x ∷ []) steps s all.1
      (subst (λ (z : List Step). FollowsAt trees z s) (sym (append_assoc before (x ∷ []) steps)) h),
)

-- ** a walk

-- what comes of asking for a path on this chain: steps are added, each file behind its imports and
-- none twice, none of the chain; and the path is told or loaded
pub record IsWell (trees : Trees) (chain : List Text) (a b : At) : Type 0 where
  pub more : List Step
  pub extends : b.steps ≡ a.steps ++ more
  pub follows : AllFollow trees [] a.steps → AllFollow trees [] b.steps
  pub once : AreDistinct (closed_paths a.steps) → AreDistinct (closed_paths b.steps)
  pub apart : (q : Text) → among q chain ≡ true → among q (closed_paths a.steps) ≡ false
      → among q (closed_paths b.steps) ≡ false

well-same : (trees : Trees) (chain : List Text) (a b : At) → b.steps ≡ a.steps
    → IsWell trees chain a b
well-same trees chain a b same = record {
  more = [];
  extends = same ∙ sym (append-nil a.steps);
  follows = λ h. rw same h;
  once = λ h. rw same h;
  apart = λ q on h. rw same h;
}

well-trans : (trees : Trees) (chain : List Text) (a b c : At) → IsWell trees chain a b
    → IsWell trees chain b c → IsWell trees chain a c
well-trans trees chain a b c x y = record {
  more = x.more ++ y.more;
  extends = y.extends ∙ (rw x.extends (append_assoc a.steps x.more y.more));
  follows = λ h. y.follows (x.follows h);
  once = λ h. y.once (x.once h);
  apart = λ q on h. y.apart q on (x.apart q on h);
}

-- a step that closes nothing
well-step : (trees : Trees) (chain : List Text) (a b : At) (s : Step) → b.steps ≡ a.steps ++ s ∷ []
    → closed_paths (s ∷ []) ≡ [] → FollowsAt trees a.steps s → IsWell trees chain a b
well-step trees chain a b s is none h =
    let same : closed_paths b.steps ≡ closed_paths a.steps = ap closed_paths is
    ∙ closed-append a.steps (s ∷ []) ∙ ap (λ z. closed_paths a.steps ++ z) none
    ∙ append-nil (closed_paths a.steps) in
    record {
      more = s ∷ [];
      extends = is;
      follows = λ all. rw is (follow-push trees [] a.steps s all h);
      once = λ d. rw same d;
      apart = λ q on off. rw same off;
    }

met-extends : (trees : Trees) (chain : List Text) (a b : At) (by : AskedBy) (p : Text)
    → IsWell trees chain a b → IsMetBy a.steps by p → IsMetBy b.steps by p
met-extends trees chain a b by p w m =
    subst (λ (z : List Step). IsMetBy z by p) (sym w.extends) (met-more a.steps w.more by p m)

all-extend : (trees : Trees) (chain : List Text) (a b : At) (p : Text) (is : List ImportSyntax)
    → IsWell trees chain a b
    → AllByRecursion (λ (i : ImportSyntax). IsMetBy a.steps (by_import p i.place) i.path) is
    → AllByRecursion (λ (i : ImportSyntax). IsMetBy b.steps (by_import p i.place) i.path) is
all-extend trees chain a b p [] w all = tt
all-extend trees chain a b p (i ∷ is) w all = (
  met-extends trees chain a b (by_import p i.place) i.path w all.0,
  all-extend trees chain a b p is w all.1,
)

-- imports, one after another
each-well : (trees : Trees) (chain : List Text) (p : Text) (f : ImportSyntax → At → At)
    → ((i : ImportSyntax) (a : At) → IsWell trees chain a (f i a)
    × IsMetBy (f i a).steps (by_import p i.place) i.path) → (is : List ImportSyntax) (a : At)
    → IsWell trees chain a (meets_each f is a)
    × AllByRecursion (λ (i : ImportSyntax). IsMetBy (meets_each f is a).steps (by_import p i.place)
    i.path) is
each-well trees chain p f each [] a = (well-same trees chain a a refl, tt)
each-well trees chain p f each (i ∷ is) a =
    let x = each i a in
    let y = each-well trees chain p f each is (f i a) in (
      well-trans trees chain a (f i a) (meets_each f is (f i a)) x.0 y.0,
      (
        met-extends trees chain (f i a) (meets_each f is (f i a)) (by_import p i.place) i.path y.0
            x.1,
        y.1,
      ),
    )

-- a file that is opened, and closed behind its imports
opened-well : (trees : Trees) (chain : List Text) (by : AskedBy) (asked : Asked) (p : Text)
    (a c : At) (t : FileSyntax) (h : ℕ) → trees p ≡ Some t → among p chain ≡ false
    → known p a.steps ≡ None → IsWell trees (chain ++ p ∷ []) (opens by asked p a) c
    → AllByRecursion (λ (i : ImportSyntax). IsMetBy c.steps (by_import p i.place) i.path)
    (imports t.statements)
    → IsWell trees chain a (back h (closes p c)) × IsMetBy (back h (closes p c)).steps by p
opened-well trees chain by asked p a c t h is off none w all =
    let b : At = opens by asked p a in
    let s : Step = closed p (suc c.height) in
    let first : IsWell trees (chain ++ p ∷ []) a b = well-step trees (chain ++ p ∷ []) a b
    (opened by p) refl refl tt in
    let inner = well-trans trees (chain ++ p ∷ []) a b c first w in
    let fresh : among p (closed_paths c.steps) ≡ false =
    inner.apart p (among-last p p chain (text-same p)) (unknown-open p a.steps none) in
    let paths : closed_paths (c.steps ++ s ∷ []) ≡ closed_paths c.steps ++ p ∷ [] =
    closed-append c.steps (s ∷ []) in (
      record {
        more = inner.more ++ s ∷ [];
        extends = ap (λ z. z ++ s ∷ []) inner.extends
            ∙ append_assoc a.steps inner.more (s ∷ []);
        follows = λ before. follow-push trees [] c.steps s (inner.follows before) (t, is, all);
        once = λ before.
            rw paths (distinct-push p (closed_paths c.steps) (inner.once before) fresh);
        apart = λ q on before.
            rw paths (not_true (among q (closed_paths c.steps ++ p ∷ [])) (λ there.
            elim (among-end q p (closed_paths c.steps) there) [
              | inl z ↦ never_both (among q (closed_paths c.steps)) z
                  (inner.apart q (among-left q chain (p ∷ []) on) before)
              | inr z ↦ never_both (among p chain)
                  (subst (λ (x : Text). among x chain ≡ true) (text-true q p z) on) off
            ]));
      },
      inr (rw paths (among-last p p (closed_paths c.steps) (text-same p))),
    )

told-well : (trees : Trees) (chain : List Text) (by : AskedBy) (p : Text) (why : Why) (a b : At)
    → b ≡ tells (told by p why) a → IsWell trees chain a b × IsMetBy b.steps by p
told-well trees chain by p why a b is =
    rw is (
      well-step trees chain a (tells (told by p why) a) (told by p why) refl refl tt,
      met-told a.steps by p why,
    )

missed-well : (trees : Trees) (chain : List Text) (by : AskedBy) (asked : Asked) (p : Text)
    (a b : At) → b ≡ misses by asked p a → IsWell trees chain a b × IsMetBy b.steps by p
missed-well trees chain by asked p a b is =
    rw is (
      well-step trees chain a (misses by asked p a) (told by p (is_unread (length a.unread))) refl
          refl tt,
      met-told a.steps by p (is_unread (length a.unread)),
    )

loaded-well : (trees : Trees) (chain : List Text) (by : AskedBy) (p : Text) (h : ℕ) (a b : At)
    → b ≡ back h a → known p a.steps ≡ Some (Loaded h)
    → IsWell trees chain a b × IsMetBy b.steps by p
loaded-well trees chain by p h a b is there =
    rw is (well-same trees chain a (back h a) refl, inr (loaded-closed p a.steps h there))

module _ (trees : Trees) (input : Text) where
  -- a path of which something is known
  known-well : (asked : Asked) (room : ℕ) (chain : List Text) (by : AskedBy) (p : Text) (a : At)
      (k : Known) → among p chain ≡ false → known p a.steps ≡ Some k
      → IsWell trees chain a (meet trees input asked room chain by p a)
      × IsMetBy (meet trees input asked room chain by p a).steps by p
  known-well asked room chain by p a (Unreadable n) off is =
      told-well trees chain by p (is_unread n) a (meet trees input asked room chain by p a)
      (meet-unread trees input asked room chain by p a n off is)
  known-well asked room chain by p a (Loaded h) off is =
      elim (bool_cases (nat_le h room)) [
        | inl w ↦ loaded-well trees chain by p h a (meet trees input asked room chain by p a)
            (meet-loaded trees input asked room chain by p a h off is w) is
        | inr w ↦ told-well trees chain by p (is_too_long input) a
            (meet trees input asked room chain by p a)
            (meet-long trees input asked room chain by p a h off is w)
      ]

  -- a path that isn't on the chain, and is met anew by this
  off-well : (asked : Asked) (room : ℕ) (chain : List Text) (by : AskedBy) (p : Text) (a : At)
      → (among p chain ≡ false → known p a.steps ≡ None
      → IsWell trees chain a (meet trees input asked room chain by p a)
      × IsMetBy (meet trees input asked room chain by p a).steps by p)
      → IsWell trees chain a (meet trees input asked room chain by p a)
      × IsMetBy (meet trees input asked room chain by p a).steps by p
  off-well asked room chain by p a new =
      elim (bool_cases (among p chain)) [
        | inl w ↦ told-well trees chain by p is_cycle a (meet trees input asked room chain by p a)
            (meet-cycle trees input asked room chain by p a w)
        | inr w ↦ elim (option_cases (known p a.steps)) [
          | inl k ↦ known-well asked room chain by p a k.0 w k.1
          | inr none ↦ new w none
        ]
      ]

  -- a path that is read now
  new-well : (asked : Asked) (room : ℕ) (chain : List Text) (by : AskedBy) (p : Text) (a : At)
      → ((i : ImportSyntax) (b : At) → IsWell trees (chain ++ p ∷ []) b
      (meet trees input the_resolver room (chain ++ p ∷ []) (by_import p i.place) i.path b)
      × IsMetBy (meet trees input the_resolver room (chain ++ p ∷ []) (by_import p i.place) i.path
      b).steps (by_import p i.place) i.path) → among p chain ≡ false → known p a.steps ≡ None
      → IsWell trees chain a (meet trees input asked (suc room) chain by p a)
      × IsMetBy (meet trees input asked (suc room) chain by p a).steps by p
  new-well asked room chain by p a each off none =
      elim (option_cases (trees p)) [
        | inl t ↦
            let inside : ImportSyntax → At → At = λ i b. meet trees input the_resolver room
            (chain ++ p ∷ []) (by_import p i.place) i.path b in
            let r = each-well trees (chain ++ p ∷ []) p inside each (imports t.0.statements)
            (opens by asked p a) in
            rw (meet-opened trees input asked room chain by p a t.0 off none t.1)
            (opened-well trees chain by asked p a
            (meets_each inside (imports t.0.statements) (opens by asked p a)) t.0 a.height t.1 off
            none r.0 r.1)
        | inr w ↦ missed-well trees chain by asked p a
            (meet trees input asked (suc room) chain by p a)
            (meet-missed trees input asked room chain by p a off none w)
      ]

  pub meet-well : (asked : Asked) (room : ℕ) (chain : List Text) (by : AskedBy) (p : Text) (a : At)
      → IsWell trees chain a (meet trees input asked room chain by p a)
      × IsMetBy (meet trees input asked room chain by p a).steps by p
  meet-well asked zero chain by p a =
      off-well asked zero chain by p a (λ off none. told-well trees chain by p (is_too_long input) a
      (meet trees input asked zero chain by p a)
      (meet-full trees input asked chain by p a off none))
  meet-well asked (suc room) chain by p a =
      off-well asked (suc room) chain by p a (new-well asked room chain by p a
      (λ i b. meet-well the_resolver room (chain ++ p ∷ []) (by_import p i.place) i.path b))

-- ** the inputs

holds-well : (trees : Trees) (n : ℕ) (i : Input) (a : At) → IsWell trees [] a (holds n i a)
holds-well trees n (named p) a = well-same trees [] a a refl
holds-well trees n (at p own) a = by_known (known p a.steps)
  where
    by_known : (k : Option Known) → IsWell trees [] a (holds_known n p own a k)
    by_known None = well-same trees [] a a refl
    by_known (Some (Unreadable m)) = well-same trees [] a a refl
    by_known (Some (Loaded h)) =
        well-step trees [] a (holds_known n p own a (Some (Loaded h)))
        (held n p (length a.reads)) refl refl tt

input-well : (trees : Trees) (n : ℕ) (i : Input) (a : At)
    → IsWell trees [] a (meets_input trees n i a)
    × IsMetBy (meets_input trees n i a).steps (by_input n) (input_name i)
input-well trees n i a =
    let r = meet-well trees (input_name i) (asked_of i) 100 [] (by_input n) (input_name i)
    (holds n i a) in (
      well-trans trees [] a (holds n i a) (meets_input trees n i a) (holds-well trees n i a) r.0,
      r.1,
    )

loads-well : (trees : Trees) (n : ℕ) (inputs : List Input) (a : At)
    → IsWell trees [] a (loads trees n inputs a)
loads-well trees n [] a = well-same trees [] a a refl
loads-well trees n (i ∷ inputs) a =
    well-trans trees [] a (meets_input trees n i a) (loads trees n (i ∷ inputs) a)
    (input-well trees n i a).0 (loads-well trees (suc n) inputs (meets_input trees n i a))

loads-meet : (trees : Trees) (n : ℕ) (inputs : List Input) (a : At)
    → InputsAreFollowed (loads trees n inputs a).steps (closed_paths (loads trees n inputs a).steps)
    n inputs
loads-meet trees n [] a = tt
loads-meet trees n (i ∷ inputs) a =
    let b : At = meets_input trees n i a in (
      met-extends trees [] b (loads trees (suc n) inputs b) (by_input n) (input_name i)
          (loads-well trees (suc n) inputs b) (input-well trees n i a).1,
      loads-meet trees (suc n) inputs b,
    )

pub inputs-come : InputsCome
inputs-come trees inputs = loads-meet trees 0 inputs nothing

pub files-come-once : FilesComeOnce
files-come-once trees inputs = (loads-well trees 0 inputs nothing).once tt

-- ** the steps before a file is closed

pub record IsFound (trees : Trees) (seen steps : List Step) (before : List Text) (p : Text)
    : Type 0 where
  pub front : List Step
  pub height : ℕ
  pub rest : List Step
  pub split : steps ≡ front ++ closed p height ∷ rest
  pub paths : closed_paths front ≡ before
  pub follows : FollowsAt trees (seen ++ front) (closed p height)

find-later : (trees : Trees) (seen steps : List Step) (s : Step) (before : List Text) (p : Text)
    → closed_paths (s ∷ []) ≡ [] → ((xs : List Step) → closed_paths (s ∷ xs) ≡ closed_paths xs)
    → IsFound trees (seen ++ s ∷ []) steps before p → IsFound trees seen (s ∷ steps) before p
find-later trees seen steps s before p none same f = record {
  front = s ∷ f.front;
  height = f.height;
  rest = f.rest;
  split = ap (λ z. s ∷ z) f.split;
  paths = same f.front ∙ f.paths;
  follows = subst (λ (z : List Step). FollowsAt trees z (closed p f.height))
      (append_assoc seen (s ∷ []) f.front) f.follows;
}

find-closed : (trees : Trees) (seen steps : List Step) (before after : List Text) (p : Text)
    → AllFollow trees seen steps → closed_paths steps ≡ before ++ p ∷ after
    → IsFound trees seen steps before p
find-closed trees seen [] [] after p all is = absurd cc
find-closed trees seen [] (b ∷ before) after p all is = absurd cc
find-closed trees seen (opened by q ∷ steps) before after p all is =
    find-later trees seen steps (opened by q) before p refl (λ xs. refl)
    (find-closed trees (seen ++ opened by q ∷ []) steps before after p all.1 is)
find-closed trees seen (told by q why ∷ steps) before after p all is =
    find-later trees seen steps (told by q why) before p refl (λ xs. refl)
    (find-closed trees (seen ++ told by q why ∷ []) steps before after p all.1 is)
find-closed trees seen (held n q r ∷ steps) before after p all is =
    find-later trees seen steps (held n q r) before p refl (λ xs. refl)
    (find-closed trees (seen ++ held n q r ∷ []) steps before after p all.1 is)
find-closed trees seen (closed q h ∷ steps) [] after p all is =
    let same : q ≡ p = first_same is in
    record {
      front = [];
      height = h;
      rest = steps;
      split = ap (λ z. closed z h ∷ steps) same;
      paths = refl;
      follows = subst (λ (z : List Step). FollowsAt trees z (closed p h)) (sym (append-nil seen))
          (subst (λ (z : Text). FollowsAt trees seen (closed z h)) same all.0);
    }
find-closed trees seen (closed q h ∷ steps) (b ∷ before) after p all is =
    let same : q ≡ b = first_same is in
    let f = find-closed trees (seen ++ closed q h ∷ []) steps before after p all.1 (rest_same is) in
    record {
      front = closed q h ∷ f.front;
      height = f.height;
      rest = f.rest;
      split = ap (λ z. closed q h ∷ z) f.split;
      paths = ap (λ z. q ∷ z) f.paths ∙ ap (λ z. z ∷ before) same;
      follows = subst (λ (z : List Step). FollowsAt trees z (closed p f.height))
          (append_assoc seen (closed q h ∷ []) f.front) f.follows;
    }

-- told or loaded by some steps, of more
follows-more : (front rest : List Step) (before : List Text) (p : Text) (is : List ImportSyntax)
    → closed_paths front ≡ before
    → AllByRecursion (λ (i : ImportSyntax). IsMetBy front (by_import p i.place) i.path) is
    → AreFollowed (front ++ rest) before p is
follows-more front rest before p [] paths all = tt
follows-more front rest before p (i ∷ is) paths all =
    (one all.0, follows-more front rest before p is paths all.1)
  where
    one : IsMetBy front (by_import p i.place) i.path
        → IsFollowed (front ++ rest) before (by_import p i.place) i.path
    one (inl h) = inl (any-left (tells_of (by_import p i.place)) front rest h)
    one (inr h) = inr (rw paths at h)

pub imports-come-first : ImportsComeFirst
imports-come-first trees inputs before after p is =
    let all = (loads-well trees 0 inputs nothing).follows tt in
    let f = find-closed trees [] (load_steps trees inputs) before after p all is in
    let t = f.follows in (
      t.0,
      t.1,
      subst (λ (z : List Step). AreFollowed z before p (imports t.0.statements)) (sym f.split)
          (follows-more f.front (closed p f.height ∷ f.rest) before p (imports t.0.statements)
          f.paths t.2),
    )
