-- Steps of what inputs' own paths have, their reads, and the files that were loaded.
use Rattle.std.proofs.Common.{◌≡◌, ℕ, zero, suc, Bool, true, false, List, [], ◌∷◌}
use Rattle.std.proofs.Common.{◌++◌, Option, Some, None, refl, sym, ◌∙◌, ap, subst, length}
use Rattle.std.proofs.Common.{append_assoc}
use Rattle.std.specs.Prelude.{slice_get, nat_le, if◌then◌else◌}
use Rattle.std.specs.List.{AllByRecursion}
use Rattle.protobuf_parse_syntax.specs.Dependencies.{imports}
use Rattle.protobuf_parse_syntax.specs.Trees.{FileSyntax, ImportSyntax}
use Rattle.protobuf_parse_model.specs.Descriptors.{Text}
use Rattle.protobuf_parse_run.specs.Walks.{Asked, FileRead, Input, Trees, among, asked_of, at}
use Rattle.protobuf_parse_run.specs.Walks.{input_name, named, the_reader, the_resolver}
use Rattle.protobuf_parse_load.specs.declared.known.Known.{Known}
use Rattle.protobuf_parse_load.specs.declared.known.Known.TheVariants.{Unreadable, Loaded}
use Rattle.protobuf_parse_load.specs.Laws.{HeldAreRead, IsHeldSo}
use Rattle.protobuf_parse_load.specs.Steps.{AskedBy, At, Step, back, by_import, by_input, closed}
use Rattle.protobuf_parse_load.specs.Steps.{closed_paths}
use Rattle.protobuf_parse_load.specs.Steps.{held, holds, holds_known, is_cycle, is_too_long}
use Rattle.protobuf_parse_load.specs.Steps.{is_unread, known, loads, meet, meets_each, meets_input}
use Rattle.protobuf_parse_load.specs.Steps.{meets_known, meets_new, nothing, opened, opens}
use Rattle.protobuf_parse_load.specs.Steps.{tells, told}
use Rattle.protobuf_parse_load.proofs.Following.{loaded-closed}
use Rattle.protobuf_parse_load.proofs.Standing.{among-left, closed-append}

pub more-at : {A : Type 0} (xs ys : List A) (n : ℕ) (x : A) → slice_get xs n ≡ Some x
    → slice_get (xs ++ ys) n ≡ Some x
more-at [] ys n x h = absurd cc
more-at (y ∷ xs) ys zero x h = h
more-at (y ∷ xs) ys (suc n) x h = more-at xs ys n x h

pub last-at : {A : Type 0} (xs : List A) (x : A) → slice_get (xs ++ x ∷ []) (length xs) ≡ Some x
last-at [] x = refl
last-at (y ∷ xs) x = last-at xs x

module _ (inputs : List Input) where
  held-more : (reads more : List FileRead) (whole : List Step) (s : Step)
      → IsHeldSo inputs reads whole s → IsHeldSo inputs (reads ++ more) whole s
  held-more reads more whole (held n p r) h =
      (h.0, h.1, more-at reads more r (record { asked = the_reader h.0; path = p }) h.2, h.3)
  held-more reads more whole (opened by p) h = tt
  held-more reads more whole (told by p why) h = tt
  held-more reads more whole (closed p k) h = tt

  loaded-later : (p : Text) (whole later : List Step) → among p (closed_paths whole) ≡ true
      → among p (closed_paths (whole ++ later)) ≡ true
  loaded-later p whole later h =
      rw (closed-append whole later) (among-left p (closed_paths whole) (closed_paths later) h)

  held-later : (reads : List FileRead) (whole later : List Step) (s : Step)
      → IsHeldSo inputs reads whole s → IsHeldSo inputs reads (whole ++ later) s
  held-later reads whole later (held n p r) h =
      (h.0, h.1, h.2, loaded-later p whole later h.3)
  held-later reads whole later (opened by p) h = tt
  held-later reads whole later (told by p why) h = tt
  held-later reads whole later (closed p k) h = tt

  -- these steps name such reads, and files that are loaded at the whole steps
  abbrev pub HeldIn : List FileRead → List Step → List Step → Type 0
  HeldIn reads whole steps = AllByRecursion (IsHeldSo inputs reads whole) steps

  -- the steps so far name reads so far, and files that are loaded by now
  abbrev pub Held : List FileRead → List Step → Type 0
  Held reads steps = HeldIn reads steps steps

  all-more : (reads more : List FileRead) (whole steps : List Step) → HeldIn reads whole steps
      → HeldIn (reads ++ more) whole steps
  all-more reads more whole [] all = tt
  all-more reads more whole (s ∷ steps) all =
      (held-more reads more whole s all.0, all-more reads more whole steps all.1)

  all-later : (reads : List FileRead) (whole later steps : List Step) → HeldIn reads whole steps
      → HeldIn reads (whole ++ later) steps
  all-later reads whole later [] all = tt
  all-later reads whole later (s ∷ steps) all =
      (held-later reads whole later s all.0, all-later reads whole later steps all.1)

  all-end : (reads : List FileRead) (whole steps : List Step) (s : Step)
      → HeldIn reads whole steps → IsHeldSo inputs reads whole s
      → HeldIn reads whole (steps ++ s ∷ [])
  all-end reads whole [] s all h = (h, tt)
  all-end reads whole (x ∷ steps) s all h = (all.0, all-end reads whole steps s all.1 h)

  all-push : (reads : List FileRead) (steps : List Step) (s : Step) → Held reads steps
      → IsHeldSo inputs reads (steps ++ s ∷ []) s → Held reads (steps ++ s ∷ [])
  all-push reads steps s all h = all-end reads (steps ++ s ∷ []) steps s
      (all-later reads steps (s ∷ []) steps all) h

  abbrev pub IsHeldAt : At → Type 0
  IsHeldAt a = Held a.reads a.steps

  held-if : (c : Bool) (a b : At) → IsHeldAt a → IsHeldAt b → IsHeldAt (if c then a else b)
  held-if true a b x y = x
  held-if false a b x y = y

  held-each : (f : ImportSyntax → At → At) → ((i : ImportSyntax) (a : At) → IsHeldAt a
      → IsHeldAt (f i a)) → (is : List ImportSyntax) (a : At) → IsHeldAt a
      → IsHeldAt (meets_each f is a)
  held-each f each [] a h = h
  held-each f each (i ∷ is) a h = held-each f each is (f i a) (each i a h)

  held-known : (room : ℕ) (input : Text) (by : AskedBy) (p : Text) (a new : At) (k : Option Known)
      → IsHeldAt a → IsHeldAt new → IsHeldAt (meets_known room input by p a k new)
  held-known room input by p a new None h x = x
  held-known room input by p a new (Some (Unreadable n)) h x =
      all-push a.reads a.steps (told by p (is_unread n)) h tt
  held-known room input by p a new (Some (Loaded g)) h x =
      held-if (nat_le g room) (back g a) (tells (told by p (is_too_long input)) a) h
      (all-push a.reads a.steps (told by p (is_too_long input)) h tt)

  held-new : (t : Option FileSyntax) (inside : List ImportSyntax → At → At) (by : AskedBy)
      (asked : Asked) (p : Text) (a : At)
      → ((is : List ImportSyntax) (b : At) → IsHeldAt b → IsHeldAt (inside is b)) → IsHeldAt a
      → IsHeldAt (meets_new t inside by asked p a)
  held-new None inside by asked p a each h =
      let r : FileRead = record { asked = asked; path = p } in
      let s : Step = told by p (is_unread (length a.unread)) in
      all-push (a.reads ++ r ∷ []) a.steps s (all-more a.reads (r ∷ []) a.steps a.steps h) tt
  held-new (Some t) inside by asked p a each h =
      let r : FileRead = record { asked = asked; path = p } in
      let b : At = inside (imports t.statements) (opens by asked p a) in
      let x : IsHeldAt b = each (imports t.statements) (opens by asked p a)
      (all-push (a.reads ++ r ∷ []) a.steps (opened by p)
      (all-more a.reads (r ∷ []) a.steps a.steps h) tt)
      in
      all-push b.reads b.steps (closed p (suc b.height)) x tt

  held-meet : (trees : Trees) (input : Text) (asked : Asked) (room : ℕ) (chain : List Text)
      (by : AskedBy) (p : Text) (a : At) → IsHeldAt a
      → IsHeldAt (meet trees input asked room chain by p a)
  unfolding meet
  held-meet trees input asked zero chain by p a h =
      held-if (among p chain) (tells (told by p is_cycle) a) _
      (all-push a.reads a.steps (told by p is_cycle) h tt)
      (held-known 0 input by p a (tells (told by p (is_too_long input)) a) (known p a.steps) h
      (all-push a.reads a.steps (told by p (is_too_long input)) h tt))
  held-meet trees input asked (suc room) chain by p a h =
      let inside : List ImportSyntax → At → At = meets_each
      (λ (i : ImportSyntax). meet trees input the_resolver room (chain ++ p ∷ [])
      (by_import p i.place) i.path) in
      held-if (among p chain) (tells (told by p is_cycle) a) _
      (all-push a.reads a.steps (told by p is_cycle) h tt)
      (held-known (suc room) input by p a (meets_new (trees p) inside by asked p a)
      (known p a.steps) h
      (held-new (trees p) inside by asked p a (λ is b. held-each
      (λ (i : ImportSyntax). meet trees input the_resolver room (chain ++ p ∷ [])
      (by_import p i.place) i.path)
      (λ i c. held-meet trees input the_resolver room (chain ++ p ∷ []) (by_import p i.place) i.path
      c) is b) h))

  held-holds : (n : ℕ) (i : Input) (a : At) → slice_get inputs n ≡ Some i → IsHeldAt a
      → IsHeldAt (holds n i a)
  held-holds n (named p) a is h = h
  held-holds n (at p own) a is h = by_known (known p a.steps) refl
    where
      by_known : (k : Option Known) → known p a.steps ≡ k → IsHeldAt (holds_known n p own a k)
      by_known None found = h
      by_known (Some (Unreadable m)) found = h
      by_known (Some (Loaded m)) found =
          let r : FileRead = record { asked = the_reader own; path = p } in
          let s : Step = held n p (length a.reads) in
          all-push (a.reads ++ r ∷ []) a.steps s (all-more a.reads (r ∷ []) a.steps a.steps h) (
            own,
            is,
            last-at a.reads r,
            loaded-later p a.steps (s ∷ []) (loaded-closed p a.steps m found),
          )

  held-loads : (trees : Trees) (before rest : List Input) (a : At) → inputs ≡ before ++ rest
      → IsHeldAt a → IsHeldAt (loads trees (length before) rest a)
  held-loads trees before [] a is h = h
  held-loads trees before (i ∷ rest) a is h =
      let n = length before in
      let there : slice_get inputs n ≡ Some i = rw (is, ← append_assoc before (i ∷ []) rest)
      (more-at (before ++ i ∷ []) rest n i (last-at before i)) in
      let next : inputs ≡ (before ++ i ∷ []) ++ rest = is ∙ sym (append_assoc before (i ∷ []) rest)
      in
      let count : length (before ++ i ∷ []) ≡ suc n = longer before i in
      subst (λ (z : ℕ). IsHeldAt (loads trees z rest (meets_input trees n i a))) count
      (held-loads trees (before ++ i ∷ []) rest (meets_input trees n i a) next
      (held-meet trees (input_name i) (asked_of i) 100 [] (by_input n) (input_name i) (holds n i a)
      (held-holds n i a there h)))
    where
      longer : (xs : List Input) (x : Input) → length (xs ++ x ∷ []) ≡ suc (length xs)
      longer [] x = refl
      longer (y ∷ xs) x = ap suc (longer xs x)

pub held-are-read : HeldAreRead
held-are-read trees inputs = held-loads inputs trees [] inputs nothing refl tt
