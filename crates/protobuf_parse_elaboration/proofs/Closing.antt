-- All that some files lead to, as a list of paths, where finitely many paths have a tree.
use Rattle.std.proofs.Common.{◌≡◌, ℕ, zero, suc, ◌<◌, ◌≤◌, Bool, true, false, cond, ◌||◌, ◌⊎◌, inl}
use Rattle.std.proofs.Common.{inr, List, [], ◌∷◌, ◌++◌, flat_map, length, Option, Some, None, refl}
use Rattle.std.proofs.Common.{sym, ◌∙◌, subst, arith, bytes_eq}
use Rattle.std.proofs.lemmas.Bool.{cases_Bool, or_left, or_right, or_cases}
use Rattle.std.proofs.lemmas.List.Folds.{list_any-append}
use Rattle.protobuf_parse_syntax.specs.Trees.{FileSyntax}
use Rattle.protobuf_parse_model.specs.Descriptors.{Text}
use Rattle.protobuf_parse_elaboration.specs.FilesByPath.{Trees, among, Leads, stays, leads}
use Rattle.protobuf_parse_elaboration.specs.FilesByPath.{AreDistinct, AreJust}
use Rattle.protobuf_parse_elaboration.proofs.Orders.{same-text, true-false, first-among, without}
use Rattle.protobuf_parse_elaboration.proofs.Orders.{without-other}

-- ---- lists of paths

-- what stands in two lists stands in one of them
in-one : (x : Text) (xs ys : List Text) → among x (xs ++ ys) ≡ true
    → (among x xs ≡ true) ⊎ (among x ys ≡ true)
in-one x xs ys h = or_cases (among x xs) (among x ys)
    (sym (list_any-append (λ (y : Text). bytes_eq x y) xs ys) ∙ h)

-- what stands in the first of two lists stands in both together
in-first : (x : Text) (xs ys : List Text) → among x xs ≡ true → among x (xs ++ ys) ≡ true
in-first x xs ys h = list_any-append (λ (y : Text). bytes_eq x y) xs ys
    ∙ or_left (among x xs) (among x ys) h

-- and so does what stands in the second
in-second : (x : Text) (xs ys : List Text) → among x ys ≡ true → among x (xs ++ ys) ≡ true
in-second x xs ys h = list_any-append (λ (y : Text). bytes_eq x y) xs ys
    ∙ or_right (among x xs) (among x ys) h

-- what stands in the lists of some paths stands in the list of one of them
flat-in : (f : Text → List Text) (x : Text) (ps : List Text) → among x (flat_map f ps) ≡ true
    → (p : Text) × (among p ps ≡ true) × (among x (f p) ≡ true)
flat-in f x [] h = absurd (true-false false h refl)
flat-in f x (p ∷ ps) h =
    elim (in-one x (f p) (flat_map f ps) h) [
      | inl w ↦ (p, first-among p ps, w)
      | inr w ↦ let r = flat-in f x ps w in (r.0, or_right (bytes_eq r.0 p) (among r.0 ps) r.1, r.2)
    ]

-- what stands in the list of one of the paths stands in the lists of all
flat-from : (f : Text → List Text) (x p : Text) (ps : List Text) → among p ps ≡ true
    → among x (f p) ≡ true → among x (flat_map f ps) ≡ true
flat-from f x p [] h k = absurd (true-false false h refl)
flat-from f x p (q ∷ ps) h k =
    elim (or_cases (bytes_eq p q) (among p ps) h) [
      | inl w ↦ in-first x (f q) (flat_map f ps)
          (subst (λ (z : Text). among x (f z) ≡ true) (same-text p q w) k)
      | inr w ↦ in-second x (f q) (flat_map f ps) (flat-from f x p ps w k)
    ]

-- a list is shorter without one of its paths
shorter-without : (p : Text) (ys : List Text) → among p ys ≡ true
    → length (without p ys) < length ys
shorter-without p [] h = absurd (true-false false h refl)
shorter-without p (y ∷ ys) h = at (bytes_eq p y) h (shorter-without p ys)
  where
    at : (b : Bool) → (b || among p ys) ≡ true
        → (among p ys ≡ true → length (without p ys) < length ys)
        → length (cond b ys (y ∷ without p ys)) < length (y ∷ ys)
    at true k rest = omega arith
    at false k rest = let less : length (without p ys) < length ys = rest k in omega arith

-- one of the paths isn't in the list
record Missing (paths got : List Text) : Type 0 where
  path : Text
  stands : among path paths ≡ true
  misses : among path got ≡ false

-- one of the paths isn't in the list, or all are
missing-or : (paths got : List Text) → Missing paths got
    ⊎ ((x : Text) → among x paths ≡ true → among x got ≡ true)
missing-or [] got = inr (λ x h. absurd (true-false false h refl))
missing-or (y ∷ ys) got = at (cases_Bool (among y got)) (missing-or ys got)
  where
    each : among y got ≡ true → ((x : Text) → among x ys ≡ true → among x got ≡ true) → (x : Text)
        → (bytes_eq x y ≡ true) ⊎ (among x ys ≡ true) → among x got ≡ true
    each e others x (inl w) = subst (λ (z : Text). among z got ≡ true) (sym (same-text x y w)) e
    each e others x (inr w) = others x w

    at : (among y got ≡ true) ⊎ (among y got ≡ false)
        → Missing ys got ⊎ ((x : Text) → among x ys ≡ true → among x got ≡ true)
        → Missing (y ∷ ys) got ⊎ ((x : Text) → among x (y ∷ ys) ≡ true → among x got ≡ true)
    at (inr e) others = inl (record { path = y; stands = first-among y ys; misses = e })
    at (inl e) (inl m) =
        inl (record {
          path = m.path;
          stands =
              or_right (bytes_eq m.path y) (among m.path ys) m.stands;
          misses = m.misses;
        })
    at (inl e) (inr others) = inr (λ x h. each e others x (or_cases (bytes_eq x y) (among x ys) h))

-- ---- what files name and lead to

-- the paths that a file names, none where it has no tree
abbrev named_by : (FileSyntax → List Text) → Option FileSyntax → List Text
named_by next None = []
named_by next (Some t) = next t

-- a file that names a path has a tree
named-in : (next : FileSyntax → List Text) (o : Option FileSyntax) (x : Text)
    → among x (named_by next o) ≡ true → (t : FileSyntax) × (o ≡ Some t) × (among x (next t) ≡ true)
named-in next None x h = absurd (true-false false h refl)
named-in next (Some t) x h = (t, refl, h)

module _ (trees : Trees) (next : FileSyntax → List Text) where
  -- what leads to a file leads to what that file names
  further : (p q r : Text) (t : FileSyntax) → Leads next trees p q → trees q ≡ Some t
      → among r (next t) ≡ true → Leads next trees p r
  further p q r t (stays _) is a = leads p r r t is a (stays r)
  further p q r t (leads _ m _ u first b rest) is a =
      leads p m r u first b (further m q r t rest is a)

  -- where a list has all that its files name, it has all that they lead to
  led-in : (got : List Text)
      → ((p q : Text) (t : FileSyntax) → among p got ≡ true → trees p ≡ Some t
      → among q (next t) ≡ true → among q got ≡ true) → (p q : Text) → Leads next trees p q
      → among p got ≡ true → among q got ≡ true
  led-in got on p q (stays _) h = h
  led-in got on p q (leads _ m _ t is a rest) h = led-in got on m q rest (on p m t h is a)

-- ---- the list

module _ (trees : Trees) (next : FileSyntax → List Text) (seeds : List Text) where
  -- one of the seeds leads to the path
  abbrev Led : Text → Type 0
  Led q = (r : Text) × (among r seeds ≡ true) × Leads next trees r q

  -- the paths that the file of a path names
  abbrev named : Text → List Text
  named p = named_by next (trees p)

  -- the seeds, and what the files of a list name
  abbrev due : List Text → List Text
  due got = seeds ++ flat_map named got

  -- a path that a file of the list names is due
  due-from : (got : List Text) (p q : Text) (t : FileSyntax) → among p got ≡ true → trees p ≡ Some t
      → among q (next t) ≡ true → among q (due got) ≡ true
  due-from got p q t h is a =
      in-second q seeds (flat_map named got)
      (flat-from named q p got h
      (subst (λ (o : Option FileSyntax). among q (named_by next o) ≡ true) (sym is) a))

  -- where the seeds lead to each path of a list, they lead to what is due
  due-led : (got : List Text) → ((q : Text) → among q got ≡ true → Led q) → (q : Text)
      → among q (due got) ≡ true → Led q
  due-led got only q h =
      elim (in-one q seeds (flat_map named got) h) [
        | inl w ↦ (q, w, stays q)
        | inr w ↦
            let f = flat-in named q got w in
            let n = named-in next (trees f.0) q f.2 in
            let l = only f.0 f.1 in
            (l.0, l.1, further trees next l.0 f.0 q n.0 l.2 n.1 n.2)
      ]

  -- the seeds lead to each path of a list, which has all that they lead to but for some that are
  -- left
  record Growing (got left : List Text) : Type 0 where
    once : AreDistinct got
    only : (q : Text) → among q got ≡ true → Led q
    all : (q : Text) → Led q → (among q got ≡ true) ⊎ (among q left ≡ true)

  -- a path that is due and isn't in the list is left
  is-left : (got left : List Text) → Growing got left → (m : Missing (due got) got)
      → among m.path left ≡ true
  is-left got left g m =
      elim (g.all m.path (due-led got g.only m.path m.stands)) [
        | inl w ↦ absurd (true-false (among m.path got) w m.misses)
        | inr w ↦ w
      ]

  -- a path that is due and isn't in the list can join it
  grown : (got left : List Text) → Growing got left → (m : Missing (due got) got)
      → Growing (m.path ∷ got) (without m.path left)
  grown got left g m = record {
    once = (m.misses, g.once);
    only = λ q h. from q (or_cases (bytes_eq q m.path) (among q got) h);
    all = λ q l. to q (cases_Bool (bytes_eq q m.path)) (g.all q l);
  }
    where
      from : (q : Text) → (bytes_eq q m.path ≡ true) ⊎ (among q got ≡ true) → Led q
      from q (inl w) = subst (λ (z : Text). Led z) (sym (same-text q m.path w))
          (due-led got g.only m.path m.stands)
      from q (inr w) = g.only q w

      to : (q : Text) → (bytes_eq q m.path ≡ true) ⊎ (bytes_eq q m.path ≡ false)
          → (among q got ≡ true) ⊎ (among q left ≡ true)
          → (among q (m.path ∷ got) ≡ true) ⊎ (among q (without m.path left) ≡ true)
      to q (inl w) k = inl (or_left (bytes_eq q m.path) (among q got) w)
      to q (inr w) (inl k) = inl (or_right (bytes_eq q m.path) (among q got) k)
      to q (inr w) (inr k) = inr (without-other q m.path left w ∙ k)

  -- a list that has all that is due is the one
  full : (got left : List Text) → Growing got left
      → ((q : Text) → among q (due got) ≡ true → among q got ≡ true) → AreJust Led got
  full got left g has = record {
    once = g.once;
    only = g.only;
    all = λ q l. led-in trees next got (λ p m t h is a. has m (due-from got p m t h is a)) l.0 q l.2
        (has l.0 (in-first l.0 seeds (flat_map named got) l.1));
  }

  -- the list grows until it has all that is due, as fewer paths are left each time
  grow : (n : ℕ) (got left : List Text) → length left ≤ n → Growing got left
      → (ps : List Text) × AreJust Led ps
  grow zero got left fits g =
      elim (missing-or (due got) got) [
        | inl m ↦
            let less : length (without m.path left)
            < length left = shorter-without m.path left (is-left got left g m) in
            absurd (omega arith)
        | inr has ↦ (got, full got left g has)
      ]
  grow (suc n) got left fits g =
      elim (missing-or (due got) got) [
        | inl m ↦
            let less : length (without m.path left)
            < length left = shorter-without m.path left (is-left got left g m) in
            grow n (m.path ∷ got) (without m.path left) (omega arith) (grown got left g m)
        | inr has ↦ (got, full got left g has)
      ]

  -- all that the seeds lead to is due where the list has each path with a tree
  bounded : (paths : List Text)
      → ((p : Text) (t : FileSyntax) → trees p ≡ Some t → among p paths ≡ true) → (q : Text) → Led q
      → among q (due paths) ≡ true
  bounded paths has q l =
      let on = λ (p m : Text) (t : FileSyntax) (h : among p (due paths) ≡ true)
      (is : trees p ≡ Some t) (a : among m (next t) ≡ true). due-from paths p m t
      (has p t is) is a in
      led-in trees next (due paths) on l.0 q l.2 (in-first l.0 seeds (flat_map named paths) l.1)

  -- the empty list can grow to all that the seeds lead to
  start : (paths : List Text)
      → ((p : Text) (t : FileSyntax) → trees p ≡ Some t → among p paths ≡ true)
      → Growing [] (due paths)
  start paths has = record {
    once = tt;
    only = λ q h. absurd (true-false false h refl);
    all = λ q l. inr (bounded paths has q l);
  }

-- All that the seeds lead to is the paths of a list.
pub closed : (trees : Trees) (paths : List Text) (next : FileSyntax → List Text) (seeds : List Text)
    → ((p : Text) (t : FileSyntax) → trees p ≡ Some t → among p paths ≡ true)
    → (ps : List Text)
    × AreJust (λ (q : Text). (r : Text) × (among r seeds ≡ true) × Leads next trees r q) ps
closed trees paths next seeds has =
    grow trees next seeds (length (due trees next seeds paths)) [] (due trees next seeds paths)
    (omega arith) (start trees next seeds paths has)
