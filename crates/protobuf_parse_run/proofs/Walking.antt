-- What the loader's steps do to the events kept so far.
use Rattle.std.proofs.Common.{◌≡◌, ℕ, zero, suc, true, false, ◌||◌, ◌<◌, ◌≤◌, ◌⊎◌, inl, inr, List}
use Rattle.std.proofs.Common.{[], ◌∷◌, ◌++◌, Some, refl, sym, ◌∙◌, ap, append_assoc, max, arith}
use Rattle.std.proofs.Common.{nat_lt}
use Rattle.std.proofs.lemmas.Bool.Decides.{nat_tests}
use Rattle.protobuf_parse_syntax.specs.Trees.{FileSyntax}
use Rattle.protobuf_parse_model.specs.Descriptors.{Text}
use Rattle.protobuf_parse_run.specs.Walks.{Asked, the_resolver, Event, cycle, long, load, elab}
use Rattle.protobuf_parse_run.specs.Walks.{same_event}
use Rattle.protobuf_parse_run.specs.Walks.{has, among, Trees, import_paths, walks_joined}
use Rattle.protobuf_parse_run.specs.Walks.{events_inside}
use Rattle.protobuf_parse_run.specs.Walks.{walk}
use Rattle.protobuf_parse_run.specs.Loading.{Within, Apart, Settled, WalkShape, path_shape}
use Rattle.protobuf_parse_run.specs.Loading.{imports_shape}
use Rattle.protobuf_parse_run.proofs.Keeping.{text-same, or_cases, not_true, has-append, has-in}
use Rattle.protobuf_parse_run.proofs.Keeping.{has-left, has-right, has-one-long, has-last, has-like}
use Rattle.protobuf_parse_run.proofs.Keeping.{among-in, Apart-within}

-- the walk, by cases
pub walk-on_chain : (trees : Trees) (i : Text) (a : Asked) (room : ℕ) (chain : List Text) (p : Text)
    → among p chain ≡ true → walk trees i a room chain p ≡ cycle p ∷ []
unfolding walk
walk-on_chain trees i a zero chain p h = rw h refl
walk-on_chain trees i a (suc room) chain p h = rw h refl

pub walk-no_room : (trees : Trees) (i : Text) (a : Asked) (chain : List Text) (p : Text)
    → among p chain ≡ false → walk trees i a 0 chain p ≡ long i ∷ []
unfolding walk
walk-no_room trees i a chain p h = rw h refl

pub walk-load : (trees : Trees) (i : Text) (a : Asked) (room : ℕ) (chain : List Text) (p : Text)
    → among p chain ≡ false → walk trees i a (suc room) chain p ≡ load a p
    ∷ events_inside (trees p) (walk trees i the_resolver room (chain ++ p ∷ [])) p
unfolding walk
walk-load trees i a room chain p h = rw h refl

pub joined-append : (f : Text → List Event) (xs ys : List Text)
    → walks_joined f (xs ++ ys) ≡ walks_joined f xs ++ walks_joined f ys
joined-append f [] ys = refl
joined-append f (x ∷ xs) ys = ap (λ z. f x ++ z) (joined-append f xs ys)
    ∙ sym (append_assoc (f x) (walks_joined f xs) (walks_joined f ys))

-- ** settled walks

pub settled-nil : (kept : List Event) → Settled kept 0 (λ i a room c. [])
settled-nil kept = record {
  before = [];
  within = λ e h. cc;
  only = λ i a room c s e h. cc;
  tall = λ i a room c s. sym (grind (arith, nat_tests));
}

-- a test of two numbers
pub lt_yes : (r h : ℕ) → r < h → nat_lt r h ≡ true
lt_yes r h lt = grind (arith, nat_tests)

pub lt_no : (r h : ℕ) → h ≤ r → nat_lt r h ≡ false
lt_no r h le = grind (arith, nat_tests)

lt_max : (r m h : ℕ) → (nat_lt r m || nat_lt r h) ≡ nat_lt r (max m h)
lt_max r m h = grind (arith, nat_tests)

pub settled-join : (kept more : List Event) (m h : ℕ) (f g : WalkShape) → Settled kept m f
    → Settled more h g → Within kept more
    → Settled more (max m h) (λ i a room c. f i a room c ++ g i a room c)
settled-join kept more m h f g s t w = record {
  before = s.before ++ t.before;
  within = λ e v. elim (has-in e s.before t.before v)
      [ inl u ↦ w e (s.within e u) | inr u ↦ t.within e u ];
  only = λ i b room c a e v. elim (has-in e (f i b room c) (g i b room c) v) [
    | inl u ↦ elim
        (s.only i b room c
        (Apart-within s.before (s.before ++ t.before) c (λ x y. has-left x s.before t.before y) a) e
        u) [ inl x ↦ inl (w e x) | inr x ↦ inr x ]
    | inr u ↦ t.only i b room c
        (Apart-within t.before (s.before ++ t.before) c (λ x y. has-right x s.before t.before y) a)
        e u
  ];
  tall = λ i b room c a.
      let x = s.tall i b room c
      (Apart-within s.before (s.before ++ t.before) c (λ x y. has-left x s.before t.before y) a)
      in
      let y = t.tall i b room c
      (Apart-within t.before (s.before ++ t.before) c
      (λ x y. has-right x s.before t.before y) a) in
      has-append (long i) (f i b room c) (g i b room c) ∙ (rw (x, y) (lt_max room m h));
}

pub settled-more : (kept more : List Event) (h : ℕ) (f : WalkShape) → Settled kept h f
    → Within kept more → Settled more h f
settled-more kept more h f s w = record {
  before = s.before;
  within = λ e v. w e (s.within e v);
  only = λ i b room c a e v. elim (s.only i b room c a e v) [ inl u ↦ inl (w e u) | inr u ↦ inr u ];
  tall = s.tall;
}

pub settled-same : (kept : List Event) (h : ℕ) (f g : WalkShape)
    → ((i : Text) (a : Asked) (room : ℕ) (c : List Text) → g i a room c ≡ f i a room c)
    → Settled kept h f → Settled kept h g
settled-same kept h f g alike s = record {
  before = s.before;
  within = s.within;
  only = λ i b room c a e v. s.only i b room c a e (rw (alike i b room c) at v);
  tall = λ i b room c a. ap (has (long i)) (alike i b room c) ∙ s.tall i b room c a;
}

-- a file whose imports are settled
module _ (trees : Trees) (kept : List Event) (p : Text) (t : FileSyntax) (h : ℕ)
    (is : trees p ≡ Some t) (s : Settled kept h (imports_shape trees (import_paths t)))
    (fresh : has (elab p) kept ≡ false) (loaded : has (load the_resolver p) kept ≡ true) where
  off_chain : (c : List Text) → Apart (s.before ++ elab p ∷ []) c → among p c ≡ false
  off_chain c a = not_true _ (λ v. let x = a p v in let y = has-last (elab p) s.before in cc)

  below_apart : (c : List Text) → Apart (s.before ++ elab p ∷ []) c → Apart s.before (c ++ p ∷ [])
  below_apart c a q v = elim (among-in q p c v) [
    | inl u ↦ not_true _ (λ x. let y = a q u in
        let z = has-left (elab q) s.before (elab p ∷ []) x in cc)
    | inr u ↦ rw u (not_true _ (λ x. let y = s.within (elab p) x in cc))
  ]

  walk-opened : (i : Text) (b : Asked) (room : ℕ) (c : List Text)
      → Apart (s.before ++ elab p ∷ []) c
      → walk trees i b (suc room) c p ≡ load b p
      ∷ (walks_joined (walk trees i the_resolver room (c ++ p ∷ [])) (import_paths t)
      ++ elab p ∷ [])
  walk-opened i b room c a = walk-load trees i b room c p (off_chain c a) ∙ (rw is refl)

  file_only : (i : Text) (b : Asked) (room : ℕ) (c : List Text) → Apart (s.before ++ elab p ∷ []) c
      → (e : Event) → has e (walk trees i b room c p) ≡ true
      → (has e (kept ++ elab p ∷ []) ≡ true) ⊎ (e ≡ long i)
  file_only i b zero c a e v =
      inr (has-one-long e i (rw (walk-no_room trees i b c p (off_chain c a)) at v))
  file_only i b (suc room) c a e v =
      let u = (rw (walk-opened i b room c a) at v) in
      elim (or_cases (same_event e (load b p)) _ u) [
        | inl x ↦ inl
            (has-left e kept (elab p ∷ [])
            (sym (has-like e (load the_resolver p) kept (same-asked e b x)) ∙ loaded))
        | inr x ↦ elim
            (has-in e (walks_joined (walk trees i the_resolver room (c ++ p ∷ [])) (import_paths t))
            (elab p ∷ []) x) [
              | inl y ↦ elim (s.only i b room (c ++ p ∷ []) (below_apart c a) e y)
                  [ inl z ↦ inl (has-left e kept (elab p ∷ []) z) | inr z ↦ inr z ]
              | inr y ↦ inl (has-right e kept (elab p ∷ []) y)
            ]
      ]
    where
      same-asked : (e : Event) (b : Asked) → same_event e (load b p) ≡ true
          → same_event e (load the_resolver p) ≡ true
      same-asked (load c q) b h = h
      same-asked _ b h = cc

  file_tall : (i : Text) (b : Asked) (room : ℕ) (c : List Text) → Apart (s.before ++ elab p ∷ []) c
      → has (long i) (walk trees i b room c p) ≡ nat_lt room (suc h)
  file_tall i b zero c a =
      rw (walk-no_room trees i b c p (off_chain c a)) (rw (text-same i) (grind (arith, nat_tests)))
  file_tall i b (suc room) c a =
      let x = s.tall i b room (c ++ p ∷ []) (below_apart c a) in
      rw (walk-opened i b room c a)
      (rw (
        has-append (long i)
            (walks_joined (walk trees i the_resolver room (c ++ p ∷ [])) (import_paths t))
            (elab p ∷ []),
        x,
      ) (grind (arith, nat_tests)))

  pub settled-file : Settled (kept ++ elab p ∷ []) (suc h) (path_shape trees p)
  settled-file = record {
    before = s.before ++ elab p ∷ [];
    within = λ e v. elim (has-in e s.before (elab p ∷ []) v) [
      | inl u ↦ has-left e kept (elab p ∷ []) (s.within e u)
      | inr u ↦ has-right e kept
          (elab p ∷ []) u
    ];
    only = file_only;
    tall = file_tall;
  }
