-- On events, and on keeping the first of equal ones.
use Rattle.std.proofs.Common.{◌≡◌, Bool, true, false, cond, ◌||◌, ◌⊎◌, inl, inr, List, [], ◌∷◌}
use Rattle.std.proofs.Common.{◌++◌, Option, Some, None, refl, sym, ◌∙◌, ap, append_assoc}
use Rattle.std.proofs.Common.{append-nil, find}
use Rattle.std.proofs.lemmas.Bool.{eqb-true, eq-eqb}
use Rattle.std.proofs.lemmas.List.Folds.{list_any-append}
use Rattle.std.proofs.lemmas.Slice.Eq.{bytes_eq-Decides}
use Rattle.std.specs.Prelude.{bytes_eq}
use Rattle.protobuf_parse_model.specs.Descriptors.{Text}
use Rattle.protobuf_parse_run.specs.Walks.{the_reader, Event, cycle, long, load, check, elab}
use Rattle.protobuf_parse_run.specs.Walks.{same_event, has}
use Rattle.protobuf_parse_run.specs.Walks.{keep, among, reads_in, elab_paths}
use Rattle.protobuf_parse_run.specs.Loading.{Within, Apart}

pub text-true : (p q : Text) → bytes_eq p q ≡ true → p ≡ q
text-true p q h = (bytes_eq-Decides p q).0 h

pub text-same : (p : Text) → bytes_eq p p ≡ true
text-same p = (bytes_eq-Decides p p).1 refl

-- facts on plain values, for proofs that have many hypotheses
pub never_both : (b : Bool) → b ≡ true → b ≡ false → ⊥
never_both b h k = cc

pub false_true : false ≡ true → ⊥
false_true h = cc

pub some_same : {A : Type 0} (a b : A) → Some a ≡ Some b → a ≡ b
some_same a b h = cc

pub first_same : {A : Type 0} {x y : A} {xs ys : List A} → x ∷ xs ≡ y ∷ ys → x ≡ y
first_same h = cc

pub rest_same : {A : Type 0} {x y : A} {xs ys : List A} → x ∷ xs ≡ y ∷ ys → xs ≡ ys
rest_same h = cc

pub none_some : {A : Type 0} (a : A) → ◌≡◌ {A = Option A} None (Some a) → ⊥
none_some a h = cc

pub same-refl : (x : Event) → same_event x x ≡ true
same-refl (cycle p) = text-same p
same-refl (long p) = text-same p
same-refl (load a p) = text-same p
same-refl (check n f p) = eq-eqb n n refl
same-refl (elab p) = text-same p

-- equal events are equal to the same ones
pub same-like : (x e y : Event) → same_event x e ≡ true → same_event e y ≡ same_event x y
same-like (cycle p) (cycle q) y h = let z : cycle p ≡ cycle q = ap cycle (text-true p q h) in
    rw z refl
same-like (long p) (long q) y h = let z : long p ≡ long q = ap long (text-true p q h) in rw z refl
same-like (elab p) (elab q) y h = let z : elab p ≡ elab q = ap elab (text-true p q h) in rw z refl
same-like (load a p) (load b q) (load c r) h = let z = text-true p q h in rw z refl
same-like (load a p) (load b q) (cycle r) h = refl
same-like (load a p) (load b q) (long r) h = refl
same-like (load a p) (load b q) (check n f r) h = refl
same-like (load a p) (load b q) (elab r) h = refl
same-like (check n f p) (check m g q) (check k h r) e = let z = eqb-true n m e in rw z refl
same-like (check n f p) (check m g q) (cycle r) h = refl
same-like (check n f p) (check m g q) (long r) h = refl
same-like (check n f p) (check m g q) (load a r) h = refl
same-like (check n f p) (check m g q) (elab r) h = refl
same-like _ _ y h = cc

pub same-long : (i : Text) (x : Event) → same_event x (long i) ≡ true → x ≡ long i
same-long i (long p) h = ap long (text-true p i h)
same-long i _ h = cc

pub long-same : (i : Text) (x : Event) → same_event (long i) x ≡ true → x ≡ long i
long-same i (long p) h = sym (ap long (text-true i p h))
long-same i _ h = cc

pub cycle-same : (i : Text) (x : Event) → same_event (cycle i) x ≡ true → x ≡ cycle i
cycle-same i (cycle p) h = sym (ap cycle (text-true i p h))
cycle-same i _ h = cc

pub or_cases : (a b : Bool) → (a || b) ≡ true → (a ≡ true) ⊎ (b ≡ true)
or_cases true b h = inl refl
or_cases false b h = inr h

pub or_left : (a b : Bool) → a ≡ true → (a || b) ≡ true
or_left true b h = refl
or_left false b h = cc

pub or_right : (a b : Bool) → b ≡ true → (a || b) ≡ true
or_right true b h = refl
or_right false b h = h

pub bool_cases : (a : Bool) → (a ≡ true) ⊎ (a ≡ false)
bool_cases true = inl refl
bool_cases false = inr refl

pub not_true : (b : Bool) → (b ≡ true → ⊥) → b ≡ false
not_true true h = absurd (h refl)
not_true false h = refl

pub has-append : (e : Event) (xs ys : List Event) → has e (xs ++ ys) ≡ (has e xs || has e ys)
has-append e xs ys = list_any-append (λ x. same_event e x) xs ys

pub has-in : (e : Event) (xs ys : List Event) → has e (xs ++ ys) ≡ true
    → (has e xs ≡ true) ⊎ (has e ys ≡ true)
has-in e xs ys h = or_cases _ _ (sym (has-append e xs ys) ∙ h)

pub has-left : (e : Event) (xs ys : List Event) → has e xs ≡ true → has e (xs ++ ys) ≡ true
has-left e xs ys h = has-append e xs ys ∙ or_left _ _ h

pub has-right : (e : Event) (xs ys : List Event) → has e ys ≡ true → has e (xs ++ ys) ≡ true
has-right e xs ys h = has-append e xs ys ∙ or_right _ _ h

pub has-one : (e x : Event) → has e (x ∷ []) ≡ true → same_event e x ≡ true
has-one e x h = elim (or_cases (same_event e x) false h) [ inl w ↦ w | inr w ↦ cc ]

pub has-one-long : (e : Event) (i : Text) → has e (long i ∷ []) ≡ true → e ≡ long i
has-one-long e i h = same-long i e (has-one e (long i) h)

pub has-here : (e : Event) (xs : List Event) → has e (e ∷ xs) ≡ true
has-here e xs = or_left _ _ (same-refl e)

pub has-last : (e : Event) (xs : List Event) → has e (xs ++ e ∷ []) ≡ true
has-last e xs = has-right e xs (e ∷ []) (has-here e [])

pub has-like : (x e : Event) (xs : List Event) → same_event x e ≡ true → has e xs ≡ has x xs
has-like x e [] h = refl
has-like x e (y ∷ ys) h = rw (same-like x e y h, has-like x e ys h) refl

pub keep-append : (kept xs ys : List Event) → keep kept (xs ++ ys) ≡ keep (keep kept xs) ys
keep-append kept [] ys = refl
keep-append kept (x ∷ xs) ys = keep-append (cond (has x kept) kept (kept ++ x ∷ [])) xs ys

pub keep-extends : (kept xs : List Event) → (more : List Event) × (keep kept xs ≡ kept ++ more)
keep-extends kept [] = ([], sym (append-nil kept))
keep-extends kept (x ∷ xs) =
    elim (has x kept) as (λ b. (more : List Event)
    × (keep (cond b kept (kept ++ x ∷ [])) xs ≡ kept ++ more)) [
      | true ↦ keep-extends kept xs
      | false ↦ let r = keep-extends (kept ++ x ∷ []) xs in
          (x ∷ r.0, r.1 ∙ append_assoc kept (x ∷ []) r.0)
    ]

-- what is kept already adds nothing
pub keep-all : (kept xs : List Event) → Within xs kept → keep kept xs ≡ kept
keep-all kept [] h = refl
keep-all kept (x ∷ xs) h =
    let t : has x kept ≡ true = h x (has-here x xs) in
    rw t (keep-all kept xs (λ e w. h e (or_right _ _ w)))

-- all is kept but for a chain that is too long, which there is
pub keep-but_long : (kept xs : List Event) (i : Text) → has (long i) kept ≡ false
    → has (long i) xs ≡ true → ((e : Event) → has e xs ≡ true → (has e kept ≡ true) ⊎ (e ≡ long i))
    → keep kept xs ≡ kept ++ long i ∷ []
keep-but_long kept [] i n h each = cc
keep-but_long kept (x ∷ xs) i n h each =
    elim (each x (has-here x xs)) [
      | inl w ↦
          rw w (keep-but_long kept xs i n
          (elim (or_cases (same_event (long i) x) (has (long i) xs) h) [
            | inl v ↦ absurd (let q = long-same i x v in
                let z : has (long i) kept ≡ true = rw (← q) w in cc)
            | inr v ↦ v
          ])
          (λ e v. each e (or_right _ _ v)))
      | inr w ↦
          let z : has x kept ≡ false = rw w n in
          rw (z, w) (keep-all (kept ++ long i ∷ []) xs
          (λ e v. elim (each e (or_right _ _ v))
          [ inl u ↦ has-left e kept (long i ∷ []) u | inr u ↦ rw u (has-last (long i) kept) ]))
    ]

pub keep-fresh : (kept xs : List Event) (e : Event) → has e kept ≡ false
    → keep kept (e ∷ xs) ≡ keep (kept ++ e ∷ []) xs
keep-fresh kept xs e h = rw h refl

pub reads_in-append : (xs ys : List Event) → reads_in (xs ++ ys) ≡ reads_in xs ++ reads_in ys
reads_in-append [] ys = refl
reads_in-append (load a p ∷ xs) ys =
    ap (λ z. record { asked = a; path = p } ∷ z) (reads_in-append xs ys)
reads_in-append (check n f p ∷ xs) ys =
    ap (λ z. record { asked = the_reader f; path = p } ∷ z) (reads_in-append xs ys)
reads_in-append (cycle p ∷ xs) ys = reads_in-append xs ys
reads_in-append (long p ∷ xs) ys = reads_in-append xs ys
reads_in-append (elab p ∷ xs) ys = reads_in-append xs ys

pub elab_paths-append : (xs ys : List Event)
    → elab_paths (xs ++ ys) ≡ elab_paths xs ++ elab_paths ys
elab_paths-append [] ys = refl
elab_paths-append (elab p ∷ xs) ys = ap (λ z. p ∷ z) (elab_paths-append xs ys)
elab_paths-append (_ ∷ xs) ys = elab_paths-append xs ys

pub has-elab : (p : Text) (xs : List Event) → has (elab p) xs ≡ among p (elab_paths xs)
has-elab p [] = refl
has-elab p (elab q ∷ xs) = ap (λ z. bytes_eq p q || z) (has-elab p xs)
has-elab p (cycle q ∷ xs) = has-elab p xs
has-elab p (long q ∷ xs) = has-elab p xs
has-elab p (load a q ∷ xs) = has-elab p xs
has-elab p (check n f q ∷ xs) = has-elab p xs

pub among-append : (p : Text) (xs ys : List Text) → among p (xs ++ ys) ≡ (among p xs || among p ys)
among-append p xs ys = list_any-append (λ x. bytes_eq p x) xs ys

pub among-last : (p : Text) (xs : List Text) → among p (xs ++ p ∷ []) ≡ true
among-last p xs = among-append p xs (p ∷ []) ∙ or_right _ _ (or_left _ _ (text-same p))

pub among-left : (p : Text) (xs ys : List Text) → among p xs ≡ true → among p (xs ++ ys) ≡ true
among-left p xs ys h = among-append p xs ys ∙ or_left _ _ h

pub among-in : (p q : Text) (xs : List Text) → among p (xs ++ q ∷ []) ≡ true
    → (among p xs ≡ true) ⊎ (p ≡ q)
among-in p q xs h =
    elim (or_cases (among p xs) _ (sym (among-append p xs (q ∷ [])) ∙ h)) [
      | inl w ↦ inl w
      | inr w ↦ elim (or_cases (bytes_eq p q) false w)
          [ inl v ↦ inr (text-true p q v) | inr v ↦ cc ]
    ]

pub find-none : (test : Event → Bool) (xs ys : List Event) → find test xs ≡ None
    → find test ys ≡ None → find test (xs ++ ys) ≡ None
find-none test [] ys h k = k
find-none test (x ∷ xs) ys h k =
    elim (bool_cases (test x)) [
      | inl w ↦ absurd (let z : Some x ≡ None = (rw w at h) in cc)
      | inr w ↦ let z : find test xs ≡ None = (rw w at h) in rw w (find-none test xs ys z k)
    ]

-- what fails is not among what doesn't, where it equals no other event
pub clean-has : (test : Event → Bool) (xs : List Event) (e : Event)
    → ((x : Event) → same_event e x ≡ true → x ≡ e) → find test xs ≡ None → test e ≡ true
    → has e xs ≡ false
clean-has test [] e alone h t = refl
clean-has test (x ∷ xs) e alone h t =
    elim (bool_cases (test x)) [
      | inl w ↦ absurd (let z : Some x ≡ None = (rw w at h) in cc)
      | inr w ↦
          let z : find test xs ≡ None = (rw w at h) in
          let n : same_event e x ≡ false = not_true _ (λ v. let q = alone x v in
          let r : test x ≡ true = rw q t in cc) in
          rw n (clean-has test xs e alone z t)
    ]

pub Apart-within : (small large : List Event) (chain : List Text) → Within small large
    → Apart large chain → Apart small chain
Apart-within small large chain w a p h =
    not_true _ (λ v. let z = w (elab p) v in let y = a p h in cc)
