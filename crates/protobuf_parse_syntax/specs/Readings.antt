-- No public clause rests on this file.
-- Readers that the grammar of this language needs beside those of the grammar crate: of what is
-- nowhere, of a relation said otherwise, of a part that is looked at only where it can begin, of one
-- that is wrong from its first token on or at some tokens, of a value that is found by a test, and
-- of at most so many parts.
use Rattle.std.proofs.Common.{◌≡◌, ◌≤◌, ℕ, suc, List, [], ◌∷◌, ◌++◌, length, Option, Some, Bool}
use Rattle.std.proofs.Common.{true, false, cond, refl, sym, ap, subst, ◌∙◌, inl, inr, arith}
use Rattle.std.proofs.lemmas.List.{append-nil}
use Rattle.protobuf_parse_grammar.specs.Relations.{Rel, Nothing, Such, Never, Either, Many, none}
use Rattle.protobuf_parse_grammar.specs.Relations.{more, ◌>>=◌}
use Rattle.protobuf_parse_grammar.specs.Restrictions.{Meant}
use Rattle.protobuf_parse_grammar.specs.Readers.{Rest, end, token, onto, size, Read, read, stuck}
use Rattle.protobuf_parse_grammar.specs.Readers.{stopped, wrong}
use Rattle.protobuf_parse_grammar.specs.Readers.{Lexicon, Shape, shape, Sound, Reader, LocalAt}
use Rattle.protobuf_parse_grammar.specs.Readers.{LocalStuck, starts, deep, all_apart}
use Rattle.protobuf_parse_grammar.specs.Combinators.{run_choose, choose-local, pick}
use Rattle.protobuf_parse_grammar.specs.Combinators.{pick-local-at}
use Rattle.protobuf_parse_grammar.specs.Readers.{begins-starts, begins-apart, starts-next}
use Rattle.protobuf_parse_grammar.specs.Readers.{stuck_not_read}
use Rattle.protobuf_parse_grammar.specs.Conditions.{meant}
use Rattle.protobuf_parse_grammar.specs.Depth.{Near, NearAt, near-choose, near_same}
use Rattle.protobuf_parse_grammar.specs.Pairs.{Pair}

pub never-sound : {Tok Mark A : Type 0} (ts : Rest Tok Mark) (a : A) (rest : Rest Tok Mark)
    → (let r : Read Tok Mark A = stuck ts in r ≡ read a rest) → Sound Never ts a rest
never-sound ts a rest e = absurd cc

pub never-shallow : {Tok Mark A : Type 0} (ts : Rest Tok Mark)
    → (let r : Read Tok Mark A = stuck ts in r ≡ deep) → ⊥
never-shallow ts e = cc

module _ {Tok Mark Class : Type 0} {L : Lexicon Tok Mark Class} where
  -- what stands nowhere
  abbrev pub never : {A : Type 0} → Reader L {A = A} Never (shape [] false [])
  never = record {
    run = λ ts. stuck ts;
    local = λ ts.
        record {
          used = [];
          parts = refl;
          front = [];
          ends = refl;
          again =
              λ other e a us h. stuck_not_read (stuck other) other a us refl h;
        };
    sound = never-sound;
    complete = λ f used a rest h e. absurd h;
    begins = λ used a h. absurd h;
    shallow = λ n ts e. never-shallow ts e;
  }

  -- the reader of a relation, for another that holds of the same
  abbrev pub for : {A : Type 0} {R S : List Tok → A → Type 0} {s : Shape Class}
      → ((ts : List Tok) (a : A) → R ts a → S ts a) → ((ts : List Tok) (a : A) → S ts a → R ts a)
      → Reader L R s → Reader L S s
  for to from p = record {
    run = p.run;
    local = p.local;
    sound = λ ts a rest e. let l = p.sound ts a rest e in
        record { used = l.used; parts = l.parts; holds = to l.used a l.holds };
    complete = λ f used a rest h e. p.complete f used a rest (from used a h) e;
    begins = λ used a h. p.begins used a (from used a h);
    shallow = p.shallow;
  }

module _ {Tok Mark Class A : Type 0} {L : Lexicon Tok Mark Class} {R : List Tok → A → Type 0}
    {s : Shape Class} (p : Reader L R s) where
  abbrev pub run_begun : Rest Tok Mark → Read Tok Mark A
  run_begun ts = run_choose p never ts

  pub begun-sound : (ts : Rest Tok Mark) (a : A) (rest : Rest Tok Mark) → run_begun ts ≡ read a rest
      → Sound R ts a rest
  begun-sound ts a rest e = go (starts L s.firsts ts) e
    where
      go : (b : Bool) → cond b (p.run ts) (stuck ts) ≡ read a rest → Sound R ts a rest
      go true e = p.sound ts a rest e
      go false e = absurd cc

  pub begun-shallow : s.nests ≡ false → (ts : Rest Tok Mark) → run_begun ts ≡ deep → ⊥
  begun-shallow n ts e = go (starts L s.firsts ts) e
    where
      go : (b : Bool) → cond b (p.run ts) (stuck ts) ≡ deep → ⊥
      go true e = p.shallow n ts e
      go false e = cc

  pub begun-complete : s.empty ≡ false → s.fine ≡ true
      → (used : List Tok) (a : A) (rest : Rest Tok Mark) → R used a → starts L s.goes rest ≡ false
      → run_begun (onto used rest) ≡ read a rest
  begun-complete some f used a rest h e =
      rw (begins-starts L s.firsts s.empty used rest some (p.begins used a h))
      (p.complete f used a rest h e)

  -- a part, which is not empty, that is looked at only where it can begin
  abbrev pub begun_reader : s.empty ≡ false → Reader L R s
  begun_reader some =
      record {
        run = run_begun;
        local = choose-local p never;
        sound = begun-sound;
        complete =
            begun-complete some;
        begins = p.begins;
        shallow = begun-shallow;
      }

-- what is wrong somewhere is wrong from here on
abbrev pub wrong_from : {Tok Mark A : Type 0} → Rest Tok Mark → Read Tok Mark A → Read Tok Mark A
wrong_from ts (read a us) = read a us
wrong_from ts (stopped before us) = stopped before us
wrong_from ts (wrong us) = wrong ts
wrong_from ts deep = deep

pub wrong_from-read : {Tok Mark A : Type 0} (ts : Rest Tok Mark) (r : Read Tok Mark A) (a : A)
    (us : Rest Tok Mark) → wrong_from ts r ≡ read a us → r ≡ read a us
wrong_from-read ts (read b vs) a us e = e
wrong_from-read ts (stopped before vs) a us e = absurd cc
wrong_from-read ts (wrong vs) a us e = absurd cc
wrong_from-read ts deep a us e = absurd cc

pub wrong_from-deep : {Tok Mark A : Type 0} (ts : Rest Tok Mark) (r : Read Tok Mark A)
    → wrong_from ts r ≡ deep → r ≡ deep
wrong_from-deep ts (read b vs) e = absurd cc
wrong_from-deep ts (stopped before vs) e = absurd cc
wrong_from-deep ts (wrong vs) e = absurd cc
wrong_from-deep ts deep e = refl

module _ {Tok Mark Class A : Type 0} {L : Lexicon Tok Mark Class} {R : List Tok → A → Type 0}
    {s : Shape Class} (p : Reader L R s) where
  abbrev pub run_from_first : Rest Tok Mark → Read Tok Mark A
  run_from_first ts = wrong_from ts (p.run ts)

  pub from_first-local-at : (ts : Rest Tok Mark) (r : Read Tok Mark A) → LocalAt p.run ts r
      → LocalAt run_from_first ts (wrong_from ts r)
  from_first-local-at ts (read a rest) l =
      record { used = l.used; parts = l.parts; again = λ other h. rw (l.again other h) refl }
  from_first-local-at ts (stopped before rest) l =
      record {
        used = l.used;
        parts = l.parts;
        front = l.front;
        ends = l.ends;
        again =
            λ other h a us e. l.again other h a us
            (wrong_from-read (onto l.used other) (p.run (onto l.used other)) a us e);
      }
  from_first-local-at ts (wrong rest) l = ([], refl)
  from_first-local-at ts deep l = tt

  pub from_first-complete : s.fine ≡ true → (used : List Tok) (a : A) (rest : Rest Tok Mark)
      → R used a → starts L s.goes rest ≡ false → run_from_first (onto used rest) ≡ read a rest
  from_first-complete f used a rest h e = rw (p.complete f used a rest h e) refl

  -- a part that is wrong from its first token on, if something in it is wrong
  abbrev pub from_first : Reader L R s
  from_first = record {
    run = run_from_first;
    local = λ ts. from_first-local-at ts (p.run ts) (p.local ts);
    sound = λ ts a rest e. p.sound ts a rest (wrong_from-read ts (p.run ts) a rest e);
    complete = from_first-complete;
    begins = p.begins;
    shallow = λ n ts e. p.shallow n ts (wrong_from-deep ts (p.run ts) e);
  }

-- ---- a part whose first token is told with the second

-- the first token, where the test holds of it and of those behind it
abbrev pub told_first : {Tok Mark : Type 0} → (Tok → Rest Tok Mark → Bool) → Rest Tok Mark
    → List Tok → List Tok
told_first test (end m) before = before
told_first test (token t us) before = cond (test t us) (t ∷ []) before

module _ {Tok Mark A : Type 0} (test : Tok → Rest Tok Mark → Bool) where
  abbrev pub told_with : Rest Tok Mark → Read Tok Mark A → Read Tok Mark A
  told_with ts (read a us) = read a us
  told_with ts (stopped before us) = stopped (told_first test ts before) us
  told_with ts (wrong us) = wrong us
  told_with ts deep = deep

  pub told-read : (ts : Rest Tok Mark) (r : Read Tok Mark A) (a : A) (us : Rest Tok Mark)
      → told_with ts r ≡ read a us → r ≡ read a us
  told-read ts (read b vs) a us e = e
  told-read ts (stopped before vs) a us e = absurd cc
  told-read ts (wrong vs) a us e = absurd cc
  told-read ts deep a us e = absurd cc

  pub told-deep : (ts : Rest Tok Mark) (r : Read Tok Mark A) → told_with ts r ≡ deep → r ≡ deep
  told-deep ts (read b vs) e = absurd cc
  told-deep ts (stopped before vs) e = absurd cc
  told-deep ts (wrong vs) e = absurd cc
  told-deep ts deep e = refl

size-behind : {Tok Mark : Type 0} (ws : List Tok) (us : Rest Tok Mark)
    → size us ≤ size (onto ws us)
size-behind [] us = omega arith
size-behind (w ∷ ws) us = omega (arith, size-behind ws us)

larger : {Tok Mark : Type 0} (ws : List Tok) (t : Tok) (us : Rest Tok Mark)
    → us ≡ token t (onto ws us) → ⊥
larger ws t us e = omega (arith, ap size e, size-behind ws us)

-- what lies between tokens and all but the first of them is the first
one_used : {Tok Mark : Type 0} (t : Tok) (us : Rest Tok Mark) (used : List Tok)
    → token t us ≡ onto used us → used ≡ t ∷ []
one_used t us [] e = absurd (larger [] t us (sym e))
one_used {Tok = Tok} t us (u ∷ []) e = let p : u ≡ t = cc in ap (λ (x : Tok). x ∷ []) p
one_used t us (u ∷ (v ∷ ws)) e =
    let p : us ≡ token v (onto ws us) = cc in absurd (larger ws v us p)

module _ {Tok Mark Class A : Type 0} {L : Lexicon Tok Mark Class} {R : List Tok → A → Type 0}
    {s : Shape Class} (test : Tok → Rest Tok Mark → Bool) (p : Reader L R s)
    (stops : (t : Tok) (us : Rest Tok Mark) → test t us ≡ true → p.run (token t us) ≡ stuck us)
  where
    abbrev pub run_telling : Rest Tok Mark → Read Tok Mark A
    run_telling ts = told_with test ts (p.run ts)

    -- what is told stands directly before the second token
    telling-ends : (ts : Rest Tok Mark) (before : List Tok) (rest : Rest Tok Mark)
        (l : LocalStuck p.run ts before rest) → p.run ts ≡ stopped before rest
        → (front : List Tok) × (l.used ≡ front ++ told_first test ts before)
    telling-ends (end m) before rest l e = (l.front, l.ends)
    telling-ends (token t us) before rest l e = go (test t us) refl
      where
        go : (b : Bool) → test t us ≡ b
            → (front : List Tok) × (l.used ≡ front ++ cond b (t ∷ []) before)
        go true h =
            let s = sym (stops t us h) ∙ e in
            let same : us ≡ rest = cc in
            ([], one_used t us l.used (l.parts ∙ ap (onto l.used) (sym same)))
        go false h = (l.front, l.ends)

    pub telling-local-at : (ts : Rest Tok Mark) (r : Read Tok Mark A) → p.run ts ≡ r
        → LocalAt p.run ts r → LocalAt run_telling ts (told_with test ts r)
    telling-local-at ts (read a rest) e l =
        record { used = l.used; parts = l.parts; again = λ other h. rw (l.again other h) refl }
    telling-local-at ts (stopped before rest) e l =
        let k = telling-ends ts before rest l e in
        record {
          used = l.used;
          parts = l.parts;
          front = k.0;
          ends = k.1;
          again =
              λ other h a us f. l.again other h a us
              (told-read test (onto l.used other) (p.run (onto l.used other)) a us f);
        }
    telling-local-at ts (wrong rest) e l = l
    telling-local-at ts deep e l = tt

    pub telling-complete : s.fine ≡ true → (used : List Tok) (a : A) (rest : Rest Tok Mark)
        → R used a → starts L s.goes rest ≡ false → run_telling (onto used rest) ≡ read a rest
    telling-complete f used a rest h e = rw (p.complete f used a rest h e) refl

    -- such a part: where the test holds, only the second token cannot stand there
    abbrev pub telling : Reader L R s
    telling = record {
      run = run_telling;
      local = λ ts. telling-local-at ts (p.run ts) refl (p.local ts);
      sound = λ ts a rest e. p.sound ts a rest (told-read test ts (p.run ts) a rest e);
      complete = telling-complete;
      begins = p.begins;
      shallow = λ n ts e. p.shallow n ts (told-deep test ts (p.run ts) e);
    }

-- ---- a part that is wrong at some tokens

module _ {Tok Mark Class A : Type 0} {L : Lexicon Tok Mark Class} {R : List Tok → A → Type 0}
    {s : Shape Class} (cs : List Class) (p : Reader L R s) where
  abbrev pub run_refusing : Rest Tok Mark → Read Tok Mark A
  run_refusing ts = pick (starts L cs) wrong p.run ts

  pub refusing-local : (ts : Rest Tok Mark) → LocalAt run_refusing ts (run_refusing ts)
  refusing-local ts =
      pick-local-at (starts L cs) (λ us vs h. starts-next L cs vs us h) wrong p.run ts
      (starts L cs ts) refl ([], refl) (p.local ts)

  pub refusing-sound : (ts : Rest Tok Mark) (a : A) (rest : Rest Tok Mark)
      → run_refusing ts ≡ read a rest → Sound R ts a rest
  refusing-sound ts a rest e = go (starts L cs ts) e
    where
      go : (b : Bool) → cond b (wrong ts) (p.run ts) ≡ read a rest → Sound R ts a rest
      go true e = absurd cc
      go false e = p.sound ts a rest e

  pub refusing-shallow : s.nests ≡ false → (ts : Rest Tok Mark) → run_refusing ts ≡ deep → ⊥
  refusing-shallow n ts e = go (starts L cs ts) e
    where
      go : (b : Bool) → cond b (wrong ts) (p.run ts) ≡ deep → ⊥
      go true e = cc
      go false e = p.shallow n ts e

  pub refusing-complete : s.empty ≡ false → all_apart L s.firsts cs ≡ true → s.fine ≡ true
      → (used : List Tok) (a : A) (rest : Rest Tok Mark) → R used a → starts L s.goes rest ≡ false
      → run_refusing (onto used rest) ≡ read a rest
  refusing-complete some apart f used a rest h e =
      let other = begins-apart L s.firsts cs s.empty used rest apart (p.begins used a h)
      (λ none. absurd cc) in
      rw other (p.complete f used a rest h e)

  -- a part, which is not empty: the tokens are wrong where one of these comes next, with which none
  -- begins
  abbrev pub refusing_reader : s.empty ≡ false → all_apart L s.firsts cs ≡ true → Reader L R s
  refusing_reader some apart = record {
    run = run_refusing;
    local = refusing-local;
    sound = refusing-sound;
    complete = refusing-complete some apart;
    begins = p.begins;
    shallow = refusing-shallow;
  }

-- what a part says, and then a value with a property of it
abbrev pub Finding : {Tok A B : Type 0} → Rel Tok A → (A → B → Type 0) → Rel Tok B
Finding R M = do a ← R; b ← Such (M a); Nothing b

module _ {Tok Mark Class A B : Type 0} {L : Lexicon Tok Mark Class} {R : List Tok → A → Type 0}
    {s : Shape Class} (p : Reader L R s) (M : A → B → Type 0) (means : A → Option B)
    (to : (a : A) (b : B) → means a ≡ Some b → M a b)
    (from : (a : A) (b : B) → M a b → means a ≡ Some b) where
  pub found-to : (ts : List Tok) (b : B) → Meant R means ts b → Finding R M ts b
  found-to ts b h = record {
    value = h.0;
    front = ts;
    back = [];
    first = h.1;
    parts = sym (append-nil ts);
    second =
        record {
          value = b;
          front = [];
          back = [];
          first = (refl, to h.0 b h.2);
          second = (refl, refl);
          parts = refl;
        };
  }

  pub found-from : (ts : List Tok) (b : B) → Finding R M ts b → Meant R means ts b
  found-from ts b w =
      let v = w.second in
      let x = v.first in
      let y = v.second in
      let back : w.back ≡ [] = v.parts ∙ ap (λ (z : List Tok). z ++ v.back) x.0 ∙ y.0 in
      let all : ts ≡ w.front = w.parts ∙ ap (λ (z : List Tok). w.front ++ z) back
      ∙ append-nil w.front in (
        w.value,
        subst (λ z. R z w.value) (sym all) w.first,
        from w.value b (subst (λ z. M w.value z) (sym y.1) x.1),
      )

  -- a part whose value means another, by a test that finds it; or else is wrong at its first token
  abbrev pub finding : Reader L (Finding R M) s
  finding = for found-to found-from (meant p means)

-- ---- at most so many parts

module _ {Tok Mark Class : Type 0} (A : Type 0) (L : Lexicon Tok Mark Class)
    (firsts : List Class) where
  -- Where another part begins behind the next token, the tokens are wrong from that part on; else
  -- the next cannot stand there.
  abbrev pub run_too_many : Rest Tok Mark → Read Tok Mark A
  run_too_many (end m) = stuck (end m)
  run_too_many (token t us) = cond (starts L firsts us) (wrong us) (stuck (token t us))

  pub too_many-never : (ts : Rest Tok Mark) (a : A) (rest : Rest Tok Mark)
      → run_too_many ts ≡ read a rest → ⊥
  too_many-never (end m) a rest e = cc
  too_many-never (token t us) a rest e = go (starts L firsts us) e
    where
      go : (b : Bool) → cond b (wrong us) (stuck (token t us)) ≡ read a rest → ⊥
      go true e = cc
      go false e = cc

  pub too_many-shallow : (ts : Rest Tok Mark) → run_too_many ts ≡ deep → ⊥
  too_many-shallow (end m) e = cc
  too_many-shallow (token t us) e = go (starts L firsts us) e
    where
      go : (b : Bool)
          → (let r : Read Tok Mark A = cond b (wrong us) (stuck (token t us)) in r ≡ deep) → ⊥
      go true e = cc
      go false e = cc

  too_many-stuck : (ts : Rest Tok Mark) → LocalStuck run_too_many ts [] ts
  too_many-stuck ts =
      record {
        used = [];
        parts = refl;
        front = [];
        ends = refl;
        again = λ other h a us e. too_many-never other a us e;
      }

  pub too_many-local : (ts : Rest Tok Mark) → LocalAt run_too_many ts (run_too_many ts)
  too_many-local (end m) = too_many-stuck (end m)
  too_many-local (token t us) = go (starts L firsts us)
    where
      go : (b : Bool) → LocalAt run_too_many (token t us) (cond b (wrong us) (stuck (token t us)))
      go true = (t ∷ [], refl)
      go false = too_many-stuck (token t us)

  -- a part too many, which begins behind a token of the classes
  abbrev pub too_many : (cs : List Class) → Reader L {A = A} Never (shape cs false [])
  too_many cs = record {
    run = run_too_many;
    local = too_many-local;
    sound = λ ts a rest e. absurd (too_many-never ts a rest e);
    complete = λ f used a rest h e. absurd h;
    begins = λ used a h. absurd h;
    shallow = λ n ts e. too_many-shallow ts e;
  }

module _ {Tok A : Type 0} (R : List Tok → A → Type 0) where
  abbrev pub UpTo : ℕ → List Tok → List A → Type 0
  UpTo limit ts items = Many R ts items × (length items ≤ limit)

  -- such a part and at most k more, or nothing
  abbrev pub OneMore : ℕ → List Tok → List A → Type 0
  OneMore k = Either (do first ← R; others ← UpTo k; Nothing (first ∷ others)) (Nothing [])

  -- nothing, where no such part comes next
  abbrev pub NoMore : List Tok → List A → Type 0
  NoMore = Either Never (Nothing [])

  pub none-to : (ts : List Tok) (items : List A) → NoMore ts items → UpTo 0 ts items
  none-to ts items (inl h) = absurd h
  none-to ts items (inr h) = (
    subst (λ z. Many R z items) (sym h.0) (subst (λ z. Many R [] z) (sym h.1) none),
    rw h.1 (omega arith),
  )

  none-from-at : (ts : List Tok) (items : List A) → Many R ts items → length items ≤ 0
      → NoMore ts items
  none-from-at ts items none l = inr (refl, refl)
  none-from-at ts items (more h m) l = absurd (omega (arith, l))

  pub none-from : (ts : List Tok) (items : List A) → UpTo 0 ts items → NoMore ts items
  none-from ts items h = none-from-at ts items h.0 h.1

  pub more-to : (k : ℕ) (ts : List Tok) (items : List A) → OneMore k ts items
      → UpTo (suc k) ts items
  more-to k ts items (inr h) = (
    subst (λ z. Many R z items) (sym h.0) (subst (λ z. Many R [] z) (sym h.1) none),
    rw h.1 (omega arith),
  )
  more-to k ts items (inl w) =
      let v = w.second in
      let y = v.second in
      let m = v.first in
      let back : w.back ≡ v.front = v.parts ∙ ap (λ (z : List Tok). v.front ++ z) y.0
      ∙ append-nil v.front in
      let all : w.front ++ v.front
      ≡ ts = sym (w.parts ∙ ap (λ (z : List Tok). w.front ++ z) back) in
      let l : length items ≤ suc k = rw y.1 (omega (arith, m.1)) in (
        subst (λ z. Many R z items) all
            (subst (λ z. Many R (w.front ++ v.front) z) (sym y.1) (more w.first m.0)),
        l,
      )

  more-from-at : (k : ℕ) (ts : List Tok) (items : List A) → Many R ts items → length items ≤ suc k
      → OneMore k ts items
  more-from-at k ts items none l = inr (refl, refl)
  more-from-at k ts items (more {ts = us} {us = vs} {a = a} {as' = bs} h m) l = inl (record {
    value = a;
    front = us;
    back = vs;
    first = h;
    parts = refl;
    second =
        record {
          value = bs;
          front = vs;
          back = [];
          first = (m, omega (arith, l));
          second = (refl, refl);
          parts = sym (append-nil vs);
        };
  })

  pub more-from : (k : ℕ) (ts : List Tok) (items : List A) → UpTo (suc k) ts items
      → OneMore k ts items
  more-from k ts items h = more-from-at k ts items h.0 h.1

-- ---- parts that nest

-- a pair for each number of levels, of which one is read at the higher as the next is at the lower
module _ {Tok Mark Class A : Type 0} {L : Lexicon Tok Mark Class} {R : ℕ → List Tok → A → Type 0}
    {s : Shape Class} (p : (n : ℕ) → Pair L (R n) (R (suc n)) s n)
    (same : (n : ℕ) (ts : Rest Tok Mark) → (p n).high.run ts ≡ (p (suc n)).low.run ts) where
  pub steady-near : (n : ℕ) → Near n (p n).low.run (p (suc n)).low.run
  steady-near n ts = subst (λ r. NearAt n ts ((p n).low.run ts) r) (same n ts) ((p n).near ts)

  -- the pair, whose higher reader is the lower one of the next
  abbrev pub steady : (n : ℕ) → Pair L (R n) (R (suc n)) s n
  steady n = record { low = (p n).low; high = (p (suc n)).low; near = steady-near n }

-- such a part, in which others may nest
abbrev pub begun : {Tok Mark Class A : Type 0} {L : Lexicon Tok Mark Class}
    {R R' : List Tok → A → Type 0} {s : Shape Class} {k : ℕ} (p : Pair L R R' s k) → s.empty ≡ false
    → Pair L R R' s k
begun {A = A} {L = L} {k = k} p some =
    record {
      low = begun_reader p.low some;
      high = begun_reader p.high some;
      near =
          near-choose p.low p.high (never {L = L} {A = A}) (never {L = L} {A = A}) k p.near
          (near_same (never {L = L} {A = A}) refl);
    }

module _ {Tok Mark Class A : Type 0} {L : Lexicon Tok Mark Class} {R R' : List Tok → A → Type 0}
    {s : Shape Class} (cs : List Class) (p : Reader L R s) (p' : Reader L R' s) (k : ℕ) where
  wrong_near : (ts : Rest Tok Mark) → NearAt {A = A} k ts (wrong ts) (wrong ts)
  wrong_near ts = inl (refl, λ e. cc)

  pub near-refusing : Near k p.run p'.run → Near k (run_refusing cs p) (run_refusing cs p')
  near-refusing near ts = go (starts L cs ts)
    where
      go : (b : Bool)
          → NearAt k ts (cond b (wrong ts) (p.run ts)) (cond b (wrong ts) (p'.run ts))
      go true = wrong_near ts
      go false = near ts

pub near-wrong_from : {Tok Mark A : Type 0} (k : ℕ) (ts : Rest Tok Mark) (r r' : Read Tok Mark A)
    → NearAt k ts r r' → NearAt k ts (wrong_from ts r) (wrong_from ts r')
near-wrong_from k ts r r' (inl h) =
    inl (ap (wrong_from ts) h.0, λ e. h.1 (wrong_from-deep ts r e))
near-wrong_from k ts r r' (inr h) = inr (ap (wrong_from ts) h.0, h.1)

-- such a part, which is wrong where one of these tokens comes next
abbrev pub refusing : {Tok Mark Class A : Type 0} {L : Lexicon Tok Mark Class}
    {R R' : List Tok → A → Type 0} {s : Shape Class} {k : ℕ} (cs : List Class)
    (p : Pair L R R' s k) → s.empty ≡ false → all_apart L s.firsts cs ≡ true → Pair L R R' s k
refusing {k = k} cs p some apart = record {
  low = refusing_reader cs p.low some apart;
  high = refusing_reader cs p.high some apart;
  near = near-refusing cs p.low p.high k p.near;
}

-- such a part, which is wrong from its first token on, if something in it is wrong
abbrev pub from_start : {Tok Mark Class A : Type 0} {L : Lexicon Tok Mark Class}
    {R R' : List Tok → A → Type 0} {s : Shape Class} {k : ℕ} → Pair L R R' s k → Pair L R R' s k
from_start {k = k} p = record {
  low = from_first p.low;
  high = from_first p.high;
  near = λ ts. near-wrong_from k ts (p.low.run ts) (p.high.run ts) (p.near ts);
}
