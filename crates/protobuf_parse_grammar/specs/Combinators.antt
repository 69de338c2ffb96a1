-- No public clause rests on this file.
-- How readers are put together: nothing, one token, one part and another, a choice, a repetition.
use Rattle.std.proofs.Common.{◌≡◌, ℕ, zero, suc, ◌<◌, ◌≤◌, List, [], ◌∷◌, ◌++◌, Option, Some, None}
use Rattle.std.proofs.Common.{Bool, true, false, not, ◌&&◌, ◌||◌, Result, Ok, Err, cond, refl, sym}
use Rattle.std.proofs.Common.{ap, subst, ◌∙◌, inl, inr, arith, append_assoc}
use Rattle.protobuf_parse_grammar.specs.Relations.{Nothing, One, Then, Either, Many, none, more}
use Rattle.protobuf_parse_grammar.specs.Readers.{Rest, onto, onto-append, size, next, Read, bind}
use Rattle.protobuf_parse_grammar.specs.Readers.{bind_read, bind_deep, stuck_not_read, read_parts}
use Rattle.protobuf_parse_grammar.specs.Readers.{Lexicon, Shape, shape, LocalRead, LocalAt, Sound}
use Rattle.protobuf_parse_grammar.specs.Readers.{seen_by, starts, all_apart, all_within, Begins}
use Rattle.protobuf_parse_grammar.specs.Readers.{Reader, and_left, and_right, or_left, or_right}
use Rattle.protobuf_parse_grammar.specs.Readers.{or_true, not_true, next-onto, seen_by-append}
use Rattle.protobuf_parse_grammar.specs.Readers.{starts-onto, starts-next, all_apart-law}
use Rattle.protobuf_parse_grammar.specs.Readers.{all_within-law, first-of, last-of, starts-within}
use Rattle.protobuf_parse_grammar.specs.Readers.{begins-apart, begins-starts, local-same, end}
use Rattle.protobuf_parse_grammar.specs.Readers.{token, read, stuck, stopped, wrong, deep}

-- ---- nothing, and one token

module _ {Tok Mark A : Type 0} where
  pub give-sound : (value : A) (ts : Rest Tok Mark) (a : A) (rest : Rest Tok Mark)
      → (let r : Read Tok Mark A = read value ts in r ≡ read a rest)
      → Sound (Nothing value) ts a rest
  give-sound value ts a rest e = let h = read_parts value a ts rest e in
      record { used = []; parts = h.1; holds = (refl, sym h.0) }

  pub give-shallow : (value : A) (ts : Rest Tok Mark)
      → (let r : Read Tok Mark A = read value ts in r ≡ deep) → ⊥
  give-shallow value ts e = cc

  pub give-complete : (value : A) (used : List Tok) (a : A) (rest : Rest Tok Mark)
      → Nothing value used a
      → (let r : Read Tok Mark A = read value (onto used rest) in r ≡ read a rest)
  give-complete value used a rest h = rw (h.0, h.1) refl

  abbrev pub taken : Option A → Rest Tok Mark → Rest Tok Mark → Read Tok Mark A
  taken None ts rest = stuck ts
  taken (Some a) ts rest = read a rest

  abbrev pub run_one : (Tok → Option A) → Rest Tok Mark → Read Tok Mark A
  run_one says (end m) = stuck (end m)
  run_one says (token t rest) = taken (says t) (token t rest) rest

same_end : {Tok Mark : Type 0} (m : Mark) (other : Rest Tok Mark)
    → (let k : Result Tok Mark = Err m in next other ≡ k) → other ≡ end m
same_end m (end n) e = let p : n ≡ m = cc in ap end p
same_end m (token u us) e = absurd cc

same_token : {Tok Mark : Type 0} (t : Tok) (other : Rest Tok Mark)
    → (let k : Result Tok Mark = Ok t in next other ≡ k)
    → (us : Rest Tok Mark) × (other ≡ token t us)
same_token t (end n) e = absurd cc
same_token {Tok = Tok} t (token u us) e = let p : u ≡ t = cc in (us, ap (λ (x : Tok). token x us) p)

module _ {Tok Mark A : Type 0} (says : Tok → Option A) where
  one-local-at : (t : Tok) (ts : Rest Tok Mark) (o : Option A) → says t ≡ o
      → LocalAt (run_one says) (token t ts) (taken o (token t ts) ts)
  one-local-at t ts None e =
      record {
        used = [];
        parts = refl;
        front = [];
        ends = refl;
        again = λ other h a us f. let s = same_token t other h in
            let g : run_one says other ≡ stuck other = rw (s.1, e) refl in
            stuck_not_read (run_one says other) other a us g f;
      }
  one-local-at t ts (Some a) e =
      record { used = t ∷ []; parts = refl; again = λ other h. rw e refl }

  pub one-local : (ts : Rest Tok Mark) → LocalAt (run_one says) ts (run_one says ts)
  one-local (end m) =
      record {
        used = [];
        parts = refl;
        front = [];
        ends = refl;
        again =
            λ other h a us f.
            let g : run_one says other ≡ stuck other = rw (same_end m other h) refl in
            stuck_not_read (run_one says other) other a us g f;
      }
  one-local (token t ts) = one-local-at t ts (says t) refl

  taken-sound : (t : Tok) (ts : Rest Tok Mark) (o : Option A) (a : A) (rest : Rest Tok Mark)
      → says t ≡ o → taken o (token t ts) ts ≡ read a rest → Sound (One says) (token t ts) a rest
  taken-sound t ts None a rest h e = absurd cc
  taken-sound t ts (Some b) a rest h e = let p = read_parts b a ts rest e in
      record {
        used = t ∷ [];
        parts = ap (token t) p.1;
        holds = (t, refl, h ∙ ap (λ (x : A). Some x) p.0);
      }

  pub one-sound : (ts : Rest Tok Mark) (a : A) (rest : Rest Tok Mark)
      → run_one says ts ≡ read a rest → Sound (One says) ts a rest
  one-sound (end m) a rest e = absurd cc
  one-sound (token t ts) a rest e = taken-sound t ts (says t) a rest refl e

  one-shallow-at : (ts rest : Rest Tok Mark) (o : Option A) → taken o ts rest ≡ deep → ⊥
  one-shallow-at ts rest None e = cc
  one-shallow-at ts rest (Some a) e = cc

  pub one-shallow : (ts : Rest Tok Mark) → run_one says ts ≡ deep → ⊥
  one-shallow (end m) e = cc
  one-shallow (token t ts) e = one-shallow-at (token t ts) ts (says t) e

  pub one-complete : (used : List Tok) (a : A) (rest : Rest Tok Mark) → One says used a
      → run_one says (onto used rest) ≡ read a rest
  one-complete used a rest h = rw (h.1, h.2) refl

module _ {Tok Mark Class : Type 0} (L : Lexicon Tok Mark Class) {A : Type 0} where
  pub give-begins : (value : A) (used : List Tok) (a : A) → Nothing value used a
      → Begins L [] true used
  give-begins value used a h = rw h.0 refl

  pub one-begins : (says : Tok → Option A) (cs : List Class)
      → ((t : Tok) (a : A) → says t ≡ Some a → seen_by L cs t ≡ true) → (used : List Tok) (a : A)
      → One says used a → Begins L cs false used
  one-begins says cs law used a h = rw h.1 (law h.0 a h.2)

abbrev pub give : {Tok Mark Class A : Type 0} {L : Lexicon Tok Mark Class} (value : A)
    → Reader L (Nothing value) (shape [] true [])
give {L = L} value = record {
  run = λ ts. read value ts;
  local = λ ts. record { used = []; parts = refl; again = λ other e. refl };
  sound = give-sound value;
  complete = λ f used a rest h e. give-complete value used a rest h;
  begins = give-begins L value;
  shallow = λ n ts e. give-shallow value ts e;
}

-- one token, which a class of the list sees if it says something
abbrev pub one : {Tok Mark Class A : Type 0} {L : Lexicon Tok Mark Class} (says : Tok → Option A)
    (cs : List Class) → ((t : Tok) (a : A) → says t ≡ Some a → seen_by L cs t ≡ true)
    → Reader L (One says) (shape cs false [])
one {L = L} says cs law = record {
  run = run_one says;
  local = one-local says;
  sound = one-sound says;
  complete = λ f used a rest h e. one-complete says used a rest h;
  begins = one-begins L says cs law;
  shallow = λ n ts e. one-shallow says ts e;
}

-- ---- one part and then another

abbrev pub then_shape : {Tok Mark Class : Type 0} → Lexicon Tok Mark Class → Shape Class
    → Shape Class → Shape Class
then_shape L s t = record {
  firsts = s.firsts ++ cond s.empty t.firsts [];
  empty = s.empty && t.empty;
  goes = t.goes ++ cond t.empty s.goes [];
  nests = s.nests || t.nests;
  fine = s.fine && t.fine && all_apart L t.firsts s.goes;
}

module _ {Tok Mark A B : Type 0} where
  second-local : (run : Rest Tok Mark → Read Tok Mark A) (f : A → Rest Tok Mark → Read Tok Mark B)
      (ts : Rest Tok Mark) (a : A) (us : Rest Tok Mark) → LocalRead run ts a us
      → (r : Read Tok Mark B) → LocalAt (f a) us r → LocalAt (λ vs. bind (run vs) f) ts r
  second-local run f ts a us l (read b rest) m = record {
    used = l.used ++ m.used;
    parts = l.parts ∙ ap (onto l.used) m.parts ∙ sym (onto-append l.used m.used rest);
    again = λ other h. let e : run (onto l.used (onto m.used other))
        ≡ read a (onto m.used other) =
        l.again (onto m.used other) (next-onto m.used rest other h ∙ ap next (sym m.parts)) in
        rw (onto-append l.used m.used other, e) (m.again other h);
  }
  second-local run f ts a us l (stopped before rest) m = record {
    used = l.used ++ m.used;
    parts = l.parts ∙ ap (onto l.used) m.parts ∙ sym (onto-append l.used m.used rest);
    front = l.used ++ m.front;
    ends =
        ap (λ (v : List Tok). l.used ++ v) m.ends
        ∙ sym (append_assoc l.used m.front before);
    again = λ other h b vs g.
        let e : run (onto l.used (onto m.used other))
        ≡ read a (onto m.used other) =
        l.again (onto m.used other) (next-onto m.used rest other h ∙ ap next (sym m.parts)) in
        let k : bind (run (onto (l.used ++ m.used) other)) f
        ≡ f a (onto m.used other) = rw (onto-append l.used m.used other, e) refl in
        m.again other h b vs (sym k ∙ g);
  }
  second-local run f ts a us l (wrong rest) m =
      (l.used ++ m.0, l.parts ∙ ap (onto l.used) m.1 ∙ sym (onto-append l.used m.0 rest))
  second-local run f ts a us l deep m = tt

  pub bind-local : (run : Rest Tok Mark → Read Tok Mark A) (f : A → Rest Tok Mark → Read Tok Mark B)
      (ts : Rest Tok Mark) (r : Read Tok Mark A) → LocalAt run ts r
      → ((a : A) (us : Rest Tok Mark) → r ≡ read a us → LocalAt (f a) us (f a us))
      → LocalAt (λ vs. bind (run vs) f) ts (bind r f)
  bind-local run f ts (read a us) l g = second-local run f ts a us l (f a us) (g a us refl)
  bind-local run f ts (stopped before rest) l g =
      record {
        used = l.used;
        parts = l.parts;
        front = l.front;
        ends = l.ends;
        again =
            λ other h b vs e. let x = bind_read (run (onto l.used other)) f b vs e in
            l.again other h x.0 x.1 x.2;
      }
  bind-local run f ts (wrong rest) l g = l
  bind-local run f ts deep l g = tt

module _ {Tok Mark Class A B : Type 0} {L : Lexicon Tok Mark Class} {R : List Tok → A → Type 0}
    {S : A → List Tok → B → Type 0} {s t : Shape Class} (p : Reader L R s)
    (f : (a : A) → Reader L (S a) t) where
  abbrev pub run_then : Rest Tok Mark → Read Tok Mark B
  run_then ts = bind (p.run ts) (λ a us. (f a).run us)

  pub then-local : (ts : Rest Tok Mark) → LocalAt run_then ts (run_then ts)
  then-local ts = bind-local p.run (λ a us. (f a).run us) ts (p.run ts) (p.local ts)
      (λ a us e. (f a).local us)

  pub then-sound : (ts : Rest Tok Mark) (b : B) (rest : Rest Tok Mark) → run_then ts ≡ read b rest
      → Sound (Then R S) ts b rest
  then-sound ts b rest e =
      let x = bind_read (p.run ts) (λ a us. (f a).run us) b rest e in
      let l = p.sound ts x.0 x.1 x.2 in
      let m = (f x.0).sound x.1 b rest x.3 in
      record {
        used = l.used ++ m.used;
        parts = l.parts ∙ ap (onto l.used) m.parts ∙ sym (onto-append l.used m.used rest);
        holds = record {
          value = x.0;
          front = l.used;
          back = m.used;
          first = l.holds;
          second =
              m.holds;
          parts = refl;
        };
      }

  -- behind the first part the second begins, with what the first does not go on with
  between : (then_shape L s t).fine ≡ true
      → (a : A) (back : List Tok) (b : B) (rest : Rest Tok Mark) → S a back b
      → starts L ((then_shape L s t).goes) rest ≡ false → starts L s.goes (onto back rest) ≡ false
  between fine a back b rest h e =
      begins-apart L t.firsts s.goes t.empty back rest (and_right _ _ fine) ((f a).begins back b h)
      (λ k.
      let g : starts L (t.goes ++ s.goes) rest ≡ false = rw k at e in
      last-of L t.goes s.goes rest g)

  pub then-complete : (then_shape L s t).fine ≡ true
      → (used : List Tok) (b : B) (rest : Rest Tok Mark) → Then R S used b
      → starts L ((then_shape L s t).goes) rest ≡ false → run_then (onto used rest) ≡ read b rest
  then-complete fine used b rest h e =
      let one : p.run (onto h.front (onto h.back rest))
      ≡ read h.value (onto h.back rest) =
      p.complete (and_left _ _ (and_left _ _ fine)) h.front h.value (onto h.back rest) h.first
      (between fine h.value h.back b rest h.second e) in
      let g : starts L t.goes rest ≡ false = first-of L t.goes (cond t.empty s.goes []) rest e in
      rw (h.parts, onto-append h.front h.back rest, one)
      ((f h.value).complete (and_right _ _ (and_left _ _ fine)) h.back b rest h.second g)

  begins-both : (front back : List Tok) → Begins L s.firsts s.empty front
      → Begins L t.firsts t.empty back
      → Begins L ((then_shape L s t).firsts) ((then_shape L s t).empty) (front ++ back)
  begins-both [] [] h k = rw (h, k) refl
  begins-both [] (u ∷ us) h k = rw (h, seen_by-append L s.firsts t.firsts u) (or_true _ _ k)
  begins-both (u ∷ us) back h k =
      rw (seen_by-append L s.firsts (cond s.empty t.firsts []) u, h) refl

  pub then-begins : (used : List Tok) (b : B) → Then R S used b
      → Begins L ((then_shape L s t).firsts) ((then_shape L s t).empty) used
  then-begins used b h =
      rw h.parts
      (begins-both h.front h.back (p.begins h.front h.value h.first)
      ((f h.value).begins h.back b h.second))

  pub then-shallow : (then_shape L s t).nests ≡ false → (ts : Rest Tok Mark) → run_then ts ≡ deep
      → ⊥
  then-shallow n ts e =
      bind_deep (p.run ts) (λ a us. (f a).run us) e (p.shallow (or_left _ _ n) ts)
      (λ a us h i. (f a).shallow (or_right _ _ n) us i)

infixl 10 ◌>>=◌
abbrev pub ◌>>=◌ : {Tok Mark Class A B : Type 0} {L : Lexicon Tok Mark Class}
    {R : List Tok → A → Type 0} {S : A → List Tok → B → Type 0} {s t : Shape Class} → Reader L R s
    → ((a : A) → Reader L (S a) t) → Reader L (Then R S) (then_shape L s t)
p >>= f =
    record {
      run = run_then p f;
      local = then-local p f;
      sound = then-sound p f;
      complete =
          then-complete p f;
      begins = then-begins p f;
      shallow = then-shallow p f;
    }

infixl 10 ◌>>◌
abbrev pub ◌>>◌ : {Tok Mark Class A B : Type 0} {L : Lexicon Tok Mark Class}
    {R : List Tok → A → Type 0} {S : List Tok → B → Type 0} {s t : Shape Class} → Reader L R s
    → Reader L S t → Reader L (Then R (λ a. S)) (then_shape L s t)
p >> q = p >>= (λ a. q)

-- ---- the next token chooses

abbrev pub either_shape : {Tok Mark Class : Type 0} → Lexicon Tok Mark Class → Shape Class
    → Shape Class → Shape Class
either_shape L s t = record {
  firsts = s.firsts ++ t.firsts;
  empty = t.empty;
  goes = s.goes ++ t.goes ++ cond t.empty s.firsts [];
  nests = s.nests || t.nests;
  fine = s.fine && t.fine && not s.empty && all_apart L t.firsts s.firsts;
}

abbrev pub pick : {Tok Mark A : Type 0} → (Rest Tok Mark → Bool) → (Rest Tok Mark → Read Tok Mark A)
    → (Rest Tok Mark → Read Tok Mark A) → Rest Tok Mark → Read Tok Mark A
pick test f g ts = cond (test ts) (f ts) (g ts)

pub pick-local-at : {Tok Mark A : Type 0} (test : Rest Tok Mark → Bool)
    (law : (us vs : Rest Tok Mark) → next us ≡ next vs → test us ≡ test vs)
    (f g : Rest Tok Mark → Read Tok Mark A) (ts : Rest Tok Mark) (b : Bool) → test ts ≡ b
    → LocalAt f ts (f ts) → LocalAt g ts (g ts) → LocalAt (pick test f g) ts (cond b (f ts) (g ts))
pick-local-at test law f g ts true e l m =
    local-same f (pick test f g) ts (f ts) (λ us h. rw (law us ts h, e) refl) l
pick-local-at test law f g ts false e l m =
    local-same g (pick test f g) ts (g ts) (λ us h. rw (law us ts h, e) refl) m

module _ {Tok Mark Class A : Type 0} {L : Lexicon Tok Mark Class} {R S : List Tok → A → Type 0}
    {s t : Shape Class} (p : Reader L R s) (q : Reader L S t) where
  abbrev pub run_choose : Rest Tok Mark → Read Tok Mark A
  run_choose ts = pick (starts L s.firsts) p.run q.run ts

  pub choose-local : (ts : Rest Tok Mark) → LocalAt run_choose ts (run_choose ts)
  choose-local ts = pick-local-at (starts L s.firsts)
      (λ us vs h. starts-next L s.firsts vs us h) p.run q.run ts (starts L s.firsts ts) refl
      (p.local ts) (q.local ts)

  choose-sound-at : (b : Bool) (ts : Rest Tok Mark) (a : A) (rest : Rest Tok Mark)
      → cond b (p.run ts) (q.run ts) ≡ read a rest → Sound (Either R S) ts a rest
  choose-sound-at true ts a rest e = let l = p.sound ts a rest e in
      record { used = l.used; parts = l.parts; holds = inl l.holds }
  choose-sound-at false ts a rest e = let l = q.sound ts a rest e in
      record { used = l.used; parts = l.parts; holds = inr l.holds }

  pub choose-sound : (ts : Rest Tok Mark) (a : A) (rest : Rest Tok Mark)
      → run_choose ts ≡ read a rest → Sound (Either R S) ts a rest
  choose-sound ts a rest e = choose-sound-at (starts L s.firsts ts) ts a rest e

  pub choose-complete : (either_shape L s t).fine ≡ true
      → (used : List Tok) (a : A) (rest : Rest Tok Mark) → Either R S used a
      → starts L (either_shape L s t).goes rest ≡ false → run_choose (onto used rest) ≡ read a rest
  choose-complete fine used a rest (inl h) e =
      let no : starts L s.goes rest
      ≡ false = first-of L s.goes t.goes rest
      (first-of L (s.goes ++ t.goes) (cond t.empty s.firsts []) rest e) in
      let some : s.empty ≡ false = not_true _ (and_right _ _ (and_left _ _ fine)) in
      rw (begins-starts L s.firsts s.empty used rest some (p.begins used a h))
      (p.complete (and_left _ _ (and_left _ _ (and_left _ _ fine))) used a rest h no)
  choose-complete fine used a rest (inr h) e =
      let no : starts L s.firsts (onto used rest)
      ≡ false = begins-apart L t.firsts s.firsts t.empty used rest (and_right _ _ fine)
      (q.begins used a h) (λ k.
      let g : starts L (s.goes ++ t.goes ++ s.firsts) rest ≡ false = rw k at e in
      last-of L (s.goes ++ t.goes) s.firsts rest g) in
      let n : starts L t.goes rest
      ≡ false = last-of L s.goes t.goes rest
      (first-of L (s.goes ++ t.goes) (cond t.empty s.firsts []) rest e) in
      rw no (q.complete (and_right _ _ (and_left _ _ (and_left _ _ fine))) used a rest h n)

  begins-left : (used : List Tok) → s.empty ≡ false → Begins L s.firsts s.empty used
      → Begins L (s.firsts ++ t.firsts) t.empty used
  begins-left [] n h = absurd cc
  begins-left (u ∷ us) n h = rw (seen_by-append L s.firsts t.firsts u, h) refl

  begins-right : (used : List Tok) → Begins L t.firsts t.empty used
      → Begins L (s.firsts ++ t.firsts) t.empty used
  begins-right [] h = h
  begins-right (u ∷ us) h = rw (seen_by-append L s.firsts t.firsts u) (or_true _ _ h)

  pub choose-begins : s.empty ≡ false → (used : List Tok) (a : A) → Either R S used a
      → Begins L (s.firsts ++ t.firsts) t.empty used
  choose-begins n used a (inl h) = begins-left used n (p.begins used a h)
  choose-begins n used a (inr h) = begins-right used (q.begins used a h)

  choose-shallow-at : (either_shape L s t).nests ≡ false → (ts : Rest Tok Mark) (b : Bool)
      → cond b (p.run ts) (q.run ts) ≡ deep → ⊥
  choose-shallow-at n ts true e = p.shallow (or_left _ _ n) ts e
  choose-shallow-at n ts false e = q.shallow (or_right _ _ n) ts e

  pub choose-shallow : (either_shape L s t).nests ≡ false → (ts : Rest Tok Mark)
      → run_choose ts ≡ deep → ⊥
  choose-shallow n ts e = choose-shallow-at n ts (starts L s.firsts ts) e

-- the first part, which is not empty, where the next token begins it, and else the second
abbrev pub choose : {Tok Mark Class A : Type 0} {L : Lexicon Tok Mark Class}
    {R S : List Tok → A → Type 0} {s t : Shape Class} (p : Reader L R s) → s.empty ≡ false
    → (q : Reader L S t) → Reader L (Either R S) (either_shape L s t)
choose p some q =
    record {
      run = run_choose p q;
      local = choose-local p q;
      sound = choose-sound p q;
      complete =
          choose-complete p q;
      begins = choose-begins p q some;
      shallow = choose-shallow p q;
    }

-- ---- a shape written out

abbrev pub covers : {Tok Mark Class : Type 0} → Lexicon Tok Mark Class → Shape Class → Shape Class
    → Bool
covers L s t = (not s.nests || t.nests)
    && (s.fine && all_within L s.firsts t.firsts && (not s.empty || t.empty)
    && all_within L s.goes t.goes)

module _ {Tok Mark Class A : Type 0} {L : Lexicon Tok Mark Class} {R : List Tok → A → Type 0}
    {s : Shape Class} (t : Shape Class) (p : Reader L R s) (all_fits : covers L s t ≡ true) where
  fits : (s.fine && all_within L s.firsts t.firsts && (not s.empty || t.empty)
      && all_within L s.goes t.goes) ≡ true
  fits = and_right (not s.nests || t.nests) _ all_fits

  as-shallow-at : (a b : Bool) → (not a || b) ≡ true → b ≡ false → a ≡ false
  as-shallow-at true b h e = cc
  as-shallow-at false b h e = refl

  pub as-shallow : t.nests ≡ false → (ts : Rest Tok Mark) → p.run ts ≡ deep → ⊥
  as-shallow n ts e = p.shallow (as-shallow-at s.nests t.nests (and_left _ _ all_fits) n) ts e

  pub as-complete : (used : List Tok) (a : A) (rest : Rest Tok Mark) → R used a
      → starts L t.goes rest ≡ false → p.run (onto used rest) ≡ read a rest
  as-complete used a rest h e =
      p.complete (and_left _ _ (and_left _ _ (and_left _ _ fits))) used a rest h
      (starts-within L s.goes t.goes rest (and_right _ _ fits) e)

  as-begins-at : (used : List Tok) → Begins L s.firsts s.empty used → Begins L t.firsts t.empty used
  as-begins-at [] h = go s.empty t.empty h (and_right _ _ (and_left _ _ fits))
    where
      go : (a b : Bool) → a ≡ true → (not a || b) ≡ true → b ≡ true
      go true b e h = h
      go false b e h = absurd cc
  as-begins-at (u ∷ us) h =
      all_within-law L s.firsts t.firsts u (and_right _ _ (and_left _ _ (and_left _ _ fits))) h

  pub as-begins : (used : List Tok) (a : A) → R used a → Begins L t.firsts t.empty used
  as-begins used a h = as-begins-at used (p.begins used a h)

-- the reader, with a shape that covers its own: with this its production is checked
abbrev pub shaped : {Tok Mark Class A : Type 0} {L : Lexicon Tok Mark Class}
    {R : List Tok → A → Type 0} {s : Shape Class} (t : Shape Class) (p : Reader L R s)
    → covers L s t ≡ true → Reader L R t
shaped t p fits =
    record {
      run = p.run;
      local = p.local;
      sound = p.sound;
      complete = λ f. as-complete t p fits;
      begins = as-begins t p fits;
      shallow = as-shallow t p fits;
    }

-- ---- any number of such parts

-- a value before those that are read next
abbrev pub with_first : {Tok Mark A : Type 0} → A → Read Tok Mark (List A) → Read Tok Mark (List A)
with_first a r = bind r (λ others rest. read (a ∷ others) rest)

abbrev pub many_shape : {Tok Mark Class : Type 0} → Lexicon Tok Mark Class → Shape Class
    → Shape Class
many_shape L s =
    record {
      firsts = s.firsts;
      empty = true;
      goes = s.goes ++ s.firsts;
      nests = s.nests;
      fine =
          s.fine && all_apart L s.firsts s.goes;
    }

pub bind-same : {Tok Mark A B : Type 0} (r : Read Tok Mark A)
    (f g : A → Rest Tok Mark → Read Tok Mark B)
    → ((a : A) (us : Rest Tok Mark) → r ≡ read a us → f a us ≡ g a us) → bind r f ≡ bind r g
bind-same (read a us) f g h = h a us refl
bind-same (stopped before rest) f g h = refl
bind-same (wrong m) f g h = refl
bind-same deep f g h = refl

module _ {Tok Mark Class A : Type 0} {L : Lexicon Tok Mark Class} {R : List Tok → A → Type 0}
    {s : Shape Class} (item : Reader L R s) where
  abbrev pub step : (Rest Tok Mark → Read Tok Mark (List A)) → Rest Tok Mark
      → Read Tok Mark (List A)
  step rec ts = pick (starts L s.firsts) (λ us. bind (item.run us) (λ a vs. with_first a (rec vs)))
      (λ us. read [] us) ts

  abbrev pub fueled : ℕ → Rest Tok Mark → Read Tok Mark (List A)
  fueled zero ts = read [] ts
  fueled (suc k) ts = step (fueled k) ts

  unfoldable pub run_many : Rest Tok Mark → Read Tok Mark (List A)
  run_many ts = fueled (suc (size ts)) ts

  module _ (some : s.empty ≡ false) where
    begins-size : (used : List Tok) (rest : Rest Tok Mark) → Begins L s.firsts s.empty used
        → size rest < size (onto used rest)
    begins-size [] rest h = absurd cc
    begins-size (t ∷ []) rest h = omega arith
    begins-size (t ∷ u ∷ us) rest h = omega (arith, longer us)
      where
        longer : (us : List Tok) → size rest ≤ size (onto us rest)
        longer [] = omega arith
        longer (v ∷ vs) = omega (arith, longer vs)

    pub shorter : (ts : Rest Tok Mark) (a : A) (rest : Rest Tok Mark) → item.run ts ≡ read a rest
        → size rest < size ts
    shorter ts a rest e = let l = item.sound ts a rest e in
        rw l.parts (begins-size l.used rest (item.begins l.used a l.holds))

    enough : (k j : ℕ) (ts : Rest Tok Mark) → size ts < k → size ts < j → fueled k ts ≡ fueled j ts
    enough zero j ts h i = absurd (omega (arith, h))
    enough (suc k) zero ts h i = absurd (omega (arith, i))
    enough (suc k) (suc j) ts h i =
        ap (λ (r : Read Tok Mark (List A)). cond (starts L s.firsts ts) r (read [] ts))
        (bind-same (item.run ts) (λ a vs. with_first a (fueled k vs))
        (λ a vs. with_first a (fueled j vs)) (λ a us e.
        let l = shorter ts a us e in
        ap (with_first a) (enough k j us (omega (arith, l, h)) (omega (arith, l, i)))))

    pub many-law : (ts : Rest Tok Mark) → run_many ts ≡ step run_many ts
    unfolding run_many
    many-law ts =
        ap (λ (r : Read Tok Mark (List A)). cond (starts L s.firsts ts) r (read [] ts))
        (bind-same (item.run ts) (λ a vs. with_first a (fueled (size ts) vs))
        (λ a vs. with_first a (run_many vs)) (λ a us e.
        let l = shorter ts a us e in
        ap (with_first a) (enough (size ts) (suc (size us)) us l (omega arith))))

    many-local-at : (k : ℕ) (ts : Rest Tok Mark) → size ts < k → LocalAt run_many ts (run_many ts)
    many-local-at zero ts h = absurd (omega (arith, h))
    many-local-at (suc k) ts h =
        let F : Rest Tok Mark → Read Tok Mark (List A) = λ us.
        bind (item.run us) (λ a vs. with_first a (run_many vs)) in
        let f : LocalAt F ts (F ts) = bind-local item.run (λ a vs. with_first a (run_many vs)) ts
        (item.run ts) (item.local ts) (λ a us e.
        let l = shorter ts a us e in
        bind-local run_many (λ others ws. read (a ∷ others) ws) us (run_many us)
        (many-local-at k us (omega (arith, l, h)))
        (λ others ws i. record { used = []; parts = refl; again = λ other j. refl })) in
        let g : LocalAt (step run_many) ts (step run_many ts) =
        pick-local-at (starts L s.firsts) (λ us vs h. starts-next L s.firsts vs us h) F
        (λ us. read [] us) ts (starts L s.firsts ts) refl f
        (record { used = []; parts = refl; again = λ other j. refl }) in
        let m : LocalAt run_many ts (step run_many ts) =
        local-same (step run_many) run_many ts (step run_many ts) (λ us i. many-law us) g in
        subst (LocalAt run_many ts) (sym (many-law ts)) m

    pub many-local : (ts : Rest Tok Mark) → LocalAt run_many ts (run_many ts)
    many-local ts = many-local-at (suc (size ts)) ts (omega arith)

    fueled-sound : (k : ℕ) (ts : Rest Tok Mark) (items : List A) (rest : Rest Tok Mark)
        → fueled k ts ≡ read items rest → Sound (Many R) ts items rest
    fueled-sound zero ts items rest e = let p = read_parts [] items ts rest e in
        rw (← p.0) (record { used = []; parts = p.1; holds = none })
    fueled-sound (suc k) ts items rest e = go (fueled-sound k) (starts L s.firsts ts) e
      where
        go : ((us : Rest Tok Mark) (bs : List A) (vs : Rest Tok Mark) → fueled k us ≡ read bs vs
            → Sound (Many R) us bs vs) → (b : Bool)
            → cond b (bind (item.run ts) (λ a vs. with_first a (fueled k vs))) (read [] ts)
            ≡ read items rest → Sound (Many R) ts items rest
        go ih false e = let p = read_parts [] items ts rest e in
            rw (← p.0) (record { used = []; parts = p.1; holds = none })
        go ih true e =
            let x = bind_read (item.run ts) (λ a vs. with_first a (fueled k vs)) items rest e in
            let y = bind_read (fueled k x.1) (λ bs ws. read (x.0 ∷ bs) ws) items rest x.3 in
            let p = read_parts (x.0 ∷ y.0) items y.1 rest y.3 in
            let l = item.sound ts x.0 x.1 x.2 in
            let m = ih x.1 y.0 y.1 y.2 in
            let parts : ts ≡ onto (l.used ++ m.used) y.1 = l.parts ∙ ap (onto l.used) m.parts
            ∙ sym (onto-append l.used m.used y.1) in
            record {
              used = l.used ++ m.used;
              parts = parts
                  ∙ ap (onto (l.used ++ m.used)) p.1;
              holds =
                  subst (Many R (l.used ++ m.used)) p.0 (more l.holds m.holds);
            }

    pub many-sound : (ts : Rest Tok Mark) (items : List A) (rest : Rest Tok Mark)
        → run_many ts ≡ read items rest → Sound (Many R) ts items rest
    unfolding run_many
    many-sound ts items rest e = fueled-sound (suc (size ts)) ts items rest e

    -- what comes behind an item does not go on with it
    behind : (many_shape L s).fine ≡ true
        → (used : List Tok) (items : List A) (rest : Rest Tok Mark) → Many R used items
        → starts L (many_shape L s).goes rest ≡ false → starts L s.goes (onto used rest) ≡ false
    behind fine used items rest none e = first-of L s.goes s.firsts rest e
    behind fine used items rest (more {ts = ts} {us = us} {a = a} h m) e =
        go ts (item.begins ts a h)
      where
        go : (ts : List Tok) → Begins L s.firsts s.empty ts
            → starts L s.goes (onto (ts ++ us) rest) ≡ false
        go [] b = absurd cc
        go (v ∷ vs) b = starts-onto L s.goes v (onto (vs ++ us) rest)
            ∙ all_apart-law L s.firsts s.goes v (and_right _ _ fine) b

    pub many-complete : (many_shape L s).fine ≡ true
        → (used : List Tok) (items : List A) (rest : Rest Tok Mark) → Many R used items
        → starts L (many_shape L s).goes rest ≡ false → run_many (onto used rest) ≡ read items rest
    many-complete fine used items rest none e =
        let n : starts L s.firsts rest ≡ false = last-of L s.goes s.firsts rest e in
        rw (many-law rest, n) refl
    many-complete fine used items rest (more {ts = ts} {us = us} {a = a} {as' = bs} h m) e =
        let i : run_many (onto us rest) ≡ read bs rest = many-complete fine us bs rest m e in
        let j : item.run (onto ts (onto us rest))
        ≡ read a (onto us rest) =
        item.complete (and_left _ _ fine) ts a (onto us rest) h (behind fine us bs rest m e) in
        let t : starts L s.firsts (onto ts (onto us rest))
        ≡ true = begins-starts L s.firsts s.empty ts (onto us rest) some (item.begins ts a h) in
        ap run_many (onto-append ts us rest) ∙ many-law (onto ts (onto us rest)) ∙ rw (t, j, i) refl

    many-shallow-at : s.nests ≡ false → (k : ℕ) (ts : Rest Tok Mark) → fueled k ts ≡ deep → ⊥
    many-shallow-at n zero ts e = cc
    many-shallow-at n (suc k) ts e = go (starts L s.firsts ts) e (many-shallow-at n k)
      where
        go : (b : Bool)
            → cond b (bind (item.run ts) (λ a vs. with_first a (fueled k vs))) (read [] ts) ≡ deep
            → ((us : Rest Tok Mark) → fueled k us ≡ deep → ⊥) → ⊥
        go false e ih = cc
        go true e ih = bind_deep (item.run ts) (λ a vs. with_first a (fueled k vs)) e
            (item.shallow n ts)
            (λ a us h i. bind_deep (fueled k us) (λ others ws. read (a ∷ others) ws) i (ih us)
            (λ others ws j l. give-shallow (a ∷ others) ws l))

    pub many-shallow : s.nests ≡ false → (ts : Rest Tok Mark) → run_many ts ≡ deep → ⊥
    unfolding run_many
    many-shallow n ts e = many-shallow-at n (suc (size ts)) ts e

    many-begins-at : (ts us : List Tok) → Begins L s.firsts s.empty ts
        → Begins L s.firsts true (ts ++ us)
    many-begins-at [] us b = absurd cc
    many-begins-at (v ∷ vs) us b = b

    pub many-begins : (used : List Tok) (items : List A) → Many R used items
        → Begins L s.firsts true used
    many-begins used items none = refl
    many-begins used items (more {ts = ts} {us = us} {a = a} h m) =
        many-begins-at ts us (item.begins ts a h)

-- such parts, which are not empty, as long as the next token begins one
abbrev pub many : {Tok Mark Class A : Type 0} {L : Lexicon Tok Mark Class}
    {R : List Tok → A → Type 0} {s : Shape Class} (item : Reader L R s) → s.empty ≡ false
    → Reader L (Many R) (many_shape L s)
many item some =
    record {
      run = run_many item;
      local = many-local item some;
      sound = many-sound item some;
      complete = many-complete item some;
      begins = many-begins item some;
      shallow =
          many-shallow item some;
    }
