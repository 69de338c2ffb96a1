-- No public clause rests on this file.
-- Readers of parts that contain themselves: a reader for each depth, and what one level more
-- changes.
use Rattle.std.proofs.Common.{◌≡◌, ℕ, zero, suc, ◌<◌, ◌≤◌, List, [], ◌∷◌, Option, Some, None, Bool}
use Rattle.std.proofs.Common.{true, false, cond, refl, inl, inr, ◌⊎◌, arith}
use Rattle.protobuf_parse_grammar.specs.Relations.{Never}
use Rattle.protobuf_parse_grammar.specs.Readers.{Rest, onto, size, Read, read, stuck, stopped, wrong, deep}
use Rattle.protobuf_parse_grammar.specs.Readers.{bind, Lexicon, Shape, Reader, Sound, starts}
use Rattle.protobuf_parse_grammar.specs.Combinators.{run_then}
use Rattle.protobuf_parse_grammar.specs.Combinators.{run_choose, run_many, many-law, many-sound}
use Rattle.protobuf_parse_grammar.specs.Combinators.{shorter}
use Rattle.protobuf_parse_grammar.specs.Combinators.{with_first, give-shallow}
use Rattle.protobuf_parse_grammar.specs.Conditions.{run_at, run_meant, meaning, meaning-shallow}
use Rattle.protobuf_parse_grammar.specs.Conditions.{mark_of, run_unless, run_only}

-- The second agrees with the first, but where the first met parts that nest too deep; and that it
-- does only on lists of at least so many tokens.
abbrev pub NearAt : {Tok Mark A : Type 0} → ℕ → Rest Tok Mark → Read Tok Mark A → Read Tok Mark A
    → Type 0
NearAt k ts r r' = ((r ≡ r') × (r ≡ deep → ⊥)) ⊎ ((r ≡ deep) × (k ≤ size ts))

abbrev pub Near : {Tok Mark A : Type 0} → ℕ → (Rest Tok Mark → Read Tok Mark A)
    → (Rest Tok Mark → Read Tok Mark A) → Type 0
Near {Tok = Tok} {Mark = Mark} k f g = (ts : Rest Tok Mark) → NearAt k ts (f ts) (g ts)

-- a part in which nothing nests
pub near_same : {Tok Mark Class A : Type 0} {L : Lexicon Tok Mark Class} {R : List Tok → A → Type 0}
    {s : Shape Class} {k : ℕ} (p : Reader L R s) → s.nests ≡ false → Near k p.run p.run
near_same p flat ts = inl (refl, p.shallow flat ts)

pub near_less : {Tok Mark A : Type 0} {f g : Rest Tok Mark → Read Tok Mark A} (k j : ℕ) → j ≤ k
    → Near k f g → Near j f g
near_less {f = f} {g = g} k j h near ts = go (near ts)
  where
    go : NearAt k ts (f ts) (g ts) → NearAt j ts (f ts) (g ts)
    go (inl e) = inl e
    go (inr e) = inr (e.0, omega (arith, e.1, h))

size-onto : {Tok Mark : Type 0} (used : List Tok) (rest : Rest Tok Mark)
    → size rest ≤ size (onto used rest)
size-onto [] rest = omega arith
size-onto (t ∷ ts) rest = omega (arith, size-onto ts rest)

module _ {Tok Mark A B : Type 0} (k j : ℕ) (ts : Rest Tok Mark)
    (f g : A → Rest Tok Mark → Read Tok Mark B) where
  near-rest : (us : Rest Tok Mark) (x y : Read Tok Mark B) → NearAt j us x y
      → (j ≤ size us → k ≤ size ts) → NearAt k ts x y
  near-rest us x y (inl e) l = inl e
  near-rest us x y (inr e) l = inr (e.0, l e.1)

  near-same_bind : (r : Read Tok Mark A) → (r ≡ deep → ⊥)
      → ((a : A) (us : Rest Tok Mark) → r ≡ read a us → j ≤ size us → k ≤ size ts)
      → ((a : A) (us : Rest Tok Mark) → r ≡ read a us → NearAt j us (f a us) (g a us))
      → NearAt k ts (bind r f) (bind r g)
  near-same_bind (read a us) flat less near =
      near-rest us (f a us) (g a us) (near a us refl) (less a us refl)
  near-same_bind (stopped before us) flat less near = inl (refl, λ e. cc)
  near-same_bind (wrong m) flat less near = inl (refl, λ e. cc)
  near-same_bind deep flat less near = absurd (flat refl)

  near-bind : (r r' : Read Tok Mark A) → NearAt k ts r r'
      → ((a : A) (us : Rest Tok Mark) → r ≡ read a us → j ≤ size us → k ≤ size ts)
      → ((a : A) (us : Rest Tok Mark) → r ≡ read a us → NearAt j us (f a us) (g a us))
      → NearAt k ts (bind r f) (bind r' g)
  near-bind r r' (inl e) less near = rw (← e.0) (near-same_bind r e.1 less near)
  near-bind r r' (inr e) less near = inr (rw e.0 refl, e.1)

module _ {Tok Mark Class A B : Type 0} {L : Lexicon Tok Mark Class} {R R' : List Tok → A → Type 0}
    {S S' : A → List Tok → B → Type 0} {s t : Shape Class} (p : Reader L R s) (p' : Reader L R' s)
    (f : (a : A) → Reader L (S a) t) (f' : (a : A) → Reader L (S' a) t) (k : ℕ) where
  pub near-then : Near k p.run p'.run → ((a : A) → Near k (f a).run (f' a).run)
      → Near k (run_then p f) (run_then p' f')
  near-then near nears ts =
      near-bind k k ts (λ a us. (f a).run us) (λ a us. (f' a).run us) (p.run ts) (p'.run ts)
      (near ts) (λ a us e h.
      let l = p.sound ts a us e in
      let n : size us ≤ size ts = rw l.parts (size-onto l.used us) in
      omega (arith, n, h)) (λ a us e. nears a us)

  -- behind a part that is not empty one level less suffices
  pub near-deeper : s.empty ≡ false → Near (suc k) p.run p'.run
      → ((a : A) → Near k (f a).run (f' a).run) → Near (suc k) (run_then p f) (run_then p' f')
  near-deeper some near nears ts =
      near-bind (suc k) k ts (λ a us. (f a).run us) (λ a us. (f' a).run us) (p.run ts) (p'.run ts)
      (near ts) (λ a us e h.
      let n = shorter p some ts a us e in omega (arith, n, h)) (λ a us e. nears a us)

module _ {Tok Mark Class A : Type 0} {L : Lexicon Tok Mark Class}
    {R R' S S' : List Tok → A → Type 0} {s t : Shape Class} (p : Reader L R s) (p' : Reader L R' s)
    (q : Reader L S t) (q' : Reader L S' t) (k : ℕ) where
  pub near-choose : Near k p.run p'.run → Near k q.run q'.run
      → Near k (run_choose p q) (run_choose p' q')
  near-choose near near' ts = go (starts L s.firsts ts)
    where
      go : (b : Bool) → NearAt k ts (cond b (p.run ts) (q.run ts)) (cond b (p'.run ts) (q'.run ts))
      go true = near ts
      go false = near' ts

module _ {Tok Mark Class A : Type 0} {L : Lexicon Tok Mark Class} {R R' : List Tok → A → Type 0}
    {s : Shape Class} (p : Reader L R s) (p' : Reader L R' s) (k : ℕ) where
  longer : (some : s.empty ≡ false) (us : Rest Tok Mark) (others : List A) (ws : Rest Tok Mark)
      → run_many p us ≡ read others ws → k ≤ size ws → k ≤ size us
  longer some us others ws e h = let l = many-sound p some us others ws e in
      let n : size ws ≤ size us = rw l.parts (size-onto l.used ws) in omega (arith, n, h)

  near-many-at : s.empty ≡ false → Near k p.run p'.run → (n : ℕ) (ts : Rest Tok Mark) → size ts < n
      → NearAt k ts (run_many p ts) (run_many p' ts)
  near-many-at some near zero ts h = absurd (omega (arith, h))
  near-many-at some near (suc n) ts h =
      rw (many-law p some ts, many-law p' some ts)
      (go (starts L s.firsts ts)
      (near-bind k k ts (λ a vs. with_first a (run_many p vs))
      (λ a vs. with_first a (run_many p' vs)) (p.run ts) (p'.run ts) (near ts)
      (λ a us e i. let l = shorter p some ts a us e in omega (arith, l, i))
      (λ a us e. let l = shorter p some ts a us e in
      near-bind k k us (λ others ws. read (a ∷ others) ws) (λ others ws. read (a ∷ others) ws)
      (run_many p us) (run_many p' us) (near-many-at some near n us (omega (arith, l, h)))
      (λ others ws i j. longer some us others ws i j)
      (λ others ws i. inl (refl, give-shallow (a ∷ others) ws)))))
    where
      go : (b : Bool)
          → NearAt k ts (bind (p.run ts) (λ a vs. with_first a (run_many p vs)))
          (bind (p'.run ts) (λ a vs. with_first a (run_many p' vs)))
          → NearAt k ts
          (cond b (bind (p.run ts) (λ a vs. with_first a (run_many p vs))) (read [] ts))
          (cond b (bind (p'.run ts) (λ a vs. with_first a (run_many p' vs))) (read [] ts))
      go true e = e
      go false e = inl (refl, give-shallow [] ts)

  pub near-many : s.empty ≡ false → Near k p.run p'.run → Near k (run_many p) (run_many p')
  near-many some near ts = near-many-at some near (suc (size ts)) ts (omega arith)

module _ {Tok Mark Class A : Type 0} {L : Lexicon Tok Mark Class}
    {R R' : Mark → List Tok → A → Type 0} {s : Shape Class} (f : (m : Mark) → Reader L (R m) s)
    (f' : (m : Mark) → Reader L (R' m) s) (k : ℕ) where
  pub near-at : ((m : Mark) → Near k (f m).run (f' m).run) → Near k (run_at f) (run_at f')
  near-at near ts = near (mark_of L.mark ts) ts

module _ {Tok Mark Class A : Type 0} {L : Lexicon Tok Mark Class} {R R' : List Tok → A → Type 0}
    {s : Shape Class} (p : Reader L R s) (p' : Reader L R' s) (k : ℕ) where
  stuck-shallow : (ts : Rest Tok Mark) → (let r : Read Tok Mark A = stuck ts in r ≡ deep) → ⊥
  stuck-shallow ts e = cc

  pub near-unless : (ds : List Class) → Near k p.run p'.run
      → Near k (run_unless ds p) (run_unless ds p')
  near-unless ds near ts = go (starts L ds ts)
    where
      go : (b : Bool) → NearAt k ts (cond b (stuck ts) (p.run ts)) (cond b (stuck ts) (p'.run ts))
      go true = inl (refl, stuck-shallow ts)
      go false = near ts

  pub near-only : (b : Bool) → Near k p.run p'.run → Near k (run_only b p) (run_only b p')
  near-only true near ts = near ts
  near-only false near ts = inl (refl, stuck-shallow ts)

  pub near-meant : {B : Type 0} (means : A → Option B) → Near k p.run p'.run
      → Near k (run_meant p means) (run_meant p' means)
  near-meant means near ts =
      near-bind k k ts (λ a us. meaning p means ts (means a) us)
      (λ a us. meaning p' means ts (means a) us) (p.run ts) (p'.run ts) (near ts) (λ a us e h.
      let l = p.sound ts a us e in
      let n : size us ≤ size ts = rw l.parts (size-onto l.used us) in
      omega (arith, n, h)) (λ a us e. go (means a) us)
    where
      go : (o : Option _) (us : Rest Tok Mark)
          → NearAt k us (meaning p means ts o us) (meaning p' means ts o us)
      go None us = inl (refl, meaning-shallow p means ts None us)
      go (Some b) us = inl (refl, meaning-shallow p means ts (Some b) us)

-- ---- a reader for each depth

pub never-sound : {Tok Mark A : Type 0} (R : List Tok → A → Type 0) (ts : Rest Tok Mark) (a : A)
    (rest : Rest Tok Mark) → (let r : Read Tok Mark A = deep in r ≡ read a rest) → Sound R ts a rest
never-sound R ts a rest e = absurd cc

pub not_flat : (b : Bool) → b ≡ true → b ≡ false → ⊥
not_flat b h e = cc

-- of depth 0 nothing is read
abbrev pub none_so_deep : {Tok Mark Class A : Type 0} {L : Lexicon Tok Mark Class} {s : Shape Class}
    → s.nests ≡ true → Reader L {A = A} Never s
none_so_deep {s = s} nests = record {
  run = λ ts. deep;
  local = λ ts. tt;
  sound = never-sound Never;
  complete = λ f used a rest h e. absurd h;
  begins = λ used a h. absurd h;
  shallow = λ flat ts e. not_flat s.nests nests flat;
}
