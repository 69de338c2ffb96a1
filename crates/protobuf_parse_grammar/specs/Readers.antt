-- No public clause rests on this file.
-- A reader of a relation looks one token ahead and never back, and its laws come with it.
use Rattle.std.proofs.Common.{◌≡◌, ℕ, suc, List, [], ◌∷◌, ◌++◌}
use Rattle.std.proofs.Common.{Bool, true, false, not, ◌&&◌, ◌||◌, Result, Ok, Err, refl, sym}
use Rattle.std.proofs.Common.{ap, ◌∙◌, inl, inr, ◌⊎◌}
use Rattle.protobuf_parse_grammar.specs.Relations.{seen}

-- ---- what is read

-- the tokens that are left, and the mark of the end
pub data Rest (Tok Mark : Type 0) : Type 0 where
  end : Mark → Rest Tok Mark
  token : Tok → Rest Tok Mark → Rest Tok Mark

-- these tokens, and then the rest
abbrev pub onto : {Tok Mark : Type 0} → List Tok → Rest Tok Mark → Rest Tok Mark
onto [] rest = rest
onto (t ∷ ts) rest = token t (onto ts rest)

pub onto-append : {Tok Mark : Type 0} (ts us : List Tok) (rest : Rest Tok Mark)
    → onto (ts ++ us) rest ≡ onto ts (onto us rest)
onto-append [] us rest = refl
onto-append (t ∷ ts) us rest = ap (token t) (onto-append ts us rest)

-- how many tokens are left
abbrev pub size : {Tok Mark : Type 0} → Rest Tok Mark → ℕ
size (end m) = 0
size (token t rest) = suc (size rest)

-- the next token, or the mark of the end
abbrev pub next : {Tok Mark : Type 0} → Rest Tok Mark → Result Tok Mark
next (end m) = Err m
next (token t rest) = Ok t

-- A value and the tokens after it; or the tokens from the one on that cannot stand there, and those
-- directly before it that are told with it; or the tokens from the first one on of a part that says
-- nothing; or parts that nest deeper than was looked at.
pub data Read (Tok Mark A : Type 0) : Type 0 where
  read : A → Rest Tok Mark → Read Tok Mark A
  stopped : List Tok → Rest Tok Mark → Read Tok Mark A
  wrong : Rest Tok Mark → Read Tok Mark A
  deep : Read Tok Mark A

-- the tokens from the one on that cannot stand there, none before it being told
abbrev pub stuck : {Tok Mark A : Type 0} → Rest Tok Mark → Read Tok Mark A
stuck rest = stopped [] rest

abbrev pub bind : {Tok Mark A B : Type 0} → Read Tok Mark A → (A → Rest Tok Mark → Read Tok Mark B)
    → Read Tok Mark B
bind (read a rest) f = f a rest
bind (stopped before rest) f = stopped before rest
bind (wrong rest) f = wrong rest
bind deep f = deep

pub bind_read : {Tok Mark A B : Type 0} (r : Read Tok Mark A)
    (f : A → Rest Tok Mark → Read Tok Mark B) (b : B) (rest : Rest Tok Mark)
    → bind r f ≡ read b rest → (a : A) × (us : Rest Tok Mark) × (r ≡ read a us)
    × (f a us ≡ read b rest)
bind_read (read a us) f b rest e = (a, us, refl, e)
bind_read (stopped before us) f b rest e = absurd cc
bind_read (wrong m) f b rest e = absurd cc
bind_read deep f b rest e = absurd cc

pub bind_deep : {Tok Mark A B : Type 0} (r : Read Tok Mark A)
    (f : A → Rest Tok Mark → Read Tok Mark B) → bind r f ≡ deep → (r ≡ deep → ⊥)
    → ((a : A) (us : Rest Tok Mark) → r ≡ read a us → f a us ≡ deep → ⊥) → ⊥
bind_deep (read a us) f e first second = second a us refl e
bind_deep (stopped before us) f e first second = cc
bind_deep (wrong m) f e first second = cc
bind_deep deep f e first second = first refl

pub bind_wrong : {Tok Mark A B : Type 0} (r : Read Tok Mark A)
    (f : A → Rest Tok Mark → Read Tok Mark B) (rest : Rest Tok Mark) → bind r f ≡ wrong rest
    → (r ≡ wrong rest) ⊎ ((a : A) × (us : Rest Tok Mark) × (r ≡ read a us) × (f a us ≡ wrong rest))
bind_wrong (read a us) f rest e = inr (a, us, refl, e)
bind_wrong (stopped before us) f rest e = absurd cc
bind_wrong (wrong m) f rest e = inl (let p : m ≡ rest = cc in ap wrong p)
bind_wrong deep f rest e = absurd cc

-- what cannot stand there is not read
pub stuck_not_read : {Tok Mark A : Type 0} (r : Read Tok Mark A) (rest : Rest Tok Mark) (a : A)
    (us : Rest Tok Mark) → r ≡ stuck rest → r ≡ read a us → ⊥
stuck_not_read r rest a us e f = cc

-- what was read is the same value and the same rest
pub read_parts : {Tok Mark A : Type 0} (a b : A) (x y : Rest Tok Mark)
    → (let r : Read Tok Mark A = read a x in r ≡ read b y) → (a ≡ b) × (x ≡ y)
read_parts a b x y e = (cc, cc)

-- ---- tests of the next token

-- How tokens are told from one another: a mark for each (its place), and classes, each of which
-- sees some tokens. `apart` is true only of classes that see no token both, `within` only where the
-- second sees what the first sees; `but` has classes for what the first sees and the second does
-- not.
pub record Lexicon (Tok Mark Class : Type 0) : Type 0 where
  pub mark : Tok → Mark
  pub sees : Class → Tok → Bool
  pub apart : Class → Class → Bool
  pub within : Class → Class → Bool
  pub but : Class → Class → List Class
  pub apart-law : (c d : Class) (t : Tok) → apart c d ≡ true → sees c t ≡ true → sees d t ≡ false
  pub within-law : (c d : Class) (t : Tok) → within c d ≡ true → sees c t ≡ true → sees d t ≡ true
  pub but-law : (c d : Class) (t : Tok) → sees c t ≡ true → sees d t ≡ false
      → seen sees (but c d) t ≡ true

-- With what classes a part begins, whether it may be empty, with what classes it would go on where
-- it could end; whether it has parts in it that nest; and whether the next token always tells how
-- to go on.
pub record Shape (Class : Type 0) : Type 0 where
  pub firsts : List Class
  pub empty : Bool
  pub goes : List Class
  pub nests : Bool
  pub fine : Bool

abbrev pub shape : {Class : Type 0} → List Class → Bool → List Class → Shape Class
shape firsts empty goes =
    record { firsts = firsts; empty = empty; goes = goes; nests = false; fine = true }

-- of a part in which parts nest
abbrev pub nested : {Class : Type 0} → List Class → Bool → List Class → Shape Class
nested firsts empty goes =
    record { firsts = firsts; empty = empty; goes = goes; nests = true; fine = true }

-- what was read does not depend on what comes after the next token
pub record LocalRead {Tok Mark A : Type 0} (run : Rest Tok Mark → Read Tok Mark A)
    (ts : Rest Tok Mark) (a : A) (rest : Rest Tok Mark) : Type 0 where
  pub used : List Tok
  pub parts : ts ≡ onto used rest
  pub again : (other : Rest Tok Mark) → next other ≡ next rest
      → run (onto used other) ≡ read a other

-- and where the next token cannot stand, nothing is read, whatever comes after it; what is told with
-- it stands directly before it
pub record LocalStuck {Tok Mark A : Type 0} (run : Rest Tok Mark → Read Tok Mark A)
    (ts : Rest Tok Mark) (before : List Tok) (rest : Rest Tok Mark) : Type 0 where
  pub used : List Tok
  pub parts : ts ≡ onto used rest
  pub front : List Tok
  pub ends : used ≡ front ++ before
  pub again : (other : Rest Tok Mark) → next other ≡ next rest → (a : A) (us : Rest Tok Mark)
      → run (onto used other) ≡ read a us → ⊥

abbrev pub LocalAt : {Tok Mark A : Type 0} → (Rest Tok Mark → Read Tok Mark A) → Rest Tok Mark
    → Read Tok Mark A → Type 0
LocalAt run ts (read a rest) = LocalRead run ts a rest
LocalAt run ts (stopped before rest) = LocalStuck run ts before rest
LocalAt {Tok = Tok} run ts (wrong rest) = (used : List Tok) × (ts ≡ onto used rest)
LocalAt run ts deep = Unit {0}

pub record Sound {Tok Mark A : Type 0} (R : List Tok → A → Type 0) (ts : Rest Tok Mark) (a : A)
    (rest : Rest Tok Mark) : Type 0 where
  pub used : List Tok
  pub parts : ts ≡ onto used rest
  pub holds : R used a

module _ {Tok Mark Class : Type 0} (L : Lexicon Tok Mark Class) where
  abbrev pub seen_by : List Class → Tok → Bool
  seen_by cs t = seen L.sees cs t

  -- one of the classes sees the next token
  unfoldable pub starts : List Class → Rest Tok Mark → Bool
  starts cs (end m) = false
  starts cs (token t rest) = seen_by cs t

  -- no token is seen by the class and by one of the list
  abbrev pub apart_from : Class → List Class → Bool
  apart_from c [] = true
  apart_from c (d ∷ ds) = L.apart c d && apart_from c ds

  abbrev pub all_apart : List Class → List Class → Bool
  all_apart [] ds = true
  all_apart (c ∷ cs) ds = apart_from c ds && all_apart cs ds

  -- what the class sees one of the list sees
  abbrev pub within_one : Class → List Class → Bool
  within_one c [] = false
  within_one c (d ∷ ds) = L.within c d || within_one c ds

  abbrev pub all_within : List Class → List Class → Bool
  all_within [] ds = true
  all_within (c ∷ cs) ds = within_one c ds && all_within cs ds

  abbrev pub Begins : List Class → Bool → List Tok → Type 0
  Begins cs empty [] = empty ≡ true
  Begins cs empty (t ∷ ts) = seen_by cs t ≡ true

  pub record Reader {A : Type 0} (R : List Tok → A → Type 0) (s : Shape Class) : Type 0 where
    pub run : Rest Tok Mark → Read Tok Mark A
    pub local : (ts : Rest Tok Mark) → LocalAt run ts (run ts)
    pub sound : (ts : Rest Tok Mark) (a : A) (rest : Rest Tok Mark) → run ts ≡ read a rest
        → Sound R ts a rest
    pub complete : s.fine ≡ true → (used : List Tok) (a : A) (rest : Rest Tok Mark) → R used a
        → starts s.goes rest ≡ false → run (onto used rest) ≡ read a rest
    pub begins : (used : List Tok) (a : A) → R used a → Begins s.firsts s.empty used
    pub shallow : s.nests ≡ false → (ts : Rest Tok Mark) → run ts ≡ deep → ⊥

-- ---- truth values

pub and_left : (a b : Bool) → (a && b) ≡ true → a ≡ true
and_left true b e = refl
and_left false b e = absurd cc

pub and_right : (a b : Bool) → (a && b) ≡ true → b ≡ true
and_right true b e = e
and_right false b e = absurd cc

pub or_left : (a b : Bool) → (a || b) ≡ false → a ≡ false
or_left true b e = absurd cc
or_left false b e = refl

pub or_right : (a b : Bool) → (a || b) ≡ false → b ≡ false
or_right true b e = absurd cc
or_right false b e = e

pub or_true : (a b : Bool) → b ≡ true → (a || b) ≡ true
or_true true b e = refl
or_true false b e = e

pub not_true : (a : Bool) → not a ≡ true → a ≡ false
not_true true e = absurd cc
not_true false e = refl

-- what holds in neither case does not hold
pub false_by : (a : Bool) → (a ≡ true → ⊥) → a ≡ false
false_by true f = absurd (f refl)
false_by false f = refl

-- ---- classes

pub next-onto : {Tok Mark : Type 0} (used : List Tok) (rest other : Rest Tok Mark)
    → next other ≡ next rest → next (onto used other) ≡ next (onto used rest)
next-onto [] rest other h = h
next-onto (t ∷ ts) rest other h = refl

module _ {Tok Mark Class : Type 0} (L : Lexicon Tok Mark Class) where
  pub seen_by-append : (cs ds : List Class) (t : Tok)
      → seen_by L (cs ++ ds) t ≡ (seen_by L cs t || seen_by L ds t)
  seen_by-append [] ds t = refl
  seen_by-append (c ∷ cs) ds t = go (L.sees c t) (seen_by-append cs ds t)
    where
      go : (b : Bool) → seen_by L (cs ++ ds) t ≡ (seen_by L cs t || seen_by L ds t)
          → (b || seen_by L (cs ++ ds) t) ≡ ((b || seen_by L cs t) || seen_by L ds t)
      go true e = refl
      go false e = e

  pub starts-onto : (cs : List Class) (t : Tok) (rest : Rest Tok Mark)
      → starts L cs (token t rest) ≡ seen_by L cs t
  unfolding starts
  starts-onto cs t rest = refl

  pub starts-next : (cs : List Class) (rest other : Rest Tok Mark) → next other ≡ next rest
      → starts L cs other ≡ starts L cs rest
  unfolding starts
  starts-next cs (end m) (end n) e = refl
  starts-next cs (end m) (token u us) e = absurd cc
  starts-next cs (token t ts) (end n) e = absurd cc
  starts-next cs (token t ts) (token u us) e = let p : u ≡ t = cc in ap (seen_by L cs) p

  pub starts-append : (cs ds : List Class) (rest : Rest Tok Mark)
      → starts L (cs ++ ds) rest ≡ (starts L cs rest || starts L ds rest)
  unfolding starts
  starts-append cs ds (end m) = refl
  starts-append cs ds (token t rest) = seen_by-append cs ds t

  apart_from-law : (c : Class) (ds : List Class) (t : Tok) → apart_from L c ds ≡ true
      → L.sees c t ≡ true → seen_by L ds t ≡ false
  apart_from-law c [] t h e = refl
  apart_from-law c (d ∷ ds) t h e =
      let x : L.sees d t ≡ false = L.apart-law c d t (and_left _ _ h) e in
      let y : seen_by L ds t ≡ false = apart_from-law c ds t (and_right _ _ h) e in
      rw x y

  pub all_apart-law : (cs ds : List Class) (t : Tok) → all_apart L cs ds ≡ true
      → seen_by L cs t ≡ true → seen_by L ds t ≡ false
  all_apart-law [] ds t h e = absurd cc
  all_apart-law (c ∷ cs) ds t h e = go (L.sees c t) refl e (all_apart-law cs ds t (and_right _ _ h))
    where
      go : (b : Bool) → L.sees c t ≡ b → (b || seen_by L cs t) ≡ true
          → (seen_by L cs t ≡ true → seen_by L ds t ≡ false) → seen_by L ds t ≡ false
      go true k e f = apart_from-law c ds t (and_left _ _ h) k
      go false k e f = f e

  within_one-law : (c : Class) (ds : List Class) (t : Tok) → within_one L c ds ≡ true
      → L.sees c t ≡ true → seen_by L ds t ≡ true
  within_one-law c [] t h e = absurd cc
  within_one-law c (d ∷ ds) t h e = go (L.within c d) refl h (λ i. within_one-law c ds t i e)
    where
      go : (b : Bool) → L.within c d ≡ b → (b || within_one L c ds) ≡ true
          → (within_one L c ds ≡ true → seen_by L ds t ≡ true) → seen_by L (d ∷ ds) t ≡ true
      go true k i f = rw (L.within-law c d t k e) refl
      go false k i f = or_true (L.sees d t) _ (f i)

  pub all_within-law : (cs ds : List Class) (t : Tok) → all_within L cs ds ≡ true
      → seen_by L cs t ≡ true → seen_by L ds t ≡ true
  all_within-law [] ds t h e = absurd cc
  all_within-law (c ∷ cs) ds t h e =
      go (L.sees c t) refl e (all_within-law cs ds t (and_right _ _ h))
    where
      go : (b : Bool) → L.sees c t ≡ b → (b || seen_by L cs t) ≡ true
          → (seen_by L cs t ≡ true → seen_by L ds t ≡ true) → seen_by L ds t ≡ true
      go true k e f = within_one-law c ds t (and_left _ _ h) k
      go false k e f = f e

  -- no class of two lists, or of three, sees the next token
  pub first-of : (cs ds : List Class) (rest : Rest Tok Mark) → starts L (cs ++ ds) rest ≡ false
      → starts L cs rest ≡ false
  first-of cs ds rest e =
      or_left (starts L cs rest) (starts L ds rest) (sym (starts-append cs ds rest) ∙ e)

  pub last-of : (cs ds : List Class) (rest : Rest Tok Mark) → starts L (cs ++ ds) rest ≡ false
      → starts L ds rest ≡ false
  last-of cs ds rest e =
      or_right (starts L cs rest) (starts L ds rest) (sym (starts-append cs ds rest) ∙ e)

  pub starts-within : (cs ds : List Class) (rest : Rest Tok Mark) → all_within L cs ds ≡ true
      → starts L ds rest ≡ false → starts L cs rest ≡ false
  unfolding starts
  starts-within cs ds (end m) h e = refl
  starts-within cs ds (token t rest) h e =
      false_by _ (λ k. let i : seen_by L ds t ≡ true = all_within-law cs ds t h k in absurd cc)

  -- what begins with the first classes, before what does not start with the second, does not start
  -- with the second
  pub begins-apart : (cs ds : List Class) (empty : Bool) (used : List Tok) (rest : Rest Tok Mark)
      → all_apart L cs ds ≡ true → Begins L cs empty used
      → (empty ≡ true → starts L ds rest ≡ false) → starts L ds (onto used rest) ≡ false
  unfolding starts
  begins-apart cs ds empty [] rest h b e = e b
  begins-apart cs ds empty (t ∷ ts) rest h b e = all_apart-law cs ds t h b

  pub begins-starts : (cs : List Class) (empty : Bool) (used : List Tok) (rest : Rest Tok Mark)
      → empty ≡ false → Begins L cs empty used → starts L cs (onto used rest) ≡ true
  unfolding starts
  begins-starts cs empty [] rest n b = absurd cc
  begins-starts cs empty (t ∷ ts) rest n b = b

-- two functions that agree on the lists with this next token
pub local-same : {Tok Mark A : Type 0} (run run' : Rest Tok Mark → Read Tok Mark A)
    (ts : Rest Tok Mark) (r : Read Tok Mark A)
    → ((us : Rest Tok Mark) → next us ≡ next ts → run' us ≡ run us) → LocalAt run ts r
    → LocalAt run' ts r
local-same run run' ts (read a rest) same l =
    record {
      used = l.used;
      parts = l.parts;
      again =
          λ other h.
          same (onto l.used other) (next-onto l.used rest other h ∙ ap next (sym l.parts))
          ∙ l.again other h;
    }
local-same run run' ts (stopped before rest) same l =
    record {
      used = l.used;
      parts = l.parts;
      front = l.front;
      ends = l.ends;
      again =
          λ other h a us e. l.again other h a us
          (sym (same (onto l.used other) (next-onto l.used rest other h ∙ ap next (sym l.parts)))
          ∙ e);
    }
local-same run run' ts (wrong rest) same l = l
local-same run run' ts deep same l = tt
