-- No public clause rests on this file.
-- Readers of parts that stand under a condition, and of parts joined from them.
use Rattle.std.proofs.Common.{◌≡◌, List, [], ◌∷◌, ◌++◌, Option, Some, None, Bool, true, false, ◌&&◌}
use Rattle.std.proofs.Common.{◌||◌, cond, refl, sym, ap, ◌∙◌}
use Rattle.protobuf_parse_grammar.specs.Relations.{OneOrMore, Separated, Unless}
use Rattle.protobuf_parse_grammar.specs.Restrictions.{Optional, Meant, Only}
use Rattle.protobuf_parse_grammar.specs.Relations.{BeginsOtherwise, At}
use Rattle.protobuf_parse_grammar.specs.Readers.{Rest, end, token, onto, next, Read, read, stuck, stopped}
use Rattle.protobuf_parse_grammar.specs.Readers.{wrong, deep, bind, bind_read, bind_deep}
use Rattle.protobuf_parse_grammar.specs.Readers.{read_parts, stuck_not_read, Lexicon, Shape, shape}
use Rattle.protobuf_parse_grammar.specs.Readers.{LocalAt, LocalRead, Sound, seen_by, starts}
use Rattle.protobuf_parse_grammar.specs.Readers.{starts-next, starts-onto, Begins, Reader}
use Rattle.protobuf_parse_grammar.specs.Readers.{local-same}
use Rattle.protobuf_parse_grammar.specs.Combinators.{give, ◌>>=◌, ◌>>◌, then_shape, either_shape}
use Rattle.protobuf_parse_grammar.specs.Combinators.{choose, many}
use Rattle.protobuf_parse_grammar.specs.Readers.{seen_by-append}
use Rattle.protobuf_parse_grammar.specs.Combinators.{many_shape, pick, pick-local-at}
use Rattle.protobuf_parse_grammar.specs.Readers.{or_true}

stuck-local : {Tok Mark A : Type 0} (ts : Rest Tok Mark) → LocalAt {A = A} stuck ts (stuck ts)
stuck-local ts =
    record {
      used = [];
      parts = refl;
      front = [];
      ends = refl;
      again =
          λ other e a us h. stuck_not_read (stuck other) other a us refl h;
    }

-- ---- only where b is true

module _ {Tok Mark Class A : Type 0} {L : Lexicon Tok Mark Class} {R : List Tok → A → Type 0}
    {s : Shape Class} where
  abbrev pub run_only : Bool → Reader L R s → Rest Tok Mark → Read Tok Mark A
  run_only b p ts = cond b (p.run ts) (stuck ts)

  pub only-local : (b : Bool) (p : Reader L R s) (ts : Rest Tok Mark)
      → LocalAt (run_only b p) ts (run_only b p ts)
  only-local true p ts = p.local ts
  only-local false p ts = stuck-local ts

  pub only-sound : (b : Bool) (p : Reader L R s) (ts : Rest Tok Mark) (a : A) (rest : Rest Tok Mark)
      → run_only b p ts ≡ read a rest → Sound (Only b R) ts a rest
  only-sound true p ts a rest e = let l = p.sound ts a rest e in
      record { used = l.used; parts = l.parts; holds = (refl, l.holds) }
  only-sound false p ts a rest e = absurd cc

  pub only-complete : (b : Bool) (p : Reader L R s) → s.fine ≡ true
      → (used : List Tok) (a : A) (rest : Rest Tok Mark) → Only b R used a
      → starts L s.goes rest ≡ false → run_only b p (onto used rest) ≡ read a rest
  only-complete b p fine used a rest h e = rw h.0 (p.complete fine used a rest h.1 e)

  pub only-shallow : (b : Bool) (p : Reader L R s) → s.nests ≡ false → (ts : Rest Tok Mark)
      → run_only b p ts ≡ deep → ⊥
  only-shallow true p n ts e = p.shallow n ts e
  only-shallow false p n ts e = cc

abbrev pub only : {Tok Mark Class A : Type 0} {L : Lexicon Tok Mark Class}
    {R : List Tok → A → Type 0} {s : Shape Class} (b : Bool) → Reader L R s → Reader L (Only b R) s
only b p =
    record {
      run = run_only b p;
      local = only-local b p;
      sound = only-sound b p;
      complete =
          only-complete b p;
      begins = λ used a h. p.begins used a h.1;
      shallow =
          λ n ts e. only-shallow b p n ts e;
    }

-- ---- with another first token

module _ {Tok Mark Class : Type 0} (L : Lexicon Tok Mark Class) where
  abbrev pub but_one : List Class → Class → List Class
  but_one [] d = []
  but_one (c ∷ cs) d = L.but c d ++ but_one cs d

  -- classes for what the first list sees and the second does not
  abbrev pub without : List Class → List Class → List Class
  without cs [] = cs
  without cs (d ∷ ds) = without (but_one cs d) ds

  but_one-law : (cs : List Class) (d : Class) (t : Tok) → seen_by L cs t ≡ true → L.sees d t ≡ false
      → seen_by L (but_one cs d) t ≡ true
  but_one-law [] d t h e = absurd cc
  but_one-law (c ∷ cs) d t h e =
      rw (seen_by-append L (L.but c d) (but_one cs d) t)
      (go (L.sees c t) refl h (λ i. but_one-law cs d t i e))
    where
      go : (b : Bool) → L.sees c t ≡ b → (b || seen_by L cs t) ≡ true
          → (seen_by L cs t ≡ true → seen_by L (but_one cs d) t ≡ true)
          → (seen_by L (L.but c d) t || seen_by L (but_one cs d) t) ≡ true
      go true k i f = rw (L.but-law c d t k e) refl
      go false k i f = or_true _ _ (f i)

  pub without-law : (cs ds : List Class) (t : Tok) → seen_by L cs t ≡ true → seen_by L ds t ≡ false
      → seen_by L (without cs ds) t ≡ true
  without-law cs [] t h e = h
  without-law cs (d ∷ ds) t h e =
      go (L.sees d t) refl e (λ k i. without-law (but_one cs d) ds t (but_one-law cs d t h k) i)
    where
      go : (b : Bool) → L.sees d t ≡ b → (b || seen_by L ds t) ≡ false
          → (L.sees d t ≡ false → seen_by L ds t ≡ false
          → seen_by L (without (but_one cs d) ds) t ≡ true)
          → seen_by L (without (but_one cs d) ds) t ≡ true
      go true k i f = absurd cc
      go false k i f = f k i

abbrev pub unless_shape : {Tok Mark Class : Type 0} → Lexicon Tok Mark Class → List Class
    → Shape Class → Shape Class
unless_shape L ds s =
    record {
      firsts = without L s.firsts ds;
      empty = false;
      goes = s.goes;
      nests = s.nests;
      fine =
          s.fine;
    }

module _ {Tok Mark Class A : Type 0} {L : Lexicon Tok Mark Class} {R : List Tok → A → Type 0}
    {s : Shape Class} (ds : List Class) (p : Reader L R s) where
  abbrev pub run_unless : Rest Tok Mark → Read Tok Mark A
  run_unless ts = pick (starts L ds) stuck p.run ts

  pub unless-local : (ts : Rest Tok Mark) → LocalAt run_unless ts (run_unless ts)
  unless-local ts = pick-local-at (starts L ds) (λ us vs h. starts-next L ds vs us h) stuck p.run ts
      (starts L ds ts) refl (stuck-local ts) (p.local ts)

  unless-shallow-at : s.nests ≡ false → (ts : Rest Tok Mark) (b : Bool)
      → cond b (stuck ts) (p.run ts) ≡ deep → ⊥
  unless-shallow-at n ts true e = cc
  unless-shallow-at n ts false e = p.shallow n ts e

  pub unless-shallow : s.nests ≡ false → (ts : Rest Tok Mark) → run_unless ts ≡ deep → ⊥
  unless-shallow n ts e = unless-shallow-at n ts (starts L ds ts) e

  module _ (some : s.empty ≡ false) where
    otherwise : (used : List Tok) (rest : Rest Tok Mark) → Begins L s.firsts s.empty used
        → starts L ds (onto used rest) ≡ false → BeginsOtherwise (seen_by L ds) used
    otherwise [] rest h e = tt
    otherwise (t ∷ ts) rest h e = sym (starts-onto L ds t (onto ts rest)) ∙ e

    unless-sound-at : (b : Bool) (ts : Rest Tok Mark) (a : A) (rest : Rest Tok Mark)
        → starts L ds ts ≡ b → cond b (stuck ts) (p.run ts) ≡ read a rest
        → Sound (Unless (seen_by L ds) R) ts a rest
    unless-sound-at true ts a rest e h = absurd cc
    unless-sound-at false ts a rest e h = let l = p.sound ts a rest h in
        record {
          used = l.used;
          parts = l.parts;
          holds = (l.holds, otherwise l.used rest (p.begins l.used a l.holds) (rw l.parts at e));
        }

    pub unless-sound : (ts : Rest Tok Mark) (a : A) (rest : Rest Tok Mark)
        → run_unless ts ≡ read a rest → Sound (Unless (seen_by L ds) R) ts a rest
    unless-sound ts a rest e = unless-sound-at (starts L ds ts) ts a rest refl e

    not_started : (used : List Tok) (rest : Rest Tok Mark) → Begins L s.firsts s.empty used
        → BeginsOtherwise (seen_by L ds) used → starts L ds (onto used rest) ≡ false
    not_started [] rest h o = absurd cc
    not_started (t ∷ ts) rest h o = starts-onto L ds t (onto ts rest) ∙ o

    pub unless-complete : s.fine ≡ true → (used : List Tok) (a : A) (rest : Rest Tok Mark)
        → Unless (seen_by L ds) R used a → starts L s.goes rest ≡ false
        → run_unless (onto used rest) ≡ read a rest
    unless-complete fine used a rest h e =
        rw (not_started used rest (p.begins used a h.0) h.1) (p.complete fine used a rest h.0 e)

    unless-begins-at : (used : List Tok) → Begins L s.firsts s.empty used
        → BeginsOtherwise (seen_by L ds) used → Begins L (without L s.firsts ds) false used
    unless-begins-at [] h o = absurd cc
    unless-begins-at (t ∷ ts) h o = without-law L s.firsts ds t h o

    pub unless-begins : (used : List Tok) (a : A) → Unless (seen_by L ds) R used a
        → Begins L (without L s.firsts ds) false used
    unless-begins used a h = unless-begins-at used (p.begins used a h.0) h.1

-- a part, which is not empty, that begins with a token of none of the classes
abbrev pub unless : {Tok Mark Class A : Type 0} {L : Lexicon Tok Mark Class}
    {R : List Tok → A → Type 0} {s : Shape Class} (ds : List Class) (p : Reader L R s)
    → s.empty ≡ false → Reader L (Unless (seen_by L ds) R) (unless_shape L ds s)
unless ds p some =
    record {
      run = run_unless ds p;
      local = unless-local ds p;
      sound = unless-sound ds p some;
      complete = unless-complete ds p some;
      begins = unless-begins ds p some;
      shallow =
          unless-shallow ds p;
    }

-- ---- with the mark of the first token

-- the mark of the next token, or of the end
abbrev pub mark_of : {Tok Mark : Type 0} → (Tok → Mark) → Rest Tok Mark → Mark
mark_of mark (end m) = m
mark_of mark (token t rest) = mark t

mark-next : {Tok Mark : Type 0} (mark : Tok → Mark) (us ts : Rest Tok Mark) → next us ≡ next ts
    → mark_of mark us ≡ mark_of mark ts
mark-next mark (end m) (end n) e = cc
mark-next mark (end m) (token t ts) e = absurd cc
mark-next mark (token u us) (end n) e = absurd cc
mark-next mark (token u us) (token t ts) e = let p : u ≡ t = cc in ap mark p

module _ {Tok Mark Class A : Type 0} {L : Lexicon Tok Mark Class} {R : Mark → List Tok → A → Type 0}
    {s : Shape Class} (f : (m : Mark) → Reader L (R m) s) where
  abbrev pub run_at : Rest Tok Mark → Read Tok Mark A
  run_at ts = (f (mark_of L.mark ts)).run ts

  pub at-local : (ts : Rest Tok Mark) → LocalAt run_at ts (run_at ts)
  at-local ts = local-same (f (mark_of L.mark ts)).run run_at ts (run_at ts)
      (λ us h. ap (λ m. (f m).run us) (mark-next L.mark us ts h)) ((f (mark_of L.mark ts)).local ts)

  module _ (some : s.empty ≡ false) where
    at-holds : (used : List Tok) (a : A) (rest : Rest Tok Mark)
        → R (mark_of L.mark (onto used rest)) used a → At L.mark R used a
    at-holds [] a rest h = let n = (f (mark_of L.mark rest)).begins [] a h in cc
    at-holds (t ∷ ts) a rest h = h

    pub at-sound : (ts : Rest Tok Mark) (a : A) (rest : Rest Tok Mark) → run_at ts ≡ read a rest
        → Sound (At L.mark R) ts a rest
    at-sound ts a rest e =
        let l = (f (mark_of L.mark ts)).sound ts a rest e in
        record {
          used = l.used;
          parts = l.parts;
          holds =
              at-holds l.used a rest (rw (← l.parts) l.holds);
        }

  pub at-complete : s.fine ≡ true → (used : List Tok) (a : A) (rest : Rest Tok Mark)
      → At L.mark R used a → starts L s.goes rest ≡ false → run_at (onto used rest) ≡ read a rest
  at-complete fine [] a rest h e = absurd h
  at-complete fine (t ∷ ts) a rest h e = (f (L.mark t)).complete fine (t ∷ ts) a rest h e

  pub at-begins : (used : List Tok) (a : A) → At L.mark R used a → Begins L s.firsts s.empty used
  at-begins [] a h = absurd h
  at-begins (t ∷ ts) a h = (f (L.mark t)).begins (t ∷ ts) a h

-- a part, which is not empty, that may depend on the mark of its first token
abbrev pub at : {Tok Mark Class A : Type 0} {L : Lexicon Tok Mark Class}
    {R : Mark → List Tok → A → Type 0} {s : Shape Class} (f : (m : Mark) → Reader L (R m) s)
    → s.empty ≡ false → Reader L (At L.mark R) s
at f some =
    record {
      run = run_at f;
      local = at-local f;
      sound = at-sound f some;
      complete = at-complete f;
      begins = at-begins f;
      shallow = λ n ts e. (f (mark_of _ ts)).shallow n ts e;
    }

-- ---- with a meaning

module _ {Tok Mark Class A B : Type 0} {L : Lexicon Tok Mark Class} {R : List Tok → A → Type 0}
    {s : Shape Class} (p : Reader L R s) (means : A → Option B) where
  abbrev pub meaning : Rest Tok Mark → Option B → Rest Tok Mark → Read Tok Mark B
  meaning ts None rest = wrong ts
  meaning ts (Some b) rest = read b rest

  abbrev pub run_meant : Rest Tok Mark → Read Tok Mark B
  run_meant ts = bind (p.run ts) (λ a us. meaning ts (means a) us)

  meaning-local : (ts : Rest Tok Mark) (a : A) (rest : Rest Tok Mark) → LocalRead p.run ts a rest
      → (o : Option B) → means a ≡ o → LocalAt run_meant ts (meaning ts o rest)
  meaning-local ts a rest l None e = ([], refl)
  meaning-local ts a rest l (Some b) e =
      record { used = l.used; parts = l.parts; again = λ other h. rw (l.again other h, e) refl }

  meant-local-at : (ts : Rest Tok Mark) (r : Read Tok Mark A) → LocalAt p.run ts r
      → LocalAt run_meant ts (bind r (λ a us. meaning ts (means a) us))
  meant-local-at ts (read a rest) l = meaning-local ts a rest l (means a) refl
  meant-local-at ts (stopped before rest) l =
      record {
        used = l.used;
        parts = l.parts;
        front = l.front;
        ends = l.ends;
        again =
            λ other h b us e.
            let x = bind_read (p.run (onto l.used other))
            (λ a vs. meaning (onto l.used other) (means a) vs) b us e in
            l.again other h x.0 x.1 x.2;
      }
  meant-local-at ts (wrong rest) l = l
  meant-local-at ts deep l = tt

  pub meant-local : (ts : Rest Tok Mark) → LocalAt run_meant ts (run_meant ts)
  meant-local ts = meant-local-at ts (p.run ts) (p.local ts)

  pub meaning-shallow : (ts : Rest Tok Mark) (o : Option B) (us : Rest Tok Mark)
      → meaning ts o us ≡ deep → ⊥
  meaning-shallow ts None us e = cc
  meaning-shallow ts (Some b) us e = cc

  pub meant-shallow : s.nests ≡ false → (ts : Rest Tok Mark) → run_meant ts ≡ deep → ⊥
  meant-shallow n ts e =
      bind_deep (p.run ts) (λ a us. meaning ts (means a) us) e (p.shallow n ts)
      (λ a us h i. meaning-shallow ts (means a) us i)

  meaning-read : (ts : Rest Tok Mark) (o : Option B) (us : Rest Tok Mark) (b : B)
      (rest : Rest Tok Mark) → meaning ts o us ≡ read b rest → (o ≡ Some b) × (us ≡ rest)
  meaning-read ts None us b rest e = absurd cc
  meaning-read ts (Some c) us b rest e =
      let h = read_parts c b us rest e in (ap (λ (x : B). Some x) h.0, h.1)

  pub meant-sound : (ts : Rest Tok Mark) (b : B) (rest : Rest Tok Mark) → run_meant ts ≡ read b rest
      → Sound (Meant R means) ts b rest
  meant-sound ts b rest e =
      let x = bind_read (p.run ts) (λ a us. meaning ts (means a) us) b rest e in
      let y = meaning-read ts (means x.0) x.1 b rest x.3 in
      let l = p.sound ts x.0 x.1 x.2 in
      record { used = l.used; parts = l.parts ∙ ap (onto l.used) y.1; holds = (x.0, l.holds, y.0) }

  pub meant-complete : s.fine ≡ true → (used : List Tok) (b : B) (rest : Rest Tok Mark)
      → Meant R means used b → starts L s.goes rest ≡ false
      → run_meant (onto used rest) ≡ read b rest
  meant-complete fine used b rest h e = rw (p.complete fine used h.0 rest h.1 e, h.2) refl

-- a part whose value means something, or else is wrong at its first token
abbrev pub meant : {Tok Mark Class A B : Type 0} {L : Lexicon Tok Mark Class}
    {R : List Tok → A → Type 0} {s : Shape Class} (p : Reader L R s) (means : A → Option B)
    → Reader L (Meant R means) s
meant p means =
    record {
      run = run_meant p means;
      local = meant-local p means;
      sound = meant-sound p means;
      complete = meant-complete p means;
      begins = λ used b h. p.begins used h.0 h.1;
      shallow =
          meant-shallow p means;
    }

-- ---- joined parts

abbrev pub optional_shape : {Tok Mark Class : Type 0} → Lexicon Tok Mark Class → Shape Class
    → Shape Class
optional_shape L s = either_shape L (then_shape L s (shape [] true [])) (shape [] true [])

-- with a value made of the first
pub both_empty : (a : Bool) → a ≡ false → (a && true) ≡ false
both_empty a e = rw e refl

abbrev pub optional : {Tok Mark Class A : Type 0} {L : Lexicon Tok Mark Class}
    {R : List Tok → A → Type 0} {s : Shape Class} (p : Reader L R s) → s.empty ≡ false
    → Reader L (Optional R) (optional_shape L s)
optional {s = s} p some = choose (do a ← p; give (Some a)) (both_empty s.empty some) (give None)

abbrev pub one_or_more_shape : {Tok Mark Class : Type 0} → Lexicon Tok Mark Class → Shape Class
    → Shape Class
one_or_more_shape L s = then_shape L s (then_shape L (many_shape L s) (shape [] true []))

abbrev pub one_or_more : {Tok Mark Class A : Type 0} {L : Lexicon Tok Mark Class}
    {R : List Tok → A → Type 0} {s : Shape Class} (p : Reader L R s) → s.empty ≡ false
    → Reader L (OneOrMore R) (one_or_more_shape L s)
one_or_more p some = do first ← p; others ← many p some; give (first ∷ others)

abbrev pub separated_shape : {Tok Mark Class : Type 0} → Lexicon Tok Mark Class → Shape Class
    → Shape Class → Shape Class
separated_shape L s t =
    then_shape L t (then_shape L (many_shape L (then_shape L s t)) (shape [] true []))

pub first_empty : (a b : Bool) → a ≡ false → (a && b) ≡ false
first_empty a b e = rw e refl

-- with such a separator, which is not empty, between each two
abbrev pub separated : {Tok Mark Class A B : Type 0} {L : Lexicon Tok Mark Class}
    {S : List Tok → B → Type 0} {R : List Tok → A → Type 0} {s t : Shape Class}
    (separator : Reader L S s) → s.empty ≡ false → (p : Reader L R t)
    → Reader L (Separated S R) (separated_shape L s t)
separated {s = s} {t = t} separator some p = do
  first ← p
  others ← many (do separator; p) (first_empty s.empty t.empty some)
  give (first ∷ others)
