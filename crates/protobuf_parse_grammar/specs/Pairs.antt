-- No public clause rests on this file.
-- Productions in which parts nest, written once for two depths: a reader of what the parts are at
-- one depth and of what they are at the next, with what one level more changes.
use Rattle.std.proofs.Common.{◌≡◌, ℕ, zero, suc, ◌≤◌, List, [], ◌∷◌, Option, Some, None, Bool, true}
use Rattle.std.proofs.Common.{false, refl, inl, inr, arith}
use Rattle.protobuf_parse_grammar.specs.Relations.{Rel, Nothing, Then, Either, Many}
use Rattle.protobuf_parse_grammar.specs.Restrictions.{Optional}
use Rattle.protobuf_parse_grammar.specs.Relations.{Separated, Unless, At, Level}
use Rattle.protobuf_parse_grammar.specs.Restrictions.{Only, Meant}
use Rattle.protobuf_parse_grammar.specs.Combinators as reader
use Rattle.protobuf_parse_grammar.specs.Readers as read
use Rattle.protobuf_parse_grammar.specs.Readers.{Rest, Read, deep, Lexicon, Shape, shape, Reader}
use Rattle.protobuf_parse_grammar.specs.Readers.{size, seen_by}
use Rattle.protobuf_parse_grammar.specs.Combinators.{then_shape, either_shape, many_shape, covers}
use Rattle.protobuf_parse_grammar.specs.Conditions as part
use Rattle.protobuf_parse_grammar.specs.Conditions.{optional_shape, separated_shape, unless_shape}
use Rattle.protobuf_parse_grammar.specs.Conditions.{both_empty, first_empty}
use Rattle.protobuf_parse_grammar.specs.Depth.{Near, NearAt, near_same, near_less, near-then}
use Rattle.protobuf_parse_grammar.specs.Depth.{near-deeper, near-choose, near-many, near-at}
use Rattle.protobuf_parse_grammar.specs.Depth.{near-unless, near-only, near-meant, none_so_deep}

-- a reader at one depth and at the next, which agree on lists of fewer than k tokens
pub record Pair {Tok Mark Class A : Type 0} (L : Lexicon Tok Mark Class)
    (R R' : List Tok → A → Type 0) (s : Shape Class) (k : ℕ) : Type 0 where
  pub low : Reader L R s
  pub high : Reader L R' s
  pub near : Near k low.run high.run

-- a part in which nothing nests
abbrev pub same : {Tok Mark Class A : Type 0} {L : Lexicon Tok Mark Class}
    {R : List Tok → A → Type 0} {s : Shape Class} {k : ℕ} (p : Reader L R s) → s.nests ≡ false
    → Pair L R R s k
same p flat = record { low = p; high = p; near = near_same p flat }

pub near-both : {Tok Mark Class A : Type 0} {L : Lexicon Tok Mark Class} {R : List Tok → A → Type 0}
    {s : Shape Class} (p : Reader L R s) → Near 0 p.run p.run
near-both {Tok = Tok} {Mark = Mark} {A = A} p ts = go (p.run ts)
  where
    go : (r : Read Tok Mark A) → NearAt 0 ts r r
    go (read.read a rest) = inl (refl, λ e. cc)
    go (read.stopped before rest) = inl (refl, λ e. cc)
    go (read.wrong m) = inl (refl, λ e. cc)
    go read.deep = inr (refl, omega arith)

-- a reader as such a pair
abbrev pub both : {Tok Mark Class A : Type 0} {L : Lexicon Tok Mark Class}
    {R : List Tok → A → Type 0} {s : Shape Class} (p : Reader L R s) → Pair L R R s 0
both p = record { low = p; high = p; near = near-both p }

abbrev pub less : {Tok Mark Class A : Type 0} {L : Lexicon Tok Mark Class}
    {R R' : List Tok → A → Type 0} {s : Shape Class} (n k : ℕ) → k ≤ n → Pair L R R' s n
    → Pair L R R' s k
less n k h p = record { low = p.low; high = p.high; near = near_less n k h p.near }

abbrev pub give : {Tok Mark Class A : Type 0} {L : Lexicon Tok Mark Class} {k : ℕ} (value : A)
    → Pair L (Nothing value) (Nothing value) (shape [] true []) k
give value = same (reader.give value) refl

infixl 10 ◌>>=◌
abbrev pub ◌>>=◌ : {Tok Mark Class A B : Type 0} {L : Lexicon Tok Mark Class}
    {R R' : List Tok → A → Type 0} {S S' : A → List Tok → B → Type 0} {s t : Shape Class} {k : ℕ}
    → Pair L R R' s k → ((a : A) → Pair L (S a) (S' a) t k)
    → Pair L (Then R S) (Then R' S') (then_shape L s t) k
◌>>=◌ {k = k} p f =
    record {
      low = reader.◌>>=◌ p.low (λ a. (f a).low);
      high = reader.◌>>=◌ p.high (λ a. (f a).high);
      near = near-then p.low p.high (λ a. (f a).low) (λ a. (f a).high) k p.near (λ a. (f a).near);
    }

infixl 10 ◌>>◌
abbrev pub ◌>>◌ : {Tok Mark Class A B : Type 0} {L : Lexicon Tok Mark Class}
    {R R' : List Tok → A → Type 0} {S S' : List Tok → B → Type 0} {s t : Shape Class} {k : ℕ}
    → Pair L R R' s k → Pair L S S' t k
    → Pair L (Then R (λ a. S)) (Then R' (λ a. S')) (then_shape L s t) k
p >> q = p >>= (λ a. q)

-- behind a part in which nothing nests, and which is not empty: parts that may be a level deeper
abbrev pub behind : {Tok Mark Class A B : Type 0} {L : Lexicon Tok Mark Class}
    {R : List Tok → A → Type 0} {S S' : List Tok → B → Type 0} {s t : Shape Class} {k : ℕ}
    (p : Reader L R s) → s.nests ≡ false → s.empty ≡ false → Pair L S S' t k
    → Pair L (Then R (λ a. S)) (Then R (λ a. S')) (then_shape L s t) (suc k)
behind {k = k} p flat some q =
    record {
      low = reader.◌>>◌ p q.low;
      high = reader.◌>>◌ p q.high;
      near =
          near-deeper p p (λ a. q.low) (λ a. q.high) k some (near_same p flat) (λ a. q.near);
    }

-- behind such a part, on whose value they may depend
abbrev pub past : {Tok Mark Class A B : Type 0} {L : Lexicon Tok Mark Class}
    {R : List Tok → A → Type 0} {S S' : A → List Tok → B → Type 0} {s t : Shape Class} {k : ℕ}
    (p : Reader L R s) → s.nests ≡ false → s.empty ≡ false → ((a : A) → Pair L (S a) (S' a) t k)
    → Pair L (Then R S) (Then R S') (then_shape L s t) (suc k)
past {k = k} p flat some f =
    record {
      low = reader.◌>>=◌ p (λ a. (f a).low);
      high = reader.◌>>=◌ p (λ a. (f a).high);
      near =
          near-deeper p p (λ a. (f a).low) (λ a. (f a).high) k some (near_same p flat)
          (λ a. (f a).near);
    }

abbrev pub choose : {Tok Mark Class A : Type 0} {L : Lexicon Tok Mark Class}
    {R R' S S' : List Tok → A → Type 0} {s t : Shape Class} {k : ℕ} (p : Pair L R R' s k)
    → s.empty ≡ false → (q : Pair L S S' t k)
    → Pair L (Either R S) (Either R' S') (either_shape L s t) k
choose {k = k} p some q =
    record {
      low = reader.choose p.low some q.low;
      high = reader.choose p.high some q.high;
      near =
          near-choose p.low p.high q.low q.high k p.near q.near;
    }

abbrev pub many : {Tok Mark Class A : Type 0} {L : Lexicon Tok Mark Class}
    {R R' : List Tok → A → Type 0} {s : Shape Class} {k : ℕ} (p : Pair L R R' s k) → s.empty ≡ false
    → Pair L (Many R) (Many R') (many_shape L s) k
many {k = k} p some =
    record {
      low = reader.many p.low some;
      high = reader.many p.high some;
      near =
          near-many p.low p.high k some p.near;
    }

abbrev pub shaped : {Tok Mark Class A : Type 0} {L : Lexicon Tok Mark Class}
    {R R' : List Tok → A → Type 0} {s : Shape Class} {k : ℕ} (t : Shape Class) (p : Pair L R R' s k)
    → covers L s t ≡ true → Pair L R R' t k
shaped t p fits =
    record { low = reader.shaped t p.low fits; high = reader.shaped t p.high fits; near = p.near }

abbrev pub unless : {Tok Mark Class A : Type 0} {L : Lexicon Tok Mark Class}
    {R R' : List Tok → A → Type 0} {s : Shape Class} {k : ℕ} (ds : List Class) (p : Pair L R R' s k)
    → s.empty ≡ false
    → Pair L (Unless (seen_by L ds) R) (Unless (seen_by L ds) R') (unless_shape L ds s) k
unless {k = k} ds p some =
    record {
      low = part.unless ds p.low some;
      high = part.unless ds p.high some;
      near =
          near-unless p.low p.high k ds p.near;
    }

abbrev pub only : {Tok Mark Class A : Type 0} {L : Lexicon Tok Mark Class}
    {R R' : List Tok → A → Type 0} {s : Shape Class} {k : ℕ} (b : Bool) (p : Pair L R R' s k)
    → Pair L (Only b R) (Only b R') s k
only {k = k} b p =
    record {
      low = part.only b p.low;
      high = part.only b p.high;
      near =
          near-only p.low p.high k b p.near;
    }

abbrev pub meant : {Tok Mark Class A B : Type 0} {L : Lexicon Tok Mark Class}
    {R R' : List Tok → A → Type 0} {s : Shape Class} {k : ℕ} (p : Pair L R R' s k)
    (means : A → Option B) → Pair L (Meant R means) (Meant R' means) s k
meant {k = k} p means =
    record {
      low = part.meant p.low means;
      high = part.meant p.high means;
      near =
          near-meant p.low p.high k means p.near;
    }

abbrev pub at : {Tok Mark Class A : Type 0} {L : Lexicon Tok Mark Class}
    {R R' : Mark → List Tok → A → Type 0} {s : Shape Class} {k : ℕ}
    (f : (m : Mark) → Pair L (R m) (R' m) s k) → s.empty ≡ false
    → Pair L (At L.mark R) (At L.mark R') s k
at {k = k} f some =
    record {
      low = part.at (λ m. (f m).low) some;
      high = part.at (λ m. (f m).high) some;
      near =
          near-at (λ m. (f m).low) (λ m. (f m).high) k (λ m. (f m).near);
    }

abbrev pub optional : {Tok Mark Class A : Type 0} {L : Lexicon Tok Mark Class}
    {R R' : List Tok → A → Type 0} {s : Shape Class} {k : ℕ} (p : Pair L R R' s k) → s.empty ≡ false
    → Pair L (Optional R) (Optional R') (optional_shape L s) k
optional {s = s} p some = choose (do a ← p; give (Some a)) (both_empty s.empty some) (give None)

abbrev pub separated : {Tok Mark Class A B : Type 0} {L : Lexicon Tok Mark Class}
    {S : List Tok → B → Type 0} {R R' : List Tok → A → Type 0} {s t : Shape Class} {k : ℕ}
    (separator : Reader L S s) → s.nests ≡ false → s.empty ≡ false → (p : Pair L R R' t k)
    → Pair L (Separated S R) (Separated S R') (separated_shape L s t) k
separated {s = s} {t = t} separator flat some p = do
  first ← p
  others ← many (do same separator flat; p) (first_empty s.empty t.empty some)
  give (first ∷ others)

-- ---- a reader for each depth

module _ {Tok Mark Class A : Type 0} {L : Lexicon Tok Mark Class} {F : ℕ → Rel Tok A → Rel Tok A}
    {s : Shape Class} (nests : s.nests ≡ true)
    (step : (n k : ℕ) → k ≤ n → (R R' : List Tok → A → Type 0) → Pair L R R' s k
    → Pair L (F n R) (F (suc n) R') s (suc k)) where
  pub none-le : (n : ℕ) → 0 ≤ n
  none-le n = omega arith

  unfoldable pub level : (n : ℕ) → Reader L (Level F n) s
  unfolding Level
  level zero = none_so_deep nests
  level (suc n) = (step n 0 (none-le n) (Level F n) (Level F n) (both (level n))).low

  pub level-zero : (ts : Rest Tok Mark) → (level zero).run ts ≡ deep
  unfolding level Level
  level-zero ts = refl

  pub level-suc : (n : ℕ) (ts : Rest Tok Mark)
      → (level (suc n)).run ts
      ≡ (step n 0 (none-le n) (Level F n) (Level F n) (both (level n))).low.run ts
  unfolding level Level
  level-suc n ts = refl

  -- that the readers of a step depend on the readers inside alone holds by refl; then the levels
  -- agree
  pub levels :
      ((n k : ℕ) (h : k ≤ n) (R R' : List Tok → A → Type 0) (t : Pair L R R' s k)
      (ts : Rest Tok Mark) → (step n k h R R' t).low.run ts
      ≡ (step n 0 (none-le n) R R (both t.low)).low.run ts) →
      ((n k : ℕ) (h : k ≤ n) (R R' : List Tok → A → Type 0) (t : Pair L R R' s k)
      (ts : Rest Tok Mark) → (step n k h R R' t).high.run ts
      ≡ (step (suc n) 0 (none-le (suc n)) R' R' (both t.high)).low.run ts) →
      (n : ℕ) → Near n (level n).run (level (suc n)).run
  unfolding level Level
  levels lows highs zero ts = inr (refl, omega arith)
  levels lows highs (suc n) ts =
      let t : Pair L (Level F n) (Level F (suc n)) s n =
      record { low = level n; high = level (suc n); near = levels lows highs n } in
      let p = step n n (omega arith) (Level F n) (Level F (suc n)) t in
      let h : NearAt (suc n) ts (p.low.run ts) (p.high.run ts) = p.near ts in
      rw (
        ← lows n n (omega arith) (Level F n) (Level F (suc n)) t ts,
        ← highs n n (omega arith) (Level F n) (Level F (suc n)) t ts,
      ) h
