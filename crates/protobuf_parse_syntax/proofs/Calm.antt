-- Readers of parts that meet nothing too deep, where at most 100 brackets are open inside one
-- another.
use Rattle.std.proofs.Common.{◌≡◌, ℕ, zero, suc, ◌<◌, Bool, true, false, List, [], ◌∷◌, ◌++◌, cond}
use Rattle.std.proofs.Common.{refl, sym, ap, subst, ◌∙◌, arith, length}
use Rattle.protobuf_parse_grammar.specs.Relations.{Nothing, Then, Either, Many, Separated, Unless}
use Rattle.protobuf_parse_grammar.specs.Relations.{At}
use Rattle.protobuf_parse_grammar.specs.Readers.{Rest, Read, read, stuck, wrong, deep, bind}
use Rattle.protobuf_parse_grammar.specs.Readers.{bind_deep, all_apart}
use Rattle.protobuf_parse_grammar.specs.Readers.{Shape, shape, Reader, size, starts, seen_by}
use Rattle.protobuf_parse_grammar.specs.Combinators as reader
use Rattle.protobuf_parse_grammar.specs.Combinators.{then_shape, either_shape, many_shape, covers}
use Rattle.protobuf_parse_grammar.specs.Combinators.{run_many, many-law, shorter, with_first}
use Rattle.protobuf_parse_grammar.specs.Conditions as condition
use Rattle.protobuf_parse_grammar.specs.Conditions.{unless_shape, separated_shape, first_empty}
use Rattle.protobuf_parse_grammar.specs.Conditions.{mark_of}
use Rattle.protobuf_parse_grammar.specs.Whole.{whole, left_whole, size-whole}
use Rattle.protobuf_parse_lexer.specs.Tokens.{Lexeme}
use Rattle.protobuf_parse_lexer.specs.Classes.{Class}
use Rattle.protobuf_parse_lexer.specs.declared.lexer.token.Place.{Place}
use Rattle.protobuf_parse_syntax.specs.ClassLaws.{lexicon}
use Rattle.protobuf_parse_syntax.specs.Readings.{from_first, wrong_from-deep, begun_reader}
use Rattle.protobuf_parse_syntax.specs.Readings.{refusing_reader}
use Rattle.protobuf_parse_syntax.proofs.Balance.{Fits, Keeps, Any, weaker, done}
use Rattle.protobuf_parse_syntax.proofs.Balance as balance

-- Where n brackets are open, and no front of the tokens leaves over 100 open, nothing that is read
-- is too deep.
pub record Calm {A : Type 0} (n : ℕ) (run : Rest Lexeme Place → Read Lexeme Place A) : Type 0 where
  pub never : (ts : List Lexeme) (end : Place) → Fits n ts → run (whole ts end) ≡ deep → ⊥

-- Such a reader, of a part that leaves m open.
pub record Quiet {A : Type 0} (n m : ℕ) (R : List Lexeme → A → Type 0) (s : Shape Class) :
    Type 0 where
  pub reader : Reader lexicon R s
  pub calm : Calm n reader.run
  pub keeps : Keeps n m R Any

abbrev pub any : {A : Type 0} {n m : ℕ} {R : List Lexeme → A → Type 0} {P : A → Type 0} →
    Keeps n m R P → Keeps n m R Any
any k = weaker (λ a h. tt) k

-- a part in which nothing nests
abbrev pub flat : {A : Type 0} {n m : ℕ} {R : List Lexeme → A → Type 0} {s : Shape Class} {P : A →
    Type 0} (p : Reader lexicon R s) → s.nests ≡ false → Keeps n m R P → Quiet n m R s
flat p none k = record {
  reader = p;
  calm = record { never = λ ts end fits e. p.shallow none (whole ts end) e };
  keeps = any k;
}

abbrev pub give : {A : Type 0} {n : ℕ} (value : A) → Quiet n n (Nothing value) (shape [] true [])
give value = flat (reader.give value) refl done

infixl 10 ◌>>=◌
abbrev pub ◌>>=◌ : {A B : Type 0} {n m k : ℕ} {R : List Lexeme → A → Type 0}
    {S : A → List Lexeme → B → Type 0} {s t : Shape Class} → Quiet n m R s →
    ((a : A) → Quiet m k (S a) t) → Quiet n k (Then R S) (then_shape lexicon s t)
◌>>=◌ {n = n} p f = record {
  reader = reader.◌>>=◌ p.reader (λ a. (f a).reader);
  calm = record {
    never = λ ts end fits e.
        bind_deep (p.reader.run (whole ts end)) (λ a us. (f a).reader.run us) e
        (p.calm.never ts end fits)
        (λ a us h d.
        let l = p.reader.sound (whole ts end) a us h in
        let b = left_whole ts l.used end us l.parts in
        let k = p.keeps.keep l.used b.0 a l.holds (subst (Fits n) b.2 fits) in
        (f a).calm.never b.0 end k.0 (sym (ap (f a).reader.run b.1) ∙ d));
  };
  keeps = balance.◌>>=◌ p.keeps (λ x. (f x.0).keeps);
}

infixl 10 ◌>>◌
abbrev pub ◌>>◌ : {A B : Type 0} {n m k : ℕ} {R : List Lexeme → A → Type 0} {S : List Lexeme → B →
    Type 0} {s t : Shape Class} → Quiet n m R s → Quiet m k S t →
    Quiet n k (Then R (λ a. S)) (then_shape lexicon s t)
p >> q = p >>= (λ a. q)

pub calm_if : {A : Type 0} (b : Bool) (r q : Read Lexeme Place A) → (r ≡ deep → ⊥) →
    (q ≡ deep → ⊥) → cond b r q ≡ deep → ⊥
calm_if true r q f g e = f e
calm_if false r q f g e = g e

abbrev pub choose : {A : Type 0} {n m : ℕ} {R S : List Lexeme → A → Type 0} {s t : Shape Class} →
    Quiet n m R s → s.empty ≡ false → Quiet n m S t →
    Quiet n m (Either R S) (either_shape lexicon s t)
choose {s = s} p some q = record {
  reader = reader.choose p.reader some q.reader;
  calm = record {
    never = λ ts end fits e.
        let w = whole ts end in
        calm_if (starts lexicon s.firsts w) (p.reader.run w) (q.reader.run w)
        (p.calm.never ts end fits) (q.calm.never ts end fits) e;
  };
  keeps = balance.either p.keeps q.keeps;
}

abbrev pub shaped : {A : Type 0} {n m : ℕ} {R : List Lexeme → A → Type 0} {s : Shape Class}
    (t : Shape Class) → Quiet n m R s → covers lexicon s t ≡ true → Quiet n m R t
shaped t p fits =
    record { reader = reader.shaped t p.reader fits; calm = p.calm; keeps = p.keeps }

pub not_stuck : {A : Type 0} (ts : Rest Lexeme Place) →
    (let r : Read Lexeme Place A = stuck ts in r ≡ deep) → ⊥
not_stuck ts e = cc

abbrev pub unless : {A : Type 0} {n m : ℕ} {R : List Lexeme → A → Type 0} {s : Shape Class}
    (ds : List Class) → Quiet n m R s → s.empty ≡ false →
    Quiet n m (Unless (seen_by lexicon ds) R) (unless_shape lexicon ds s)
unless ds p some = record {
  reader = condition.unless ds p.reader some;
  calm = record {
    never = λ ts end fits e.
        let w = whole ts end in
        calm_if (starts lexicon ds w) (stuck w) (p.reader.run w) (not_stuck w)
        (p.calm.never ts end fits) e;
  };
  keeps = balance.unless p.keeps;
}

pub keeps_at : {A : Type 0} {n m : ℕ} {R : Place → List Lexeme → A → Type 0} →
    ((place : Place) → Keeps n m (R place) Any) → Keeps n m (At lexicon.mark R) Any
keeps_at {A = A} {n = n} {m = m} {R = R} r =
    record { keep = λ ts rest a h fits. go ts rest a h fits }
  where
    go : (ts rest : List Lexeme) (a : A) → At lexicon.mark R ts a → Fits n (ts ++ rest) →
        Fits m rest × Any a
    go [] rest a h fits = absurd h
    go (t ∷ ts) rest a h fits = (r (lexicon.mark t)).keep (t ∷ ts) rest a h fits

abbrev pub at : {A : Type 0} {n m : ℕ} {R : Place → List Lexeme → A → Type 0} {s : Shape Class} →
    ((place : Place) → Quiet n m (R place) s) → s.empty ≡ false → Quiet n m (At lexicon.mark R) s
at f some = record {
  reader = condition.at (λ place. (f place).reader) some;
  calm = record {
    never = λ ts end fits e.
        (f (mark_of lexicon.mark (whole ts end))).calm.never ts end fits e;
  };
  keeps = keeps_at (λ place. (f place).keeps);
}

-- ---- any number of parts

module _ {A : Type 0} {n : ℕ} {R : List Lexeme → A → Type 0} {s : Shape Class}
    (p : Quiet n n R s) (some : s.empty ≡ false) where
  not_read : (others : List A) (us : Rest Lexeme Place) →
      (let r : Read Lexeme Place (List A) = read others us in r ≡ deep) → ⊥
  not_read others us e = cc

  many_never : (k : ℕ) (ts : List Lexeme) (end : Place) → length ts < k → Fits n ts →
      run_many p.reader (whole ts end) ≡ deep → ⊥
  many_never zero ts end less fits e = omega (arith, less)
  many_never (suc k) ts end less fits e =
      let w = whole ts end in
      calm_if (starts lexicon s.firsts w)
      (bind (p.reader.run w) (λ a vs. with_first a (run_many p.reader vs))) (read [] w)
      (λ d. bind_deep (p.reader.run w) (λ a vs. with_first a (run_many p.reader vs)) d
      (p.calm.never ts end fits)
      (λ a us h f.
      let l = p.reader.sound w a us h in
      let b = left_whole ts l.used end us l.parts in
      let x = p.keeps.keep l.used b.0 a l.holds (subst (Fits n) b.2 fits) in
      let shrinks = shorter p.reader some w a us h in
      let fewer : length b.0 < k =
      omega (arith, less, shrinks, ap size b.1, size-whole b.0 end, size-whole ts end) in
      bind_deep (run_many p.reader us) (λ others vs. read (a ∷ others) vs) f
      (λ g. many_never k b.0 end fewer x.0 (sym (ap (run_many p.reader) b.1) ∙ g))
      (λ others vs i j. not_read (a ∷ others) vs j)))
      (not_read [] w)
      (sym (many-law p.reader some w) ∙ e)

  pub many_calm : Calm n (run_many p.reader)
  many_calm = record {
    never = λ ts end fits e. many_never (suc (length ts)) ts end (omega arith) fits e;
  }

  abbrev pub many : Quiet n n (Many R) (many_shape lexicon s)
  many = record {
    reader = reader.many p.reader some;
    calm = many_calm;
    keeps = any (balance.many p.keeps);
  }

abbrev pub separated : {A B : Type 0} {n : ℕ} {S : List Lexeme → B → Type 0} {R : List Lexeme → A →
    Type 0} {s t : Shape Class} → Quiet n n S s → s.empty ≡ false → Quiet n n R t →
    Quiet n n (Separated S R) (separated_shape lexicon s t)
separated {s = s} {t = t} separator some p = do
  first ← p
  others ← many (do separator; p) (first_empty s.empty t.empty some)
  give (first ∷ others)

-- ---- parts that begin there

abbrev pub from_start : {A : Type 0} {n m : ℕ} {R : List Lexeme → A → Type 0} {s : Shape Class} →
    Quiet n m R s → Quiet n m R s
from_start p = record {
  reader = from_first p.reader;
  calm = record {
    never = λ ts end fits e.
        let w = whole ts end in
        p.calm.never ts end fits (wrong_from-deep w (p.reader.run w) e);
  };
  keeps = p.keeps;
}

abbrev pub begun : {A : Type 0} {n m : ℕ} {R : List Lexeme → A → Type 0} {s : Shape Class} →
    Quiet n m R s → s.empty ≡ false → Quiet n m R s
begun {s = s} p some = record {
  reader = begun_reader p.reader some;
  calm = record {
    never = λ ts end fits e.
        let w = whole ts end in
        calm_if (starts lexicon s.firsts w) (p.reader.run w) (stuck w) (p.calm.never ts end fits)
        (not_stuck w) e;
  };
  keeps = p.keeps;
}

pub not_wrong : {A : Type 0} (ts : Rest Lexeme Place) →
    (let r : Read Lexeme Place A = wrong ts in r ≡ deep) → ⊥
not_wrong ts e = cc

abbrev pub refusing : {A : Type 0} {n m : ℕ} {R : List Lexeme → A → Type 0} {s : Shape Class}
    (cs : List Class) → Quiet n m R s → s.empty ≡ false → all_apart lexicon s.firsts cs ≡ true →
    Quiet n m R s
refusing cs p some apart = record {
  reader = refusing_reader cs p.reader some apart;
  calm = record {
    never = λ ts end fits e.
        let w = whole ts end in
        calm_if (starts lexicon cs w) (wrong w) (p.reader.run w) (not_wrong w)
        (p.calm.never ts end fits) e;
  };
  keeps = p.keeps;
}

-- another reader of the same
abbrev pub as_reader : {A : Type 0} {n m : ℕ} {R : List Lexeme → A → Type 0} {s : Shape
    Class} (p : Reader lexicon R s) (q : Quiet n m R s) →
    ((ts : Rest Lexeme Place) → p.run ts ≡ q.reader.run ts) → Quiet n m R s
as_reader p q same = record {
  reader = p;
  calm = record {
    never = λ ts end fits e. q.calm.never ts end fits (sym (same (whole ts end)) ∙ e);
  };
  keeps = q.keeps;
}
