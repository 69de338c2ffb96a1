-- How brackets are counted through the productions of the grammar.
use Rattle.std.proofs.Common.{◌≡◌, ℕ, suc, ◌+◌, ◌<◌, ◌≤◌, Bool, true, false, List, [], ◌∷◌, ◌++◌}
use Rattle.std.proofs.Common.{Option, Some, None, refl, sym, ap, subst, ◌∙◌, inl, inr, ◌⊎◌, arith}
use Rattle.std.proofs.Common.{take, All, cond, eqb, append_assoc}
use Rattle.std.specs.Prelude.{⊤, IfSome}
use Rattle.std.proofs.lemmas.Bool.{eqb-true}
use Rattle.std.proofs.lemmas.List.Sums.{sum_by-cons}
use Rattle.std.proofs.lemmas.List.Elements.{All-nil, All-cons, All-tail, All-head}
use Rattle.protobuf_parse_grammar.specs.Relations.{Nothing, Such, Never, One, Then, Either, Many}
use Rattle.protobuf_parse_grammar.specs.Relations.{OneOrMore, Separated, none, more, Unless, At}
use Rattle.protobuf_parse_grammar.specs.Relations.{somes}
use Rattle.protobuf_parse_lexer.specs.Tokens.{Lexeme, is_opening, is_closing, opened, closed}
use Rattle.protobuf_parse_lexer.specs.Tokens.{IsShallow}
use Rattle.protobuf_parse_lexer.specs.declared.lexer.token.TokenKind.{TokenKind}
use Rattle.protobuf_parse_lexer.specs.declared.lexer.token.Place.{Place}
use Rattle.protobuf_parse_lexer.specs.declared.lexer.token.TokenKind.TheVariants as kind
use Rattle.protobuf_parse_lexer.specs.Text.{Bytes}
use Rattle.protobuf_parse_lexer.specs.Classes.{sees_at, symbol as symbol_class}
use Rattle.protobuf_parse_syntax.specs.Grammar.{IsSymbol, AtMost, Item, Statements, Braced, if_so}

-- ---- open brackets

-- where n brackets are open, no front of these tokens leaves over 100 open
pub Fits : ℕ → List Lexeme → Type 0
Fits n ts = (k : ℕ) → closed (take k ts) + 100 < n + opened (take k ts) → ⊥

pub fits-start : (ts : List Lexeme) → IsShallow ts → Fits 0 ts
unfolding Fits
fits-start ts h k deep = h k (omega (arith, deep))

pub fits-now : (n : ℕ) (ts : List Lexeme) → Fits n ts → n ≤ 100
unfolding Fits
fits-now n ts h = omega (arith, h 0)

-- one token: m brackets are open behind it
abbrev pub Turns : ℕ → ℕ → TokenKind → Type 0
Turns n m k = n + cond (is_opening k) 1 0 ≡ m + cond (is_closing k) 1 0

pub fits-step : (n m : ℕ) (t : Lexeme) (ts : List Lexeme) → Turns n m t.kind → Fits n (t ∷ ts) →
    Fits m ts
unfolding Fits
fits-step n m t ts turns h k deep =
    let o : opened (t ∷ take k ts) ≡ cond (is_opening t.kind) 1 0 + opened (take k ts) =
    sum_by-cons (λ (u : Lexeme). cond (is_opening u.kind) 1 0) t (take k ts) in
    let c : closed (t ∷ take k ts) ≡ cond (is_closing t.kind) 1 0 + closed (take k ts) =
    sum_by-cons (λ (u : Lexeme). cond (is_closing u.kind) 1 0) t (take k ts) in
    h (suc k) (omega (arith, o, c, deep, turns))

-- ---- parts

-- A part that stands where n brackets are open leaves m open, and what it says has the property,
-- if no front of all the tokens leaves over 100 open.
pub record Keeps {A : Type 0} (n m : ℕ) (R : List Lexeme → A → Type 0)
    (P : A → Type 0) : Type 0 where
  pub keep : (ts rest : List Lexeme) (a : A) → R ts a → Fits n (ts ++ rest) → Fits m rest × P a

abbrev pub Any : {A : Type 0} → A → Type 0
Any a = ⊤

infixl 10 ◌>>=◌
pub ◌>>=◌ : {A B : Type 0} {n m k : ℕ} {R : List Lexeme → A → Type 0}
    {S : A → List Lexeme → B → Type 0} {P : A → Type 0} {Q : B → Type 0} →
    Keeps n m R P → ((x : (a : A) × P a) → Keeps m k (S x.0) Q) → Keeps n k (Then R S) Q
◌>>=◌ {n = n} r s = record {
  keep = λ ts rest b h fits.
      let f : Fits n (h.front ++ (h.back ++ rest)) =
      subst (Fits n)
      (ap (λ (v : List Lexeme). v ++ rest) h.parts ∙ append_assoc h.front h.back rest)
      fits in
      let x = r.keep h.front (h.back ++ rest) h.value h.first f in
      (s (h.value, x.1)).keep h.back rest b h.second x.0;
}

-- of a part whose value says nothing of the next
infixl 10 ◌>>◌
pub ◌>>◌ : {A B : Type 0} {n m k : ℕ} {R : List Lexeme → A → Type 0} {S : List Lexeme → B →
    Type 0} {P : A → Type 0} {Q : B → Type 0} →
    Keeps n m R P → Keeps m k S Q → Keeps n k (Then R (λ a. S)) Q
r >> s = r >>= (λ x. s)

pub nothing : {A : Type 0} {n : ℕ} {a : A} {P : A → Type 0} → P a → Keeps n n (Nothing a) P
nothing {n = n} {P = P} p =
    record {
      keep = λ ts rest b h fits. (
        subst (λ v. Fits n (v ++ rest)) h.0 fits,
        subst P (sym h.1) p,
      );
    }

pub done : {A : Type 0} {n : ℕ} {a : A} → Keeps n n (Nothing a) Any
done = nothing tt

pub such : {A : Type 0} {n : ℕ} {P : A → Type 0} → Keeps n n (Such P) P
such {n = n} = record { keep = λ ts rest b h fits. (subst (λ v. Fits n (v ++ rest)) h.0 fits, h.1) }

pub never : {A : Type 0} {n m : ℕ} {P : A → Type 0} → Keeps n m Never P
never = record { keep = λ ts rest b h fits. absurd h }

pub weaker : {A : Type 0} {n m : ℕ} {R : List Lexeme → A → Type 0} {P Q : A → Type 0} →
    ((a : A) → P a → Q a) → Keeps n m R P → Keeps n m R Q
weaker f r = record { keep = λ ts rest a h fits. let x = r.keep ts rest a h fits in (x.0, f a x.1) }

pub either : {A : Type 0} {n m : ℕ} {R S : List Lexeme → A → Type 0} {P : A → Type 0} →
    Keeps n m R P → Keeps n m S P → Keeps n m (Either R S) P
either {A = A} {n = n} {m = m} {R = R} {S = S} {P = P} r s =
    record { keep = λ ts rest a h fits. go ts rest a h fits }
  where
    go : (ts rest : List Lexeme) (a : A) → R ts a ⊎ S ts a → Fits n (ts ++ rest) → Fits m rest × P a
    go ts rest a (inl h) fits = r.keep ts rest a h fits
    go ts rest a (inr h) fits = s.keep ts rest a h fits

pub many : {A : Type 0} {n : ℕ} {R : List Lexeme → A → Type 0} {P : A → Type 0} → Keeps n n R P →
    Keeps n n (Many R) (All P)
many {A = A} {n = n} {R = R} {P = P} r =
    record { keep = λ ts rest as' h fits. go ts rest as' h fits }
  where
    go : (ts rest : List Lexeme) (as' : List A) → Many R ts as' → Fits n (ts ++ rest) →
        Fits n rest × All P as'
    go _ rest _ none fits = (fits, All-nil P)
    go _ rest _ (more {ts = ts} {us = us} {a = a} {as' = as'} h hs) fits =
        let x = r.keep ts (us ++ rest) a h (subst (Fits n) (append_assoc ts us rest) fits) in
        let y = go us rest as' hs x.0 in
        (y.0, All-cons P a as' x.1 y.1)

pub unless : {A : Type 0} {n m : ℕ} {test : Lexeme → Bool} {R : List Lexeme → A → Type 0} {P : A →
    Type 0} → Keeps n m R P → Keeps n m (Unless test R) P
unless r = record { keep = λ ts rest a h fits. r.keep ts rest a h.0 fits }

-- a part that may depend on the place of its first token
pub at_place : {A : Type 0} {n m : ℕ} {R : Lexeme → List Lexeme → A → Type 0} {P : A → Type 0} →
    ((t : Lexeme) → Keeps n m (R t) P) → Keeps n m (At (λ (t : Lexeme). t) R) P
at_place {A = A} {n = n} {m = m} {R = R} {P = P} r =
    record { keep = λ ts rest a h fits. go ts rest a h fits }
  where
    go : (ts rest : List Lexeme) (a : A) → At (λ (t : Lexeme). t) R ts a → Fits n (ts ++ rest) →
        Fits m rest × P a
    go [] rest a h fits = absurd h
    go (t ∷ ts) rest a h fits = (r t).keep (t ∷ ts) rest a h fits

pub one : {A : Type 0} {n : ℕ} {says : Lexeme → Option A} →
    ((c : ℕ) (text : Bytes) (place : Place) →
    says (record { kind = kind.Symbol c; text = text; place = place }) ≡ None) →
    Keeps n n (One says) Any
one {A = A} {n = n} {says = says} no_symbol =
    record {
      keep = λ ts rest a h fits.
          let here = subst (λ v. Fits n (v ++ rest)) h.1 fits in
          (fits-step n n h.0 rest (go h.0.kind h.0.text h.0.place a h.2) here, tt);
    }
  where
    go : (k : TokenKind) (text : Bytes) (place : Place) (a : A) →
        says (record { kind = k; text = text; place = place }) ≡ Some a → Turns n n k
    go (kind.Symbol c) text place a e = let no = no_symbol c text place in absurd cc
    go kind.Ident text place a e = refl
    go (kind.Integer i) text place a e = refl
    go kind.Float text place a e = refl
    go kind.Str text place a e = refl

-- behind a symbol at most 100 brackets are open
pub symbol : {n m : ℕ} (c : ℕ) → Turns n m (kind.Symbol c) → Keeps n m (IsSymbol c) (λ a. m ≤ 100)
symbol {n = n} {m = m} c turns = record {
  keep = λ ts rest a h fits.
      let f =
      fits-step n m h.0 rest (go h.0.kind h.0.text a h.2)
      (subst (λ v. Fits n (v ++ rest)) h.1 fits) in
      (f, fits-now m rest f);
}
  where
    go : (k : TokenKind) (text : Bytes) (a : Unit {0}) →
        if_so (sees_at (symbol_class c) k text) tt ≡ Some a → Turns n m k
    go (kind.Symbol d) text a e = is d (eqb d c) refl e
      where
        is : (d : ℕ) (b : Bool) → eqb d c ≡ b → if_so b tt ≡ Some a → Turns n m (kind.Symbol d)
        is d true i e = subst (λ v. Turns n m (kind.Symbol v)) (sym (eqb-true d c i)) turns
        is d false i e = absurd cc
    go k text a e = absurd cc

-- brackets
pub opening : {n : ℕ} (c : ℕ) → is_opening (kind.Symbol c) ≡ true → is_closing (kind.Symbol c) ≡
    false → Keeps n (suc n) (IsSymbol c) (λ a. suc n ≤ 100)
opening c o k = symbol c (rw (o, k) (omega arith))

pub closing : {n : ℕ} (c : ℕ) → is_opening (kind.Symbol c) ≡ false → is_closing (kind.Symbol c) ≡
    true → Keeps (suc n) n (IsSymbol c) (λ a. n ≤ 100)
closing c o k = symbol c (rw (o, k) (omega arith))

-- where a part stands at most 100 brackets are open
pub low : {A : Type 0} {n m : ℕ} {R : List Lexeme → A → Type 0} {P : A → Type 0} →
    (n ≤ 100 → Keeps n m R P) → Keeps n m R P
low {n = n} r =
    record { keep = λ ts rest a h fits. (r (fits-now n (ts ++ rest) fits)).keep ts rest a h fits }

pub separated : {A B : Type 0} {n : ℕ} {S : List Lexeme → B → Type 0} {R : List Lexeme → A →
    Type 0} {Q : B → Type 0} {P : A → Type 0} → Keeps n n S Q → Keeps n n R P →
    Keeps n n (Separated S R) (All P)
separated {P = P} s r = do
  first ← r
  others ← many (do s; r)
  nothing (All-cons P first.0 others.0 first.1 others.1)

pub one_or_more : {A : Type 0} {n : ℕ} {R : List Lexeme → A → Type 0} {P : A → Type 0} →
    Keeps n n R P → Keeps n n (OneOrMore R) (All P)
one_or_more {P = P} r = do
  first ← r
  others ← many r
  nothing (All-cons P first.0 others.0 first.1 others.1)

pub at_most : {A : Type 0} {n limit : ℕ} {R : List Lexeme → A → Type 0} {P : A → Type 0} →
    Keeps n n R P → Keeps n n (AtMost limit R) (All P)
at_most {A = A} {n = n} {limit = limit} {R = R} {P = P} r =
    record { keep = λ ts rest as' h fits. (many r).keep ts rest as' h.0 fits }

pub item : {A : Type 0} {n : ℕ} {R : List Lexeme → A → Type 0} {P : A → Type 0} → Keeps n n R P →
    Keeps n n (Item R) (λ o. IfSome o P)
item r = either (do symbol 59 refl; nothing tt) (do statement ← r; nothing statement.1)

All-somes : {A : Type 0} (P : A → Type 0) (items : List (Option A)) → All (λ o. IfSome o P) items →
    All P (somes items)
All-somes P [] h = All-nil P
All-somes P (None ∷ items) h = All-somes P items (All-tail (λ o. IfSome o P) None items h)
All-somes P (Some a ∷ items) h =
    All-cons P a (somes items)
    (All-head (λ o. IfSome o P) (Some a) items h)
    (All-somes P items (All-tail (λ o. IfSome o P) (Some a) items h))

pub statements : {A : Type 0} {n : ℕ} {R : List Lexeme → A → Type 0} {P : A → Type 0} →
    Keeps n n R P → Keeps n n (Statements R) (All P)
statements {P = P} r = do
  items ← many (item r)
  nothing (All-somes P items.0 items.1)

pub braced : {A : Type 0} {n : ℕ} {R : List Lexeme → A → Type 0} {P : A → Type 0} →
    Keeps (suc n) (suc n) R P → Keeps n n (Braced R) (λ as'. (suc n ≤ 100) × All P as')
braced r = do
  inside ← opening 123 refl refl
  body ← statements r
  closing 125 refl refl
  nothing (inside.1, body.1)
