-- A package that the tree of a text names has a name.
use Rattle.std.proofs.Common.{◌≡◌, ℕ, ◌<◌, ◌≤◌, List, [], ◌∷◌, ◌++◌, Option, Some, None, length}
use Rattle.std.proofs.Common.{take, length-append, length-take, sym, subst, inl, inr, ◌⊎◌, arith}
use Rattle.std.proofs.Common.{Bool, true, false}
use Rattle.std.specs.List.{AllByRecursion, fold}
use Rattle.protobuf_parse_grammar.specs.Relations.{Nothing, Then, Either, Many, none, more, At}
use Rattle.protobuf_parse_grammar.specs.Relations.{somes}
use Rattle.protobuf_parse_lexer.specs.Text.{Bytes}
use Rattle.protobuf_parse_lexer.specs.Tokens.{Lexeme}
use Rattle.protobuf_parse_lexer.specs.Cut.{Cut, done, blank, token}
use Rattle.protobuf_parse_lexer.specs.Classes.{sees, ident}
use Rattle.protobuf_parse_lexer.specs.declared.lexer.token.Place.{Place}
use Rattle.protobuf_parse_lexer.proofs.Cuts.{token_some}
use Rattle.protobuf_parse_syntax.specs.declared.tree.Syntax.{Syntax}
use Rattle.protobuf_parse_syntax.specs.Grammar.{if_so, IsIdent, dots, IsDotted, Item, Statements}
use Rattle.protobuf_parse_syntax.specs.Grammar.{IsPackage, IsFileStatement, IsFileOf}
use Rattle.protobuf_parse_syntax.specs.Trees.{StatementSyntax, file_package, FileSyntax}
use Rattle.protobuf_parse_syntax.specs.Trees.{package_behind, package_of}
use Rattle.protobuf_parse_syntax.specs.Parsing.{HasTree}

-- ---- tokens

abbrev HasText : Lexeme → Type 0
HasText t = 0 < length t.text

abbrev HaveTexts : List Lexeme → Type 0
HaveTexts ts = AllByRecursion HasText ts

text_taken : (n : ℕ) (z : Bytes) → 0 < n → n ≤ length z → 0 < length (take n z)
text_taken n z some within = rw (length-take n z) (omega (arith, some, within))

-- each token of a text has a text
cut-have : {p q : Place} {z rest : Bytes} {ts : List Lexeme} → Cut p z ts q rest → HaveTexts ts
cut-have done = tt
cut-have (blank n b c) = cut-have c
cut-have (token {z = z} n k t c) =
    let s = token_some z n k t in
    (text_taken n z s.0 s.1, cut-have c)

have-left : (ts us : List Lexeme) → HaveTexts (ts ++ us) → HaveTexts ts
have-left [] us h = tt
have-left (t ∷ ts) us h = (h.0, have-left ts us h.1)

have-right : (ts us : List Lexeme) → HaveTexts (ts ++ us) → HaveTexts us
have-right [] us h = h
have-right (t ∷ ts) us h = have-right ts us h.1

-- ---- parts

-- What such tokens say has the property.
record Says {A : Type 0} (R : List Lexeme → A → Type 0) (P : A → Type 0) : Type 0 where
  says : (ts : List Lexeme) (a : A) → R ts a → HaveTexts ts → P a

infixl 10 ◌>>=◌
◌>>=◌ : {A B : Type 0} {R : List Lexeme → A → Type 0} {S : A → List Lexeme → B → Type 0}
    {P : A → Type 0} {Q : B → Type 0} →
    Says R P → ((x : (a : A) × P a) → Says (S x.0) Q) → Says (Then R S) Q
r >>= s = record {
  says = λ ts b h have.
      let all : HaveTexts (h.front ++ h.back) = subst HaveTexts h.parts have in
      let first = r.says h.front h.value h.first (have-left h.front h.back all) in
      (s (h.value, first)).says h.back b h.second (have-right h.front h.back all);
}

infixl 10 ◌>>◌
◌>>◌ : {A B : Type 0} {R : List Lexeme → A → Type 0} {S : List Lexeme → B → Type 0} {P : A → Type 0}
    {Q : B → Type 0} →
    Says R P → Says S Q → Says (Then R (λ a. S)) Q
r >> s = r >>= (λ x. s)

-- any part
skip : {A : Type 0} {R : List Lexeme → A → Type 0} → Says R (λ a. Unit {0})
skip = record { says = λ ts a h have. tt }

nothing : {A : Type 0} {a : A} {P : A → Type 0} → P a → Says (Nothing a) P
nothing {P = P} p = record { says = λ ts b h have. subst P (sym h.1) p }

either : {A : Type 0} {R S : List Lexeme → A → Type 0} {P : A → Type 0} → Says R P → Says S P
    → Says (Either R S) P
either {A = A} {R = R} {S = S} {P = P} r s = record { says = go }
  where
    go : (ts : List Lexeme) (a : A) → R ts a ⊎ S ts a → HaveTexts ts → P a
    go ts a (inl h) have = r.says ts a h have
    go ts a (inr h) have = s.says ts a h have

at_place : {A : Type 0} {R : Lexeme → List Lexeme → A → Type 0} {P : A → Type 0}
    → ((t : Lexeme) → Says (R t) P) → Says (At (λ (t : Lexeme). t) R) P
at_place {A = A} {R = R} {P = P} r = record { says = go }
  where
    go : (ts : List Lexeme) (a : A) → At (λ (t : Lexeme). t) R ts a → HaveTexts ts → P a
    go [] a h have = absurd h
    go (t ∷ ts) a h have = (r t).says (t ∷ ts) a h have

many : {A : Type 0} {R : List Lexeme → A → Type 0} {P : A → Type 0} → Says R P
    → Says (Many R) (AllByRecursion P)
many {A = A} {R = R} {P = P} r = record { says = go }
  where
    go : (ts : List Lexeme) (as' : List A) → Many R ts as' → HaveTexts ts → AllByRecursion P as'
    go _ _ none have = tt
    go _ _ (more {ts = ts} {us = us} {a = a} {as' = as'} h hs) have =
        (r.says ts a h (have-left ts us have), go us as' hs (have-right ts us have))

abbrev OnSome : {A : Type 0} → (A → Type 0) → Option A → Type 0
OnSome P None = Unit {0}
OnSome P (Some a) = P a

item : {A : Type 0} {R : List Lexeme → A → Type 0} {P : A → Type 0} → Says R P
    → Says (Item R) (OnSome P)
item r = either (do skip; nothing tt) (do statement ← r; nothing statement.1)

all-somes : {A : Type 0} (P : A → Type 0) (items : List (Option A))
    → AllByRecursion (OnSome P) items → AllByRecursion P (somes items)
all-somes P [] h = tt
all-somes P (None ∷ items) h = all-somes P items h.1
all-somes P (Some a ∷ items) h = (h.0, all-somes P items h.1)

statements : {A : Type 0} {R : List Lexeme → A → Type 0} {P : A → Type 0} → Says R P
    → Says (Statements R) (AllByRecursion P)
statements {P = P} r = do
  items ← many (item r)
  nothing (all-somes P items.0 items.1)

-- ---- names

abbrev HasName : Bytes → Type 0
HasName name = 0 < length name

identifier : Says IsIdent HasName
identifier =
    record {
      says = λ ts name h have. at h.0 name (sees (ident []) h.0) h.2
          (subst HaveTexts h.1 have).0;
    }
  where
    at : (t : Lexeme) (name : Bytes) (b : Bool) → if_so b t.text ≡ Some name → HasText t
        → HasName name
    at t name true e has = let same : t.text ≡ name = cc in subst HasName same has
    at t name false e has = absurd cc

joined : (xs ys : Bytes) → HasName xs → HasName (xs ++ ys)
joined xs ys h = rw (length-append xs ys) (omega (arith, h))

dotted : Says IsDotted HasName
unfolding IsDotted
dotted = do
  first ← identifier
  others ← skip
  nothing (joined first.0 (dots others.0) first.1)

-- ---- files

package_statement : Says IsPackage (λ p. HasName p.name)
unfolding IsPackage
package_statement = at_place (λ t. do skip; name ← dotted; skip; nothing name.1)

abbrev IsNamed : StatementSyntax → Type 0
IsNamed (file_package p) = HasName p.name
IsNamed _ = Unit {0}

file_statement : (syntax : Syntax) (d : ℕ) → Says (IsFileStatement syntax d) IsNamed
unfolding IsFileStatement
file_statement syntax d =
    either (do i ← skip; nothing tt)
    (either (do p ← package_statement; nothing p.1)
    (either (do o ← skip; nothing tt)
    (either (do m ← skip; nothing tt)
    (either (do e ← skip; nothing tt)
    (either (do e ← skip; nothing tt)
    (do s ← skip; nothing tt))))))

file : (d : ℕ) → Says (IsFileOf d) (λ t. AllByRecursion IsNamed t.statements)
unfolding IsFileOf
file d = do
  syntax ← skip
  body ← statements (file_statement syntax.0 d)
  nothing body.1

-- the name that counts behind statements, if one stands before them
behind : (before : Option Bytes) (ss : List StatementSyntax) → OnSome HasName before
    → AllByRecursion IsNamed ss → OnSome HasName (fold package_behind before ss)
behind before [] h k = h
behind before (s ∷ ss) h k = behind (package_behind before s) ss (step s k.0) k.1
  where
    step : (x : StatementSyntax) → IsNamed x → OnSome HasName (package_behind before x)
    step (file_package p) i = i
    step _ i = h

-- ---- the law

pub package_has_name : (text : Bytes) (t : FileSyntax) → HasTree text t → (name : Bytes)
    → package_of t ≡ Some name → 0 < length name
package_has_name text t h name e =
    subst (OnSome HasName) e
    (behind None t.statements tt
    ((file h.file.0).says h.stream.tokens t h.file.1 (cut-have h.tokens.cut)))
