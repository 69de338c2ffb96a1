-- Relations between a list of tokens and what it says, and how they are joined. A grammar is
-- written with them as do-blocks, a line of which is a part of the production: what stands first,
-- and then the rest.
use Rattle.std.specs.Prelude.{◌≡◌, ℕ, zero, suc, List, [], ◌∷◌, ◌++◌, Option, Some, None, Bool}
use Rattle.std.specs.Prelude.{false, ◌⊎◌, ◌||◌}

-- which tokens say which values
abbrev pub Rel : Type 0 → Type 0 → Type 1
Rel Tok A = List Tok → A → Type 0

-- no tokens, which say the value
abbrev pub Nothing : {Tok A : Type 0} → A → Rel Tok A
Nothing value ts a = (ts ≡ []) × (a ≡ value)

-- no tokens, which say any value with the property
abbrev pub Such : {Tok A : Type 0} → (A → Type 0) → Rel Tok A
Such P ts a = (ts ≡ []) × P a

-- no tokens at all
abbrev pub Never : {Tok A : Type 0} → Rel Tok A
Never ts a = ⊥

-- one token that says the value
abbrev pub One : {Tok A : Type 0} → (Tok → Option A) → Rel Tok A
One {Tok = Tok} says ts a = (t : Tok) × (ts ≡ t ∷ []) × (says t ≡ Some a)

-- tokens of the first relation and then tokens of the second, which may depend on what the first
-- say
pub record Then {Tok A B : Type 0} (R : List Tok → A → Type 0) (S : A → List Tok → B → Type 0)
    (ts : List Tok) (b : B) : Type 0 where
  pub value : A
  pub front : List Tok
  pub back : List Tok
  pub first : R front value
  pub second : S value back b
  pub parts : ts ≡ front ++ back

infixl 10 ◌>>=◌
-- a line `value ← R` of a do-block: the rest may depend on the value
abbrev pub ◌>>=◌ : {Tok A B : Type 0} → Rel Tok A → (A → Rel Tok B) → Rel Tok B
R >>= S = Then R S

infixl 10 ◌>>◌
-- a line `R` of a do-block, whose value doesn't count
abbrev pub ◌>>◌ : {Tok A B : Type 0} → Rel Tok A → Rel Tok B → Rel Tok B
R >> S = Then R (λ a. S)

-- tokens of the one or of the other
abbrev pub Either : {Tok A : Type 0} → Rel Tok A → Rel Tok A → Rel Tok A
Either R S ts a = R ts a ⊎ S ts a

-- any number of such parts, one after the other
pub data Many {Tok A : Type 0} (R : List Tok → A → Type 0) : List Tok → List A → Type 0 where
  none : Many R [] []
  more : {ts us : List Tok} {a : A} {as' : List A} → R ts a → Many R us as'
      → Many R (ts ++ us) (a ∷ as')

-- one or more such parts
abbrev pub OneOrMore : {Tok A : Type 0} → Rel Tok A → Rel Tok (List A)
OneOrMore R = do first ← R; others ← Many R; Nothing (first ∷ others)

-- one or more such parts with a separator between each two
abbrev pub Separated : {Tok A B : Type 0} → Rel Tok B → Rel Tok A → Rel Tok (List A)
Separated S R = do first ← R; others ← Many (do S; R); Nothing (first ∷ others)

-- no first token, or one that fails the test
abbrev pub BeginsOtherwise : {Tok : Type 0} → (Tok → Bool) → List Tok → Type 0
BeginsOtherwise test [] = Unit {0}
BeginsOtherwise test (t ∷ ts) = test t ≡ false

-- a part that does not begin with such a token
abbrev pub Unless : {Tok A : Type 0} → (Tok → Bool) → Rel Tok A → Rel Tok A
Unless test R ts a = R ts a × BeginsOtherwise test ts

-- a part with a first token, on whose mark it may depend
abbrev pub At : {Tok Mark A : Type 0} → (Tok → Mark) → (Mark → Rel Tok A) → Rel Tok A
At mark R [] a = ⊥
At mark R (t ∷ ts) a = R (mark t) (t ∷ ts) a

-- A part that contains itself, at most so many levels deep. What stands in it may nest too, a level
-- less deep.
unfoldable pub Level : {Tok A : Type 0} → (ℕ → Rel Tok A → Rel Tok A) → ℕ → Rel Tok A
Level F zero = Never
Level F (suc n) = F n (Level F n)

-- the values that are there
abbrev pub somes : {A : Type 0} → List (Option A) → List A
somes [] = []
somes (None ∷ items) = somes items
somes (Some a ∷ items) = a ∷ somes items

-- the first of the list, if there is one
abbrev pub head : {Tok : Type 0} → List Tok → Option Tok
head [] = None
head (t ∷ ts) = Some t

-- the mark of the first of the list, or else this mark
abbrev pub first_mark : {Tok Mark : Type 0} → (Tok → Mark) → Mark → List Tok → Mark
first_mark mark m [] = m
first_mark mark m (t ∷ ts) = mark t

-- The list falls into front and rest. No list that begins with front and the first token of rest is
-- in the relation; where rest is empty, the list itself is not. The mark is that of the token, or
-- of the end.
pub record StopsAt {Tok Mark A : Type 0} (mark : Tok → Mark) (R : List Tok → A → Type 0)
    (ts : List Tok) (last : Mark) (m : Mark) : Type 0 where
  pub front : List Tok
  pub rest : List Tok
  pub parts : ts ≡ front ++ rest
  pub place : m ≡ first_mark mark last rest
  pub never : (other : List Tok) (a : A) → head other ≡ head rest → R (front ++ other) a → ⊥

-- at some depth
abbrev pub AtSomeDepth : {Tok A : Type 0} → (ℕ → Rel Tok A) → Rel Tok A
AtSomeDepth R ts a = (n : ℕ) × R n ts a

-- one of the classes sees the token
abbrev pub seen : {Tok Class : Type 0} → (Class → Tok → Bool) → List Class → Tok → Bool
seen sees [] t = false
seen sees (c ∷ cs) t = sees c t || seen sees cs t
