-- Tests of the next token by its word, where it is an identifier, and by its symbol, where it is
-- none.
use Rattle.std.proofs.Common.{◌≡◌, List, [], ◌∷◌, ◌++◌, Option, Some, None, Bool, true, false}
use Rattle.std.proofs.Common.{◌||◌, cond}
use Rattle.std.proofs.Common.{is_some, bytes_eq, refl, sym, ap, ◌∙◌}
use Rattle.protobuf_parse_grammar.specs.Readers.{Rest, end, token, read, starts}
use Rattle.protobuf_parse_grammar.specs.Relations.{seen}
use Rattle.protobuf_parse_grammar.specs.Combinators.{taken}
use Rattle.protobuf_parse_grammar.specs.Readers.{starts-append}
use Rattle.protobuf_parse_lexer.specs.Text.{Bytes}
use Rattle.protobuf_parse_lexer.specs.Tokens.{Lexeme}
use Rattle.protobuf_parse_lexer.specs.Classes.{Class, symbol, word, ident, integer, float, text}
use Rattle.protobuf_parse_lexer.specs.Classes.{sees, sees_at, is_ident_token, words}
use Rattle.protobuf_parse_lexer.specs.declared.lexer.token.Place.{Place}
use Rattle.protobuf_parse_lexer.specs.declared.lexer.token.TokenKind.{TokenKind}
use Rattle.protobuf_parse_lexer.specs.declared.lexer.token.TokenKind.TheVariants as kind
use Rattle.protobuf_parse_syntax.specs.ClassLaws.{lexicon}
use Rattle.protobuf_parse_syntax.specs.Grammar.{any_ident, lookup, table_words, word_of}
use Rattle.protobuf_parse_syntax.specs.Grammar.{labels, statement_words}
use Rattle.protobuf_parse_syntax.specs.Parsing.{IsUnlabelled}
use Rattle.protobuf_parse_syntax.specs.Productions.{one_of}
use Rattle.protobuf_parse_syntax.specs.Code.{next_ident, NextIs}
use Rattle.protobuf_parse_syntax.specs.Words.{takes, behind_next, Finds}

ident_seen : (cs : List Class) (w : Bytes) (at : Place)
    → seen sees cs (record { kind = kind.Ident; text = w; place = at }) ≡ takes cs w
ident_seen [] w at = refl
ident_seen (c ∷ cs) w at = ap (λ b. sees_at c kind.Ident w || b) (ident_seen cs w at)

-- an identifier comes next: its word decides
pub word_starts : (cs : List Class) (ts : Rest Lexeme Place) (w : Bytes) → Some w ≡ next_ident ts
    → starts lexicon cs ts ≡ takes cs w
unfolding starts
word_starts cs (end m) w e = absurd cc
word_starts cs (token t rest) w e = go t.kind e
  where
    go : (k : TokenKind) → Some w ≡ any_ident (record t { kind = k })
        → seen sees cs (record t { kind = k }) ≡ takes cs w
    go kind.Ident e = let p : t.text ≡ w = cc in ident_seen cs t.text t.place ∙ ap (takes cs) p
    go (kind.Integer n) e = absurd cc
    go kind.Float e = absurd cc
    go kind.Str e = absurd cc
    go (kind.Symbol c) e = absurd cc

-- the classes that see no identifier
abbrev pub signs : List Class → List Class
signs [] = []
signs (word v ∷ cs) = signs cs
signs (ident vs ∷ cs) = signs cs
signs (c ∷ cs) = c ∷ signs cs

other_seen : (cs : List Class) (t : Lexeme) → is_ident_token t.kind ≡ false
    → seen sees cs t ≡ seen sees (signs cs) t
other_seen [] t h = refl
other_seen (word v ∷ cs) t h = rw h (other_seen cs t h)
other_seen (ident vs ∷ cs) t h = rw h (other_seen cs t h)
other_seen (symbol x ∷ cs) t h = ap (λ b. sees (symbol x) t || b) (other_seen cs t h)
other_seen (integer ∷ cs) t h = ap (λ b. sees integer t || b) (other_seen cs t h)
other_seen (float ∷ cs) t h = ap (λ b. sees float t || b) (other_seen cs t h)
other_seen (text ∷ cs) t h = ap (λ b. sees text t || b) (other_seen cs t h)

-- no identifier comes next: no word decides
pub signs_start : (cs : List Class) (ts : Rest Lexeme Place) → None ≡ next_ident ts
    → starts lexicon cs ts ≡ starts lexicon (signs cs) ts
unfolding starts
signs_start cs (end m) e = refl
signs_start cs (token t rest) e = other_seen cs t (go t.kind e)
  where
    go : (k : TokenKind) → None ≡ any_ident (record t { kind = k }) → is_ident_token k ≡ false
    go kind.Ident e = absurd cc
    go (kind.Integer n) e = refl
    go kind.Float e = refl
    go kind.Str e = refl
    go (kind.Symbol c) e = refl

-- no class sees anything
pub nothing_starts : (ts : Rest Lexeme Place) → starts lexicon [] ts ≡ false
unfolding starts
nothing_starts (end m) = refl
nothing_starts (token t rest) = refl

-- one of two symbols comes next
pub either_starts : (c d : Class) (ts : Rest Lexeme Place)
    → starts lexicon (c ∷ d ∷ []) ts ≡ (starts lexicon (c ∷ []) ts || starts lexicon (d ∷ []) ts)
either_starts c d ts = starts-append lexicon (c ∷ []) (d ∷ []) ts

among_takes : {A : Type 0} (table : List (Bytes × A)) (w : Bytes) (o : Option A)
    → o ≡ lookup table w → takes (words (table_words table)) w ≡ is_some o
among_takes table w o e = rw e (go table)
  where
    go : {A : Type 0} (table : List (Bytes × A))
        → takes (words (table_words table)) w ≡ is_some (lookup table w)
    go [] = refl
    go (p ∷ ps) = at (bytes_eq w p.0) (go ps)
      where
        at : (b : Bool) → takes (words (table_words ps)) w ≡ is_some (lookup ps w)
            → (b || takes (words (table_words ps)) w) ≡ is_some (cond b (Some p.1) (lookup ps w))
        at true h = refl
        at false h = h

-- the identifier that comes next is no word of the table
pub finds_no_word : {A : Type 0} (table : List (Bytes × A)) (ts : Rest Lexeme Place) (w : Bytes)
    → Some w ≡ next_ident ts → None ≡ lookup table w → Finds table None ts ts
finds_no_word table ts w e f = (
  word_starts (words (table_words table)) ts w e
      ∙ among_takes table w None f,
  refl,
)

only_words : (ws : List Bytes) → signs (words ws) ≡ []
only_words [] = refl
only_words (w ∷ ws) = only_words ws

-- no identifier comes next
pub finds_nothing : {A : Type 0} (table : List (Bytes × A)) (ts : Rest Lexeme Place)
    → None ≡ next_ident ts → Finds table None ts ts
finds_nothing table ts e = (
  signs_start (words (table_words table)) ts e
      ∙ ap (λ cs. starts lexicon cs ts) (only_words (table_words table)) ∙ nothing_starts ts,
  refl,
)

reads_word : {A : Type 0} (table : List (Bytes × A)) (ts : Rest Lexeme Place) (w : Bytes) (x : A)
    → Some w ≡ next_ident ts → Some x ≡ lookup table w
    → (one_of table).run ts ≡ read x (behind_next ts)
reads_word table (end m) w x e f = absurd cc
reads_word {A = A} table (token t rest) w x e f = go t.kind e
  where
    go : (k : TokenKind) → Some w ≡ any_ident (record t { kind = k })
        → taken (word_of table (record t { kind = k })) (token t rest) rest ≡ read x rest
    go kind.Ident e = let p : w ≡ t.text = cc in
        let q : lookup table t.text ≡ Some x = ap (lookup table) (sym p) ∙ sym f in rw q refl
    go (kind.Integer n) e = absurd cc
    go kind.Float e = absurd cc
    go kind.Str e = absurd cc
    go (kind.Symbol c) e = absurd cc

-- the identifier that comes next is a word of the table
pub finds_word : {A : Type 0} (table : List (Bytes × A)) (ts : Rest Lexeme Place) (w : Bytes)
    (x : A) → Some w ≡ next_ident ts → Some x ≡ lookup table w
    → Finds table (Some x) ts (behind_next ts)
finds_word table ts w x e f = (
  word_starts (words (table_words table)) ts w e
      ∙ among_takes table w (Some x) f,
  reads_word table ts w x e f,
)

-- a dot is the first token of what has no label
pub dot_unlabelled : (ts : Rest Lexeme Place) → starts lexicon (symbol 46 ∷ []) ts ≡ true
    → NextIs IsUnlabelled ts
unfolding starts
dot_unlabelled (end m) h = absurd cc
dot_unlabelled (token t rest) h = go (sees (symbol 46) t) h
  where
    go : (b : Bool) → (b || false) ≡ true
        → (b || (sees (ident (table_words labels ++ statement_words)) t || false)) ≡ true
    go true h = refl
    go false h = absurd cc

pub semicolon_or : (cs : List Class) (ts : Rest Lexeme Place)
    → starts lexicon (symbol 59 ∷ cs) ts
    ≡ (starts lexicon (symbol 59 ∷ []) ts || starts lexicon cs ts)
semicolon_or cs ts = starts-append lexicon (symbol 59 ∷ []) cs ts
