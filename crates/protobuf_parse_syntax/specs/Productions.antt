-- No public clause rests on this file.
-- A reader for each production of the grammar in which nothing nests.
use Rattle.std.proofs.Common.{◌≡◌, ℕ, zero, suc, ℤ, pos, List, [], ◌∷◌, ◌++◌, Option, Some, None}
use Rattle.std.proofs.Common.{Bool, true, false, ◌||◌, cond, bytes_eq, slice_index, codes, refl}
use Rattle.std.proofs.Common.{sym, ap, ◌∙◌, ◌&&◌, is_none}
use Rattle.std.proofs.lemmas.List.{append-nil}
use Rattle.protobuf_parse_base.specs.Characters as char
use Rattle.protobuf_parse_grammar.specs.Relations.{Rel, Then, Nothing, Either, One, Separated}
use Rattle.protobuf_parse_grammar.specs.Restrictions.{Meant}
use Rattle.protobuf_parse_grammar.specs.Relations.{Unless}
use Rattle.protobuf_parse_grammar.specs.Readers.{Rest, end, token, read, bind, starts}
use Rattle.protobuf_parse_grammar.specs.Combinators.{run_many}
use Rattle.protobuf_parse_grammar.specs.Readers.{Reader, Shape, shape}
use Rattle.protobuf_parse_grammar.specs.Relations.{seen}
use Rattle.protobuf_parse_grammar.specs.Combinators.{then_shape, give, one}
use Rattle.protobuf_parse_grammar.specs.Readers.{or_true, and_left, and_right, stuck}
use Rattle.protobuf_parse_grammar.specs.Combinators.{choose, many, shaped, ◌>>=◌, ◌>>◌}
use Rattle.protobuf_parse_grammar.specs.Readers.{all_apart-law}
use Rattle.protobuf_parse_grammar.specs.Conditions.{at, one_or_more, separated, unless, meant}
use Rattle.protobuf_parse_grammar.specs.Loops.{with_rest}
use Rattle.protobuf_parse_lexer.specs.Text.{Bytes}
use Rattle.protobuf_parse_lexer.specs.Tokens.{Lexeme}
use Rattle.protobuf_parse_lexer.specs.Classes.{Class, sees, symbol as symbol_class}
use Rattle.protobuf_parse_lexer.specs.Classes.{word as word_class, ident as ident_class, integer}
use Rattle.protobuf_parse_lexer.specs.Classes.{text, is_ident_token, words, floatings}
use Rattle.protobuf_parse_lexer.specs.Classes.{is_floating, is_one_of}
use Rattle.protobuf_parse_lexer.specs.Tokens.{StandsFor}
use Rattle.protobuf_parse_lexer.specs.Decoder.{text_of}
use Rattle.protobuf_parse_lexer.specs.DecoderLaws.{text-to, text-from}
use Rattle.protobuf_parse_lexer.specs.declared.lexer.token.Place.{Place}
use Rattle.protobuf_parse_lexer.specs.declared.lexer.token.TokenKind.{TokenKind}
use Rattle.protobuf_parse_lexer.specs.declared.lexer.token.TokenKind.TheVariants as kind
use Rattle.protobuf_parse_syntax.specs.Trees as tree
use Rattle.protobuf_parse_syntax.specs.Trees.{Pieces, OptionPartSyntax}
use Rattle.protobuf_parse_syntax.specs.ClassLaws.{lexicon}
use Rattle.protobuf_parse_syntax.specs.Grammar as grammar
use Rattle.protobuf_parse_syntax.specs.Grammar.{if_so, IsSymbol, IsWord, any_ident, IsIdent, lookup}
use Rattle.protobuf_parse_syntax.specs.Grammar.{word_of, IsWordOf, table_words, number_at, IsNumber}
use Rattle.protobuf_parse_syntax.specs.Grammar.{small_at, small_number, IsNumberUpTo, negative}
use Rattle.protobuf_parse_syntax.specs.Grammar.{piece_at, string_piece, capital_ident, dots}
use Rattle.protobuf_parse_syntax.specs.Grammar.{truth_words, AfterSlash, labels, labels3, scalars}
use Rattle.protobuf_parse_syntax.specs.Grammar.{IsVisibility, IsStr, IsDotted, IsRoot, IsName}
use Rattle.protobuf_parse_syntax.specs.Grammar.{IsInteger, IsBracketedName, IsConstantName}
use Rattle.protobuf_parse_syntax.specs.Grammar.{IsFieldEnd, IsWordConstant, IsOptionPart}
use Rattle.protobuf_parse_syntax.specs.Grammar.{IsGroupName}
use Rattle.protobuf_parse_syntax.specs.Grammar.{IsFieldNumber, IsRangeEnd, IsRange, IsExtensions}
use Rattle.protobuf_parse_syntax.specs.Grammar.{IsEnumNumber, IsStreamed, IsPackage, AtMost}
use Rattle.protobuf_parse_syntax.specs.Grammar.{IsNextPart, IsOptionName, SaysVersion}
use Rattle.protobuf_parse_syntax.specs.Grammar.{SaysPath, IsVersion, IsPath, IsReservedName}
use Rattle.protobuf_parse_syntax.specs.Grammar.{IsSyntax, IsImport, AreReserved, IsReserved}
use Rattle.protobuf_parse_syntax.specs.Readings.{for, from_first, telling, too_many, finding, none-to}
use Rattle.protobuf_parse_syntax.specs.Readings.{none-from, more-to, more-from}
use Rattle.protobuf_parse_syntax.specs.Said.{version_of, path_of}
use Rattle.protobuf_parse_syntax.specs.SaidLaws.{version-to, version-from, path-to, path-from}
use Rattle.protobuf_parse_syntax.specs.declared.tree.ImportVis.TheVariants as visible
use Rattle.protobuf_parse_syntax.specs.declared.tree.Syntax.TheVariants.{Proto2}

abbrev pub Parses : {A : Type 0} → (List Lexeme → A → Type 0) → Shape Class → Type 0
Parses = Reader lexicon

-- ---- tokens

if_so-seen : {A : Type 0} (c : Class) (t : Lexeme) (v a : A) → if_so (sees c t) v ≡ Some a
    → seen sees (c ∷ []) t ≡ true
if_so-seen c t v a e = go (sees c t) refl e
  where
    go : (b : Bool) → sees c t ≡ b → if_so b v ≡ Some a → (sees c t || false) ≡ true
    go true h e = rw h refl
    go false h e = absurd cc

pub symbol-law : (c : ℕ) (t : Lexeme) (a : Unit {0}) → if_so (sees (symbol_class c) t) tt ≡ Some a
    → seen sees (symbol_class c ∷ []) t ≡ true
symbol-law c t a e = if_so-seen (symbol_class c) t tt a e

abbrev pub symbol : (c : ℕ) → Reader lexicon (IsSymbol c) (shape (symbol_class c ∷ []) false [])
symbol c = one (λ t. if_so (sees (symbol_class c) t) tt) (symbol_class c ∷ []) (symbol-law c)

pub word-law : (w : Bytes) (t : Lexeme) (a : Unit {0}) → if_so (sees (word_class w) t) tt ≡ Some a
    → seen sees (word_class w ∷ []) t ≡ true
word-law w t a e = if_so-seen (word_class w) t tt a e

abbrev pub word : (w : Bytes) → Reader lexicon (IsWord w) (shape (word_class w ∷ []) false [])
word w = one (λ t. if_so (sees (word_class w) t) tt) (word_class w ∷ []) (word-law w)

pub ident-law : (t : Lexeme) (a : Bytes) → any_ident t ≡ Some a
    → seen sees (ident_class [] ∷ []) t ≡ true
ident-law t a e = if_so-seen (ident_class []) t t.text a e

abbrev pub ident : Reader lexicon IsIdent (shape (ident_class [] ∷ []) false [])
ident = one any_ident (ident_class [] ∷ []) ident-law

pub capital-law : (t : Lexeme) (a : Bytes) → capital_ident t ≡ Some a
    → seen sees (ident_class [] ∷ []) t ≡ true
capital-law t a e = go (grammar.is_capital (slice_index t.text 0)) e
  where
    go : (b : Bool) → cond b (any_ident t) None ≡ Some a → seen sees (ident_class [] ∷ []) t ≡ true
    go true e = ident-law t a e
    go false e = absurd cc

abbrev pub capital : Reader lexicon (One capital_ident) (shape (ident_class [] ∷ []) false [])
capital = one capital_ident (ident_class [] ∷ []) capital-law

-- whether the word `group` and an identifier come next that does not begin with a capital
abbrev pub names_low : Lexeme → Rest Lexeme Place → Bool
names_low t (end m) = false
names_low t (token u rest) = sees (word_class (codes "group")) t
    && (sees (ident_class []) u && is_none (capital_ident u))

-- the word `group` and a name that begins with one
abbrev pub group_parts : Reader lexicon IsGroupName
    (then_shape lexicon (shape (word_class (codes "group") ∷ []) false [])
    (shape (ident_class [] ∷ []) false []))
group_parts = do word (codes "group"); capital

none_there : {A : Type 0} (o : Option A) → is_none o ≡ true → o ≡ None
none_there None h = refl
none_there (Some a) h = absurd cc

pub low_stops : (t : Lexeme) (us : Rest Lexeme Place) → names_low t us ≡ true
    → group_parts.run (token t us) ≡ stuck us
low_stops t (end m) h = absurd cc
low_stops t (token u rest) h =
    let low = and_right (sees (word_class (codes "group")) t) _ h in
    rw (
      and_left (sees (word_class (codes "group")) t) _ h,
      none_there (capital_ident u) (and_right (sees (ident_class []) u) _ low),
    ) refl

-- such a name; the word is told with one that does not begin with a capital
unfoldable pub group_name : Parses IsGroupName (shape (word_class (codes "group") ∷ []) false [])
group_name = shaped (shape (word_class (codes "group") ∷ []) false [])
    (telling names_low group_parts low_stops) refl

lookup-seen : {A : Type 0} (table : List (Bytes × A)) (t : Lexeme) (a : A)
    → is_ident_token t.kind ≡ true
    → lookup table t.text ≡ Some a → seen sees (words (table_words table)) t ≡ true
lookup-seen [] t a k e = absurd cc
lookup-seen (p ∷ ps) t a k e = go (bytes_eq t.text p.0) refl e (lookup-seen ps t a k)
  where
    go : (b : Bool) → bytes_eq t.text p.0 ≡ b → cond b (Some p.1) (lookup ps t.text) ≡ Some a
        → (lookup ps t.text ≡ Some a → seen sees (words (table_words ps)) t ≡ true)
        → seen sees (words (table_words (p ∷ ps))) t ≡ true
    go true h e f = rw (k, h) refl
    go false h e f = or_true _ _ (f e)

pub word_of-law : {A : Type 0} (table : List (Bytes × A)) (t : Lexeme) (a : A)
    → word_of table t ≡ Some a → seen sees (words (table_words table)) t ≡ true
word_of-law table t a e = go (is_ident_token t.kind) refl e
  where
    go : (b : Bool) → is_ident_token t.kind ≡ b → cond b (lookup table t.text) None ≡ Some a
        → seen sees (words (table_words table)) t ≡ true
    go true h e = lookup-seen table t a h e
    go false h e = absurd cc

abbrev pub one_of : {A : Type 0} (table : List (Bytes × A))
    → Reader lexicon (IsWordOf table) (shape (words (table_words table)) false [])
one_of table = one (word_of table) (words (table_words table)) (word_of-law table)

pub number-law : (t : Lexeme) (a : ℕ) → grammar.number t ≡ Some a
    → seen sees (integer ∷ []) t ≡ true
number-law t a e = go t.kind e
  where
    go : (k : TokenKind) → number_at k ≡ Some a
        → seen sees (integer ∷ []) (record t { kind = k }) ≡ true
    go (kind.Integer n) e = refl
    go kind.Ident e = absurd cc
    go kind.Float e = absurd cc
    go kind.Str e = absurd cc
    go (kind.Symbol c) e = absurd cc

abbrev pub number : Reader lexicon IsNumber (shape (integer ∷ []) false [])
number = one grammar.number (integer ∷ []) number-law

pub small-law : (limit : ℕ) (t : Lexeme) (a : ℕ) → small_number limit t ≡ Some a
    → seen sees (integer ∷ []) t ≡ true
small-law limit t a e = go t.kind e
  where
    go : (k : TokenKind) → small_at limit k ≡ Some a
        → seen sees (integer ∷ []) (record t { kind = k }) ≡ true
    go (kind.Integer n) e = refl
    go kind.Ident e = absurd cc
    go kind.Float e = absurd cc
    go kind.Str e = absurd cc
    go (kind.Symbol c) e = absurd cc

abbrev pub number_up_to : (limit : ℕ)
    → Reader lexicon (IsNumberUpTo limit) (shape (integer ∷ []) false [])
number_up_to limit = one (small_number limit) (integer ∷ []) (small-law limit)

pub piece-law : (t : Lexeme) (a : Bytes) → string_piece t ≡ Some a → seen sees (text ∷ []) t ≡ true
piece-law t a e = go t.kind e
  where
    go : (k : TokenKind) → piece_at k t.text ≡ Some a
        → seen sees (text ∷ []) (record t { kind = k }) ≡ true
    go (kind.Integer n) e = absurd cc
    go kind.Ident e = absurd cc
    go kind.Float e = absurd cc
    go kind.Str e = refl
    go (kind.Symbol c) e = absurd cc

abbrev pub piece : Reader lexicon (One string_piece) (shape (text ∷ []) false [])
piece = one string_piece (text ∷ []) piece-law

-- ---- strings and names

abbrev pub str_shape : Shape Class
str_shape = shape (text ∷ []) false (text ∷ [])

unfoldable pub str : Parses IsStr str_shape
unfolding IsStr
str = shaped str_shape (one_or_more piece refl) refl

-- "." ident
abbrev pub dot_ident : Reader lexicon (Then (IsSymbol char.dot) (λ u. IsIdent))
    (shape (symbol_class char.dot ∷ []) false [])
dot_ident = shaped (shape (symbol_class char.dot ∷ []) false []) (do symbol char.dot; ident) refl

abbrev pub dotted_shape : Shape Class
dotted_shape = shape (ident_class [] ∷ []) false (symbol_class char.dot ∷ [])

unfoldable pub dotted : Parses IsDotted dotted_shape
unfolding IsDotted
dotted = shaped dotted_shape (do
  first ← ident
  others ← many dot_ident refl
  give (first ++ dots others)) refl

unfoldable pub root : Parses IsRoot
    (shape (symbol_class char.dot ∷ []) true (symbol_class char.dot ∷ []))
unfolding IsRoot
root =
    shaped (shape (symbol_class char.dot ∷ []) true (symbol_class char.dot ∷ []))
    (choose (do symbol char.dot; give (char.dot ∷ [])) refl (give [])) refl

abbrev pub name_shape : Shape Class
name_shape = shape (symbol_class char.dot ∷ ident_class [] ∷ []) false (symbol_class char.dot ∷ [])

unfoldable pub name : Parses IsName name_shape
unfolding IsName
name = shaped name_shape (do
  root ← root
  dotted ← dotted
  give (root ++ dotted)) refl

-- ---- constants

abbrev pub integer_shape : Shape Class
integer_shape = shape (integer ∷ symbol_class char.plus ∷ symbol_class char.minus ∷ []) false []

-- what the token says of a number, and None for a float, `inf` or `nan`
abbrev pub found : Option ℕ → Option (Option ℕ)
found None = None
found (Some n) = Some (Some n)

abbrev pub or_floating : (Lexeme → Option ℕ) → Lexeme → Option (Option ℕ)
or_floating says t = cond (is_floating t) (Some None) (found (says t))

-- a sign says something before a number alone
abbrev pub said_of : (ℕ → ℤ) → Option ℕ → Option ℤ
said_of f None = None
said_of f (Some n) = Some (f n)

-- the relation of a sign and a number
abbrev pub SignedBy : ℕ → (Lexeme → Option ℕ) → (ℕ → ℤ) → Rel Lexeme ℤ
SignedBy c says f = Then (IsSymbol c) (λ u. Then (One says) (λ n. Nothing (f n)))

module _ (c : ℕ) (says : Lexeme → Option ℕ) (f : ℕ → ℤ)
    (law : (t : Lexeme) (n : ℕ) → says t ≡ Some n → seen sees (integer ∷ []) t ≡ true) where
  found-law : (t : Lexeme) (o : Option ℕ) (p : Option ℕ) → says t ≡ p → is_floating t ≡ false
      → found p ≡ Some o → seen sees (integer ∷ floatings) t ≡ true
  found-law t o None e h i = absurd cc
  found-law t o (Some n) e h i = rw h (law t n e)

  pub or_floating-law : (t : Lexeme) (o : Option ℕ) → or_floating says t ≡ Some o
      → seen sees (integer ∷ floatings) t ≡ true
  or_floating-law t o e = go (is_floating t) refl e
    where
      go : (b : Bool) → is_floating t ≡ b → cond b (Some None) (found (says t)) ≡ Some o
          → seen sees (integer ∷ floatings) t ≡ true
      go true h e = or_true _ _ h
      go false h e = found-law t o (says t) refl h e

  abbrev pub sign_shape : Shape Class
  sign_shape = then_shape lexicon (shape (symbol_class c ∷ []) false [])
      (shape (integer ∷ floatings) false [])

  -- a sign and a number, or a float, `inf` or `nan`
  abbrev pub sign_and : Reader lexicon (Then (IsSymbol c) (λ u. One (or_floating says))) sign_shape
  sign_and = do symbol c; one (or_floating says) (integer ∷ floatings) or_floating-law

  says_number : (t : Lexeme) (n : ℕ) → or_floating says t ≡ Some (Some n) → says t ≡ Some n
  says_number t n e = go (is_floating t) (says t) e
    where
      go : (b : Bool) (p : Option ℕ) → cond b (Some None) (found p) ≡ Some (Some n) → p ≡ Some n
      go true p e = absurd cc
      go false None e = absurd cc
      go false (Some m) e = cc

  said : (o : Option ℕ) (z : ℤ) → said_of f o ≡ Some z → (n : ℕ) × (o ≡ Some n) × (z ≡ f n)
  said None z e = absurd cc
  said (Some n) z e = (n, refl, cc)

  pub signed-to : (ts : List Lexeme) (z : ℤ)
      → Meant (Then (IsSymbol c) (λ u. One (or_floating says))) (said_of f) ts z
      → SignedBy c says f ts z
  signed-to ts z h =
      let w = h.1 in
      let s = said h.0 z h.2 in
      let o = w.second in
      record {
        value = w.value;
        front = w.front;
        back = w.back;
        first = w.first;
        parts = w.parts;
        second =
            record {
              value = s.0;
              front = w.back;
              back = [];
              first = (o.0, o.1, says_number o.0 s.0 (o.2 ∙ ap (λ (x : Option ℕ). Some x) s.1));
              second = (refl, s.2);
              parts = sym (append-nil w.back);
            };
      }

  pub signed-from : (ts : List Lexeme) (z : ℤ) → SignedBy c says f ts z
      → Meant (Then (IsSymbol c) (λ u. One (or_floating says))) (said_of f) ts z
  signed-from ts z w =
      let v = w.second in
      let o = v.first in
      let n = v.second in
      let flat : is_floating o.0
      ≡ false = all_apart-law lexicon (integer ∷ []) floatings o.0 refl (law o.0 v.value o.2) in
      let back : w.back ≡ v.front = v.parts ∙ ap (λ (x : List Lexeme). v.front ++ x) n.0
      ∙ append-nil v.front in
      let reads : or_floating says o.0 ≡ Some (Some v.value) = rw (flat, o.2) refl in (
        Some v.value,
        record {
          value = w.value;
          front = w.front;
          back = w.back;
          first = w.first;
          parts =
              w.parts;
          second = (o.0, back ∙ o.1, reads);
        },
        ap (λ (x : ℤ). Some x) (sym n.1),
      )

  -- a sign and a number; tokens from the sign on that say nothing, where a float, `inf` or `nan`
  -- follows it
  unfoldable pub signed_by : Reader lexicon (SignedBy c says f) sign_shape
  signed_by = for signed-to signed-from (meant sign_and (said_of f))

abbrev pub plus : Reader lexicon (SignedBy char.plus grammar.number pos)
    (shape (symbol_class char.plus ∷ []) false [])
plus = shaped (shape (symbol_class char.plus ∷ []) false [])
    (signed_by char.plus grammar.number pos number-law) refl

abbrev pub minus : Reader lexicon (SignedBy char.minus (small_number 9223372036854775808) negative)
    (shape (symbol_class char.minus ∷ []) false [])
minus = shaped (shape (symbol_class char.minus ∷ []) false [])
    (signed_by char.minus (small_number 9223372036854775808) negative
    (small-law 9223372036854775808)) refl

unfoldable pub signed : Parses IsInteger integer_shape
unfolding IsInteger
signed =
    shaped integer_shape (choose (do n ← number; give (pos n)) refl (choose plus refl minus)) refl

-- an integer as a constant
unfoldable pub integer_constant : Parses
    (Then IsInteger (λ n. Nothing (tree.integer n))) integer_shape
integer_constant = shaped integer_shape (do n ← signed; give (tree.integer n)) refl

abbrev pub slash_shape : Shape Class
slash_shape =
    shape (symbol_class char.slash ∷ []) true (symbol_class char.slash ∷ symbol_class char.dot ∷ [])

unfoldable pub after_slash : (first : Bytes) → Parses (AfterSlash first) slash_shape
unfolding AfterSlash
after_slash first =
    shaped slash_shape (choose
    (do symbol char.slash; rest ← name; give (tree.url_name (first ++ char.slash ∷ rest))) refl
    (give (tree.extension_name first))) refl

unfoldable pub bracketed_name : Parses IsBracketedName
    (shape (symbol_class char.open_bracket ∷ []) false [])
unfolding IsBracketedName
bracketed_name = shaped (shape (symbol_class char.open_bracket ∷ []) false []) (do
  symbol char.open_bracket
  first ← name
  found ← after_slash first
  symbol char.close_bracket
  give found) refl

abbrev pub constant_name_shape : Shape Class
constant_name_shape = shape (ident_class [] ∷ symbol_class char.open_bracket ∷ []) false []

unfoldable pub constant_name : Parses IsConstantName constant_name_shape
unfolding IsConstantName
constant_name =
    shaped constant_name_shape
    (choose (do name ← ident; give (tree.regular_name name)) refl bracketed_name) refl

abbrev pub field_end_shape : Shape Class
field_end_shape = shape (symbol_class char.comma ∷ symbol_class char.semicolon ∷ []) true
    (symbol_class char.comma ∷ symbol_class char.semicolon ∷ [])

unfoldable pub field_end : Parses IsFieldEnd field_end_shape
unfolding IsFieldEnd
field_end =
    shaped field_end_shape
    (choose (symbol char.comma) refl (choose (symbol char.semicolon) refl (give tt))) refl

unfoldable pub word_constant : Parses IsWordConstant dotted_shape
unfolding IsWordConstant
word_constant = shaped dotted_shape
    (choose (do word (codes "true"); give (tree.truth true)) refl
    (choose (do word (codes "false"); give (tree.truth false)) refl
    (do name ← unless (words truth_words) dotted refl; give (tree.dotted name)))) refl

neither_word : (v w : Bytes) (ts : Rest Lexeme Place)
    → starts lexicon (word_class v ∷ []) ts ≡ false → starts lexicon (word_class w ∷ []) ts ≡ false
    → starts lexicon (words (v ∷ w ∷ [])) ts ≡ false
unfolding starts
neither_word v w (end m) h i = refl
neither_word v w (token t ts) h i = go (sees (word_class v) t) (sees (word_class w) t) h i
  where
    go : (x y : Bool) → (x || false) ≡ false → (y || false) ≡ false → (x || (y || false)) ≡ false
    go true y h i = absurd cc
    go false y h i = i

-- where neither truth value comes next
pub word_constant_name : (ts : Rest Lexeme Place)
    → starts lexicon (word_class (codes "true") ∷ []) ts ≡ false
    → starts lexicon (word_class (codes "false") ∷ []) ts ≡ false
    → word_constant.run ts ≡ bind (dotted.run ts) (λ name rest. read (tree.dotted name) rest)
unfolding word_constant
word_constant_name ts h i = rw (h, i, neither_word (codes "true") (codes "false") ts h i) refl

-- ---- options

abbrev pub option_part_firsts : List Class
option_part_firsts = ident_class [] ∷ symbol_class char.open_paren ∷ []

abbrev pub option_part_shape : Shape Class
option_part_shape = shape option_part_firsts false []

unfoldable pub option_part : Parses IsOptionPart option_part_shape
unfolding IsOptionPart
option_part =
    shaped option_part_shape (choose (do name ← ident; give (tree.direct name)) refl
    (do symbol char.open_paren; name ← name; symbol char.close_paren; give (tree.extension name)))
    refl

-- ---- numbers and ranges

unfoldable pub field_number : Parses IsFieldNumber (shape (integer ∷ []) false [])
unfolding IsFieldNumber
field_number =
    shaped (shape (integer ∷ []) false []) (do n ← number_up_to 2147483647; give (pos n)) refl

abbrev pub range_end_shape : Shape Class
range_end_shape = shape (word_class (codes "to") ∷ []) true (word_class (codes "to") ∷ [])

unfoldable pub range_end : (from : ℤ) → Parses (IsRangeEnd from) range_end_shape
unfolding IsRangeEnd
range_end from =
    shaped range_end_shape (choose
    (do word (codes "to"); choose field_number refl (do word (codes "max"); give (pos 536870911)))
    refl (give from)) refl

abbrev pub range_shape : Shape Class
range_shape = shape (integer ∷ []) false (word_class (codes "to") ∷ [])

unfoldable pub range : Parses IsRange range_shape
unfolding IsRange
range = shaped range_shape (do
  from ← field_number
  to ← range_end from
  give (record { from = from; to = to })) refl

-- "," range
abbrev pub comma_range : Reader lexicon (Then (IsSymbol char.comma) (λ u. IsRange))
    (shape (symbol_class char.comma ∷ []) false (word_class (codes "to") ∷ []))
comma_range =
    shaped (shape (symbol_class char.comma ∷ []) false (word_class (codes "to") ∷ []))
    (do symbol char.comma; range) refl

abbrev pub ranges_shape : Shape Class
ranges_shape = shape (integer ∷ []) false (word_class (codes "to") ∷ symbol_class char.comma ∷ [])

unfoldable pub ranges : Parses (Separated (IsSymbol char.comma) IsRange) ranges_shape
ranges = shaped ranges_shape (separated (symbol char.comma) refl range) refl

-- behind the first of them
pub ranges_first : (ts us : Rest Lexeme Place) (a : tree.RangeSyntax) → range.run ts ≡ read a us
    → ranges.run ts ≡ with_rest (λ (v : List tree.RangeSyntax). v)
    (λ (v : List tree.RangeSyntax). v) (a ∷ []) (run_many comma_range us)
unfolding ranges range run_many
ranges_first ts us a e = rw e refl

abbrev pub extensions_shape : Shape Class
extensions_shape = shape (word_class (codes "extensions") ∷ []) false
    (word_class (codes "to") ∷ symbol_class char.comma ∷ [])

unfoldable pub extensions : Parses IsExtensions extensions_shape
unfolding IsExtensions
extensions = shaped extensions_shape (at (λ place. do
  word (codes "extensions")
  ranges ← ranges
  give (record { place = place; ranges = ranges })) refl) refl

unfoldable pub enum_number : Parses IsEnumNumber
    (shape (integer ∷ symbol_class char.minus ∷ []) false [])
unfolding IsEnumNumber
enum_number =
    shaped (shape (integer ∷ symbol_class char.minus ∷ []) false [])
    (choose field_number refl
    (do symbol char.minus; n ← number_up_to 2147483648; give (negative n))) refl

-- with what a statement of an enum begins that is no value
abbrev pub other_statements : List Class
other_statements = words (codes "reserved" ∷ codes "option" ∷ [])

unfoldable pub value_name : Reader lexicon (Unless (is_one_of other_statements) IsIdent)
    (shape (ident_class (codes "reserved" ∷ codes "option" ∷ []) ∷ []) false [])
value_name = shaped (shape (ident_class (codes "reserved" ∷ codes "option" ∷ []) ∷ []) false [])
    (unless other_statements ident refl) refl

-- ---- services and files

unfoldable pub streamed : Parses IsStreamed (shape (symbol_class char.open_paren ∷ []) false [])
unfolding IsStreamed
streamed = shaped (shape (symbol_class char.open_paren ∷ []) false []) (do
  symbol char.open_paren
  type_ ← choose (do word (codes "stream"); name ← name; give (true, name)) refl
      (do name ← unless (words (codes "stream" ∷ [])) name refl; give (false, name))
  symbol char.close_paren
  give type_) refl

unfoldable pub package_name : Parses IsPackage (shape (word_class (codes "package") ∷ []) false [])
unfolding IsPackage
package_name = shaped (shape (word_class (codes "package") ∷ []) false []) (at (λ place. do
  word (codes "package")
  name ← dotted
  symbol char.semicolon
  give (record { place = place; name = name })) refl) refl

-- ---- the name of an option

abbrev pub parts_shape : Shape Class
parts_shape = shape (symbol_class char.dot ∷ []) true (symbol_class char.dot ∷ [])

unfoldable pub next_part : Parses IsNextPart (shape (symbol_class char.dot ∷ []) false [])
unfolding IsNextPart
next_part =
    shaped (shape (symbol_class char.dot ∷ []) false []) (do symbol char.dot; option_part) refl

-- At most so many parts, each behind a dot, and no dot behind them. They are wrong from one too
-- many on.
unfoldable pub parts_up_to : (limit : ℕ) → Parses (AtMost limit IsNextPart) parts_shape
parts_up_to zero = for (none-to IsNextPart) (none-from IsNextPart)
    (shaped parts_shape
    (choose (too_many (List OptionPartSyntax) lexicon option_part_firsts
    (symbol_class char.dot ∷ []))
    refl (give [])) refl)
parts_up_to (suc k) =
    for (more-to IsNextPart k) (more-from IsNextPart k)
    (shaped parts_shape (choose
    (do first ← next_part; others ← parts_up_to k; give (first ∷ others)) refl (give [])) refl)

abbrev pub option_name_shape : Shape Class
option_name_shape =
    shape (ident_class [] ∷ symbol_class char.open_paren ∷ []) false (symbol_class char.dot ∷ [])

unfoldable pub option_name : Parses IsOptionName option_name_shape
unfolding IsOptionName
option_name = shaped option_name_shape (do
  first ← option_part
  others ← parts_up_to 99
  give (grammar.option_name first others)) refl

-- ---- strings that say something

unfoldable pub version : Parses IsVersion str_shape
unfolding IsVersion
version = finding str SaysVersion version_of version-to version-from

unfoldable pub path : Parses IsPath str_shape
unfolding IsPath
path = finding str SaysPath path_of path-to path-from

unfoldable pub reserved_name : Parses IsReservedName str_shape
unfolding IsReservedName
reserved_name = finding str StandsFor text_of text-to text-from

unfoldable pub syntax : Parses IsSyntax (shape (word_class (codes "syntax") ∷ []) false [])
unfolding IsSyntax
syntax = shaped (shape (word_class (codes "syntax") ∷ []) false []) (do
  word (codes "syntax")
  symbol char.equals
  syntax ← version
  symbol char.semicolon
  give syntax) refl

-- [ syntax ]; proto2 where it is absent
unfoldable pub version_statement : Parses (Either IsSyntax (Nothing Proto2))
    (shape (word_class (codes "syntax") ∷ []) true (word_class (codes "syntax") ∷ []))
version_statement =
    shaped (shape (word_class (codes "syntax") ∷ []) true (word_class (codes "syntax") ∷ []))
    (choose syntax refl (give Proto2)) refl

abbrev pub visibility_shape : Shape Class
visibility_shape = shape (words (codes "weak" ∷ codes "public" ∷ [])) true
    (words (codes "weak" ∷ codes "public" ∷ []))

-- [ "weak" | "public" ]
unfoldable pub visibility : Parses IsVisibility visibility_shape
unfolding IsVisibility
visibility =
    shaped visibility_shape (choose (do word (codes "weak"); give visible.Weak) refl
    (choose (do word (codes "public"); give visible.Public) refl (give visible.Default))) refl

unfoldable pub import_parts : Parses IsImport (shape (word_class (codes "import") ∷ []) false [])
unfolding IsImport
import_parts = shaped (shape (word_class (codes "import") ∷ []) false []) (at (λ place. do
  word (codes "import")
  vis ← visibility
  path ← path
  symbol char.semicolon
  give (record { place = place; vis = vis; path = path })) refl) refl

-- wrong from the word `import` on, if its string is
abbrev pub imported : Parses IsImport (shape (word_class (codes "import") ∷ []) false [])
imported = from_first import_parts

abbrev pub reserved_shape : Shape Class
reserved_shape = shape (text ∷ integer ∷ []) false
    (text ∷ symbol_class char.comma ∷ word_class (codes "to") ∷ [])

-- "," and a text
abbrev pub comma_name : Reader lexicon (Then (IsSymbol char.comma) (λ u. IsReservedName))
    (then_shape lexicon (shape (symbol_class char.comma ∷ []) false []) str_shape)
comma_name = do symbol char.comma; reserved_name

unfoldable pub names : Parses (Separated (IsSymbol char.comma) IsReservedName)
    (shape (text ∷ []) false (text ∷ symbol_class char.comma ∷ []))
names = shaped (shape (text ∷ []) false (text ∷ symbol_class char.comma ∷ [])) (do
  first ← reserved_name
  others ← many comma_name refl
  give (first ∷ others)) refl

-- behind the first of them
pub names_first : (ts us : Rest Lexeme Place) (a : Bytes) → reserved_name.run ts ≡ read a us
    → names.run ts ≡ with_rest (λ (v : List Bytes). v) (λ (v : List Bytes). v) (a ∷ [])
    (run_many comma_name us)
unfolding names reserved_name run_many
names_first ts us a e = rw e refl

unfoldable pub reserved_items : Parses AreReserved reserved_shape
unfolding AreReserved
reserved_items =
    shaped reserved_shape (choose (do names ← names; give (tree.reserved_names names)) refl
    (do ranges ← ranges; give (tree.reserved_ranges ranges))) refl

unfoldable pub reserved_parts : Parses IsReserved
    (shape (word_class (codes "reserved") ∷ []) false [])
unfolding IsReserved
reserved_parts = shaped (shape (word_class (codes "reserved") ∷ []) false []) (at (λ place. do
  word (codes "reserved")
  reserved ← reserved_items
  symbol char.semicolon
  give (record { place = place; reserved = reserved })) refl) refl

-- wrong from the word `reserved` on, if one of its names is
abbrev pub reserved : Parses IsReserved (shape (word_class (codes "reserved") ∷ []) false [])
reserved = from_first reserved_parts
