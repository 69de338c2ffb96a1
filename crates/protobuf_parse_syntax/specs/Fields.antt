-- No public clause rests on this file.
-- Readers of types and fields whose parts have so many levels, and what one level more reads.
use Rattle.std.proofs.Common.{◌≡◌, ℕ, suc, ◌≤◌, ◌-◌, List, [], ◌∷◌, Option, None, false, codes}
use Rattle.std.proofs.Common.{refl, ap, ◌∙◌, arith}
use Rattle.protobuf_parse_grammar.specs.Readers.{Rest, Read, read, deep, bind, nested, starts}
use Rattle.protobuf_parse_grammar.specs.Readers.{starts-append}
use Rattle.protobuf_parse_grammar.specs.Pairs.{both, none-le, level-zero, level-suc}
use Rattle.protobuf_parse_lexer.specs.Text.{Bytes}
use Rattle.protobuf_parse_lexer.specs.Tokens.{Lexeme}
use Rattle.protobuf_parse_lexer.specs.Classes.{Class, word as word_class, words}
use Rattle.protobuf_parse_lexer.specs.declared.lexer.token.Place.{Place}
use Rattle.protobuf_parse_syntax.specs.Trees as tree
use Rattle.protobuf_parse_syntax.specs.Trees.{FieldStatementSyntax}
use Rattle.protobuf_parse_syntax.specs.ClassLaws.{lexicon}
use Rattle.protobuf_parse_syntax.specs.Grammar.{table_words, labels, labels3, scalars, MapOf}
use Rattle.protobuf_parse_syntax.specs.Grammar.{TypeOf, IsType, AfterLabel, FieldOf, IsField}
use Rattle.protobuf_parse_syntax.specs.Productions.{Parses, name}
use Rattle.protobuf_parse_syntax.specs.Nested.{Parts, type_shape, map_of, type_of, type_}
use Rattle.protobuf_parse_syntax.specs.Nested.{after_type, field_firsts, field_shape}
use Rattle.protobuf_parse_syntax.specs.Nested.{after_label_shape, after_label, field_of, field}
use Rattle.protobuf_parse_syntax.specs.Nested.{fields}
use Rattle.protobuf_parse_syntax.specs.declared.tree.Syntax.{Syntax}
use Rattle.protobuf_parse_syntax.specs.declared.tree.Syntax.TheVariants.{Proto2, Proto3}
use Rattle.protobuf_parse_syntax.specs.declared.tree.field.Label.{Label}

-- ---- types

-- a type whose parts have at most n levels
abbrev pub type_in : (n : ℕ) → Parses (TypeOf (IsType n)) type_shape
type_in n = (type_of n 0 (none-le refl type_of n) (IsType n) (IsType n) (both (type_ n))).low

pub type_zero : (n : ℕ) (ts : Rest Lexeme Place) → n ≡ 0 → (type_ n).run ts ≡ deep
type_zero n ts e = ap (λ m. (type_ m).run ts) e ∙ level-zero refl type_of ts

pub type_more : (n : ℕ) (ts : Rest Lexeme Place) → 1 ≤ n
    → (type_ n).run ts ≡ (type_in (n - 1)).run ts
type_more n ts h =
    let e : n ≡ suc (n - 1) = omega arith in
    ap (λ m. (type_ m).run ts) e ∙ level-suc refl type_of (n - 1) ts

-- where no scalar and no map comes next
pub type_named : (n : ℕ) (ts : Rest Lexeme Place)
    → starts lexicon (words (table_words scalars)) ts ≡ false
    → starts lexicon (word_class (codes "map") ∷ []) ts ≡ false
    → (type_in n).run ts ≡ bind (name.run ts) (λ m rest. read (tree.named m) rest)
unfolding type_of map_of
type_named n ts h i =
    let e : starts lexicon (words (codes "map" ∷ table_words scalars)) ts
    ≡ false = starts-append lexicon (word_class (codes "map") ∷ [])
    (words (table_words scalars)) ts ∙ rw (h, i) refl in
    rw (h, i, e) refl

-- a map with such types in it
abbrev pub map_in : (n : ℕ)
    → Parses (MapOf (IsType n)) (nested (word_class (codes "map") ∷ []) false [])
map_in n = (map_of (both (type_ n))).low

-- ---- fields

pub least : (n : ℕ) → 0 ≤ n
least n = omega arith

-- a normal field of n levels, or a group with fields of j levels
abbrev pub after_label_in : (s : Syntax) (n j : ℕ) (place : Place) (label : Option Label)
    → Parts (AfterLabel n (IsField s j) place label)
    (AfterLabel (suc n) (IsField s (suc j)) place label) after_label_shape 0
after_label_in s n j place label =
    after_label s n j 0 (least n) (least (suc j)) place label (fields s j)

-- a field with types of j levels in a map, and options of n levels
abbrev pub reads_map_field : (n j : ℕ) (place : Place) → Rest Lexeme Place
    → Read Lexeme Place FieldStatementSyntax
reads_map_field n j place ts =
    bind ((map_in j).run ts) (λ type_ us. (after_type n place None type_).low.run us)

-- the labels of a version
abbrev pub labels_in : Syntax → List (Bytes × Label)
labels_in Proto2 = labels
labels_in Proto3 = labels3

abbrev pub group_firsts : List Class
group_firsts = word_class (codes "group") ∷ []

-- a field of n + 1 levels
abbrev pub field_in : (s : Syntax) (n : ℕ)
    → Parses (FieldOf s n (IsField s n)) (field_shape (field_firsts s))
field_in s n =
    (field_of s n 0 (none-le refl (field_of s) n) (IsField s n) (IsField s n)
    (both (field s n))).low

pub field_zero : (s : Syntax) (n : ℕ) (ts : Rest Lexeme Place) → n ≡ 0 → (field s n).run ts ≡ deep
field_zero s n ts e = ap (λ m. (field s m).run ts) e ∙ level-zero refl (field_of s) ts

pub field_more : (s : Syntax) (n : ℕ) (ts : Rest Lexeme Place) → 1 ≤ n
    → (field s n).run ts ≡ (field_in s (n - 1)).run ts
field_more s n ts h =
    let e : n ≡ suc (n - 1) = omega arith in
    ap (λ m. (field s m).run ts) e ∙ level-suc refl (field_of s) (n - 1) ts
