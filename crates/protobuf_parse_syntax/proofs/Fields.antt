-- What readers of fields read.
use Rattle.std.proofs.Common.{◌≡◌, ◌≤◌, ◌-◌, ℕ, suc, List, [], ◌∷◌, ◌++◌, Option, Some, None, Bool}
use Rattle.std.proofs.Common.{true, false, not, is_some, ◌||◌, cond, bytes_eq, refl, ◌∙◌, codes}
use Rattle.std.proofs.Common.{arith}
use Rattle.protobuf_parse_grammar.specs.Relations.{somes}
use Rattle.protobuf_parse_grammar.specs.Readers.{Rest, end, token, read, stuck, bind}
use Rattle.protobuf_parse_grammar.specs.Relations.{seen}
use Rattle.protobuf_parse_grammar.specs.Combinators.{taken}
use Rattle.protobuf_parse_grammar.specs.Readers.{starts, starts-within, first-of, last-of}
use Rattle.protobuf_parse_grammar.specs.Combinators.{run_many}
use Rattle.protobuf_parse_grammar.specs.Conditions.{mark_of}
use Rattle.protobuf_parse_lexer.specs.Text.{Bytes}
use Rattle.protobuf_parse_lexer.specs.Tokens.{Lexeme}
use Rattle.protobuf_parse_lexer.specs.Classes.{Class, symbol as symbol_class, word as word_class}
use Rattle.protobuf_parse_lexer.specs.Classes.{ident as ident_class, sees, is_among, words}
use Rattle.protobuf_parse_lexer.specs.declared.lexer.token.Place.{Place}
use Rattle.protobuf_parse_lexer.specs.declared.lexer.token.TokenKind.{TokenKind}
use Rattle.protobuf_parse_lexer.specs.declared.lexer.token.TokenKind.TheVariants as kind
use Rattle.protobuf_parse_syntax.specs.ClassLaws.{lexicon}
use Rattle.protobuf_parse_syntax.specs.Grammar.{place_of, scalars, labels, labels3, statement_words}
use Rattle.protobuf_parse_syntax.specs.Grammar.{table_words}
use Rattle.protobuf_parse_syntax.specs.Productions.{symbol, word, ident, name, root, dotted}
use Rattle.protobuf_parse_syntax.specs.Nested as nest
use Rattle.protobuf_parse_syntax.specs.Nested.{field_of, after_label, group_of, field_block_of}
use Rattle.protobuf_parse_syntax.specs.Nested.{field_items_of, field_item_of, normal_field}
use Rattle.protobuf_parse_syntax.specs.Nested.{map_field, map_of, oneof_field}
use Rattle.protobuf_parse_syntax.specs.Words.{Finds}
use Rattle.protobuf_parse_syntax.specs.Fields.{type_more, type_named, after_label_in}
use Rattle.protobuf_parse_syntax.specs.Fields.{reads_map_field, labels_in, group_firsts, field_in}
use Rattle.protobuf_parse_syntax.specs.declared.tree.Syntax.{Syntax}
use Rattle.protobuf_parse_syntax.specs.declared.tree.Syntax.TheVariants.{Proto2, Proto3}
use Rattle.protobuf_parse_syntax.specs.declared.tree.field.Label.{Label}

-- ---- bodies

pub field_item_law : (s : Syntax) (n : ℕ) (ts : Rest Lexeme Place)
    → (field_item_of s (nest.fields s n)).low.run ts
    ≡ cond (starts lexicon (symbol_class 59 ∷ []) ts)
    (bind ((symbol 59).run ts) (λ u us. read None us))
    (bind ((nest.field s n).run ts) (λ f us. read (Some f) us))
unfolding field_item_of
field_item_law Proto2 n ts = refl
field_item_law Proto3 n ts = refl

pub field_items_law : (s : Syntax) (n : ℕ) (ts : Rest Lexeme Place)
    → (field_items_of s (nest.fields s n)).low.run ts
    ≡ bind (run_many (field_item_of s (nest.fields s n)).low ts)
    (λ items rest. read (somes items) rest)
unfolding field_items_of
field_items_law Proto2 n ts = refl
field_items_law Proto3 n ts = refl

pub field_block_law : (s : Syntax) (n : ℕ) (ts : Rest Lexeme Place)
    → (field_block_of s (nest.fields s n)).low.run ts
    ≡ bind ((symbol 123).run ts)
    (λ u us. bind ((field_items_of s (nest.fields s n)).low.run us)
    (λ fields vs. bind ((symbol 125).run vs) (λ w ws. read fields ws)))
unfolding field_block_of
field_block_law Proto2 n ts = refl
field_block_law Proto3 n ts = refl

pub oneof_field_law : (s : Syntax) (n : ℕ) (ts : Rest Lexeme Place)
    → (oneof_field s n).low.run ts
    ≡ cond (starts lexicon (words nest.no_oneof_words) ts) (stuck ts)
    ((after_label_in s n n (mark_of place_of ts) None).low.run ts)
unfolding oneof_field after_label
oneof_field_law s n ts = refl

-- ---- the beginning of a field

labelled : (s : Syntax) (j : ℕ) (ts us : Rest Lexeme Place) (l : Label)
    → Finds (labels_in s) (Some l) ts us
    → (field_in s j).run ts ≡ (after_label_in s (suc j) j (mark_of place_of ts) (Some l)).low.run us
unfolding field_of after_label group_of field_block_of field_items_of field_item_of
labelled Proto2 j ts us l h = rw (h.0, h.1) refl
labelled Proto3 j ts us l h = rw (h.0, h.1) refl

-- a label comes next
pub field_labelled : (s : Syntax) (n j : ℕ) (ts us : Rest Lexeme Place) (place : Place) (l : Label)
    → n ≡ suc j → place ≡ mark_of place_of ts → Finds (labels_in s) (Some l) ts us
    → (field_in s j).run ts ≡ (after_label_in s n j place (Some l)).low.run us
field_labelled s n j ts us place l e p h = rw (e, p) (labelled s j ts us l h)

mapped : (j : ℕ) (ts : Rest Lexeme Place) → starts lexicon (words (table_words labels)) ts ≡ false
    → (field_in Proto2 j).run ts ≡ reads_map_field (suc j) j (mark_of place_of ts) ts
unfolding field_of map_field map_of
mapped j ts h = rw h refl

-- in proto2 a field without a label is that of a map
pub field_mapped : (s : Syntax) (n j : ℕ) (ts us : Rest Lexeme Place) (place : Place) → s ≡ Proto2
    → n ≡ suc j → place ≡ mark_of place_of ts → Finds (labels_in s) None ts us
    → (field_in s j).run ts ≡ reads_map_field n j place us
field_mapped s n j ts us place d e p h = go s d h
  where
    go : (s : Syntax) → s ≡ Proto2 → Finds (labels_in s) None ts us
        → (field_in s j).run ts ≡ reads_map_field n j place us
    go Proto2 d h = rw (e, p, h.1) (mapped j ts h.0)
    go Proto3 d h = absurd cc

tests : (a r p x : Bool) → (not (r || x) || false) ≡ true → (a || (p || false)) ≡ false
    → (a || (r || (p || x))) ≡ false
tests true r p x b h = absurd cc
tests false r true x b h = absurd cc
tests false true false x b h = absurd cc
tests false false false true b h = absurd cc
tests false false false false b h = refl

no_other_word : (ts : Rest Lexeme Place) → starts lexicon (nest.field_firsts Proto3) ts ≡ true
    → starts lexicon (words (table_words labels3)) ts ≡ false
    → starts lexicon (words (table_words labels ++ statement_words)) ts ≡ false
unfolding starts
no_other_word (end m) b h = refl
no_other_word (token t rest) b h = go t.kind b h
  where
    go : (k : TokenKind) → seen sees (nest.field_firsts Proto3) (record t { kind = k }) ≡ true
        → seen sees (words (table_words labels3)) (record t { kind = k }) ≡ false
        → seen sees (words (table_words labels ++ statement_words)) (record t { kind = k }) ≡ false
    go kind.Ident b h =
        tests (bytes_eq t.text (codes "optional")) (bytes_eq t.text (codes "required"))
        (bytes_eq t.text (codes "repeated")) (is_among t.text statement_words) b h
    go (kind.Integer n) b h = refl
    go kind.Float b h = refl
    go kind.Str b h = refl
    go (kind.Symbol c) b h = refl

unlabelled : (j : ℕ) (ts : Rest Lexeme Place) → starts lexicon (nest.field_firsts Proto3) ts ≡ true
    → starts lexicon (words (table_words labels3)) ts ≡ false
    → (field_in Proto3 j).run ts
    ≡ (after_label_in Proto3 (suc j) j (mark_of place_of ts) None).low.run ts
unfolding field_of after_label group_of field_block_of field_items_of field_item_of
unlabelled j ts b h = rw (h, no_other_word ts b h) refl

-- in proto3 a field may have no label
pub field_unlabelled : (s : Syntax) (n j : ℕ) (ts us : Rest Lexeme Place) (place : Place)
    → s ≡ Proto3 → n ≡ suc j → place ≡ mark_of place_of ts
    → starts lexicon (nest.field_firsts s) ts ≡ true → Finds (labels_in s) None ts us
    → (field_in s j).run ts ≡ (after_label_in s n j place None).low.run us
field_unlabelled s n j ts us place d e p b h = go s d b h
  where
    go : (s : Syntax) → s ≡ Proto3 → starts lexicon (nest.field_firsts s) ts ≡ true
        → Finds (labels_in s) None ts us
        → (field_in s j).run ts ≡ (after_label_in s n j place None).low.run us
    go Proto2 d b h = absurd cc
    go Proto3 d b h = rw (e, p, h.1) (unlabelled j ts b h.0)

-- no label is found
pub none_found : (s : Syntax) (o : Option Label) (ts us : Rest Lexeme Place) → is_some o ≡ false
    → Finds (labels_in s) o ts us → Finds (labels_in s) None ts us
none_found s None ts us e h = h
none_found s (Some l) ts us e h = absurd cc

-- What stands behind a label, or behind none in proto3.
pub field_behind : (s : Syntax) (n j : ℕ) (ts us : Rest Lexeme Place) (place : Place)
    (o : Option Label) → (is_some o ≡ false → s ≡ Proto2 → ⊥) → n ≡ suc j
    → place ≡ mark_of place_of ts → starts lexicon (nest.field_firsts s) ts ≡ true
    → Finds (labels_in s) o ts us
    → (field_in s j).run ts ≡ (after_label_in s n j place o).low.run us
field_behind s n j ts us place (Some l) old e p b h = field_labelled s n j ts us place l e p h
field_behind Proto2 n j ts us place None old e p b h = absurd (old refl refl)
field_behind Proto3 n j ts us place None old e p b h =
    field_unlabelled Proto3 n j ts us place refl e p b h

-- ---- no field

word_absent : (w : Bytes) (ts : Rest Lexeme Place) → starts lexicon (word_class w ∷ []) ts ≡ false
    → (word w).run ts ≡ stuck ts
unfolding starts
word_absent w (end m) h = refl
word_absent w (token t rest) h = go (sees (word_class w) t) h
  where
    go : (b : Bool) → (b || false) ≡ false
        → taken (cond b (Some (tt {0})) None) (token t rest) rest ≡ stuck (token t rest)
    go true h = absurd cc
    go false h = refl

ident_absent : (ts : Rest Lexeme Place) → starts lexicon (ident_class [] ∷ []) ts ≡ false
    → ident.run ts ≡ stuck ts
unfolding starts
ident_absent (end m) h = refl
ident_absent (token t rest) h = go (sees (ident_class []) t) h
  where
    go : (b : Bool) → (b || false) ≡ false
        → taken (cond b (Some t.text) None) (token t rest) rest ≡ stuck (token t rest)
    go true h = absurd cc
    go false h = refl

abbrev name_firsts : List Class
name_firsts = symbol_class 46 ∷ ident_class [] ∷ []

name_absent : (ts : Rest Lexeme Place) → starts lexicon name_firsts ts ≡ false
    → name.run ts ≡ stuck ts
unfolding name root dotted
name_absent ts h =
    let s = starts-within lexicon (symbol_class 46 ∷ []) name_firsts ts refl h in
    let i = ident_absent ts (starts-within lexicon (ident_class [] ∷ []) name_firsts ts refl h) in
    rw (s, i) refl

type_absent : (n : ℕ) (ts : Rest Lexeme Place) → 1 ≤ n → starts lexicon name_firsts ts ≡ false
    → (nest.type_ n).run ts ≡ stuck ts
type_absent n ts l h =
    type_more n ts l
    ∙ type_named (n - 1) ts
    (starts-within lexicon (words (table_words scalars)) name_firsts ts refl h)
    (starts-within lexicon (word_class (codes "map") ∷ []) name_firsts ts refl h)
    ∙ rw (name_absent ts h) refl

plain_absent : (n : ℕ) (place : Place) (label : Option Label) (ts : Rest Lexeme Place) → 1 ≤ n
    → starts lexicon name_firsts ts ≡ false → (normal_field n place label).low.run ts ≡ stuck ts
unfolding normal_field
plain_absent n place label ts l h =
    rw (starts-within lexicon group_firsts name_firsts ts refl h, type_absent n ts l h) refl

after_absent : (s : Syntax) (n j : ℕ) (place : Place) (label : Option Label)
    (ts : Rest Lexeme Place) → 1 ≤ n → starts lexicon name_firsts ts ≡ false
    → (after_label_in s n j place label).low.run ts ≡ stuck ts
unfolding after_label
after_absent s n j place label ts l h =
    rw (starts-within lexicon group_firsts name_firsts ts refl h, plain_absent n place label ts l h)
    refl

no_tests : (a r p x : Bool) → (not (r || x) || false) ≡ false → (a || (r || (p || x))) ≡ false → ⊥
no_tests true r p x b h = cc
no_tests false true p x b h = cc
no_tests false false true x b h = cc
no_tests false false false true b h = cc
no_tests false false false false b h = cc

-- neither a word that begins another statement nor a name
no_name : (ts : Rest Lexeme Place) → starts lexicon (nest.field_firsts Proto3) ts ≡ false
    → starts lexicon (words (table_words labels ++ statement_words)) ts ≡ false
    → starts lexicon name_firsts ts ≡ false
unfolding starts
no_name (end m) b h = refl
no_name (token t rest) b h = go t.kind b h
  where
    go : (k : TokenKind) → seen sees (nest.field_firsts Proto3) (record t { kind = k }) ≡ false
        → seen sees (words (table_words labels ++ statement_words)) (record t { kind = k }) ≡ false
        → seen sees name_firsts (record t { kind = k }) ≡ false
    go kind.Ident b h =
        absurd (no_tests (bytes_eq t.text (codes "optional")) (bytes_eq t.text (codes "required"))
        (bytes_eq t.text (codes "repeated")) (is_among t.text statement_words) b h)
    go (kind.Integer n) b h = refl
    go kind.Float b h = refl
    go kind.Str b h = refl
    go (kind.Symbol c) b h = b

-- no field begins with the next token
pub field_absent : (s : Syntax) (j : ℕ) (ts : Rest Lexeme Place)
    → starts lexicon (nest.field_firsts s) ts ≡ false → (field_in s j).run ts ≡ stuck ts
unfolding map_of field_of after_label group_of field_block_of field_items_of field_item_of
field_absent Proto2 j ts h =
    let w = word_absent (codes "map") ts
    (last-of lexicon (words (table_words labels)) (word_class (codes "map") ∷ []) ts h) in
    mapped j ts (first-of lexicon (words (table_words labels)) (word_class (codes "map") ∷ []) ts h)
    ∙ rw w refl
field_absent Proto3 j ts h = go (starts lexicon (words (table_words labels ++ statement_words)) ts) refl
  where
    go : (b : Bool) → starts lexicon (words (table_words labels ++ statement_words)) ts ≡ b
        → (field_in Proto3 j).run ts ≡ stuck ts
    go true k =
        rw (
          starts-within lexicon (words (table_words labels3))
              (nest.field_firsts Proto3) ts refl h,
          k,
        ) refl
    go false k =
        rw (
          starts-within lexicon (words (table_words labels3))
              (nest.field_firsts Proto3) ts refl h,
          k,
        ) (after_absent Proto3 (suc j) j (mark_of place_of ts) None ts (omega arith)
        (no_name ts h k))
