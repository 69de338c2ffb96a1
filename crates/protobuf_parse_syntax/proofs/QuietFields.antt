-- Readers of constants, options, types and fields that meet nothing too deep, where 101 levels
-- are left, less those that are open.
use Rattle.std.proofs.Common.{◌≡◌, ℕ, zero, suc, ◌+◌, ◌≤◌, false, List, [], ◌∷◌}
use Rattle.std.proofs.Common.{◌++◌, refl, sym, ◌∙◌, arith, codes, Option, Some, None}
use Rattle.protobuf_parse_grammar.specs.Readers.{Rest, Shape, nested, shape}
use Rattle.protobuf_parse_grammar.specs.Combinators.{then_shape}
use Rattle.protobuf_parse_grammar.specs.Pairs.{both, none-le, level-suc}
use Rattle.protobuf_parse_grammar.specs.Relations.{Separated, Many, Then, somes}
use Rattle.protobuf_parse_grammar.specs.Whole.{whole}
use Rattle.protobuf_parse_lexer.specs.Tokens.{Lexeme}
use Rattle.protobuf_parse_lexer.specs.Classes.{Class, symbol as symbol_class, word as word_class}
use Rattle.protobuf_parse_lexer.specs.Classes.{ident as ident_class, words, float, text, is_one_of}
use Rattle.protobuf_parse_lexer.specs.declared.lexer.token.Place.{Place}
use Rattle.protobuf_parse_syntax.specs.ClassLaws.{lexicon}
use Rattle.protobuf_parse_syntax.specs.Grammar.{ConstantOf, IsAssignment, IsConstant, IsComma}
use Rattle.protobuf_parse_syntax.specs.Grammar.{ConstantFieldOf, MessageConstantOf, ListOf}
use Rattle.protobuf_parse_syntax.specs.Trees.{ConstantSyntax}
use Rattle.protobuf_parse_syntax.specs.NestedFields.{ValueOf}
use Rattle.protobuf_parse_syntax.specs.Grammar.{other_constants, IsOption, AreOptions, TypeOf}
use Rattle.protobuf_parse_syntax.specs.Grammar.{IsType, MapOf}
use Rattle.protobuf_parse_syntax.specs.Grammar.{scalars, table_words, NormalFieldOf, GroupOf}
use Rattle.protobuf_parse_syntax.specs.Grammar.{IsField}
use Rattle.protobuf_parse_syntax.specs.Grammar.{AfterLabel, FieldOf, labels, labels3}
use Rattle.protobuf_parse_syntax.specs.Grammar.{statement_words, Item, Statements, Braced}
use Rattle.protobuf_parse_syntax.specs.declared.tree.Syntax.{Syntax}
use Rattle.protobuf_parse_syntax.specs.declared.tree.Syntax.TheVariants.{Proto2, Proto3}
use Rattle.protobuf_parse_syntax.specs.declared.tree.field.Label.{Label}
use Rattle.protobuf_parse_syntax.specs.Trees.{TypeSyntax, FieldStatementSyntax}
use Rattle.protobuf_parse_syntax.specs.NestedFields.{assignments_shape}
use Rattle.protobuf_parse_syntax.specs.NestedFields.{bracketed_shape}
use Rattle.protobuf_parse_syntax.specs.NestedFields.{Bracketed, AfterType, item_shape, items_shape}
use Rattle.protobuf_parse_grammar.specs.Relations.{Unless}
use Rattle.protobuf_parse_syntax.proofs.Balance.{fits-now, opening, closing}
use Rattle.protobuf_parse_syntax.proofs.Calm.{Calm, Quiet, flat, give, ◌>>=◌, ◌>>◌, choose, shaped}
use Rattle.protobuf_parse_syntax.proofs.Calm.{unless, at, many, separated, from_start, begun}
use Rattle.protobuf_parse_syntax.proofs.Calm.{as_reader, any, refusing}
use Rattle.protobuf_parse_syntax.specs.Trees as tree
use Rattle.protobuf_parse_syntax.specs.Nested as nest
use Rattle.protobuf_parse_syntax.specs.Productions as part
use Rattle.protobuf_parse_syntax.proofs.Balance as balance
use Rattle.protobuf_parse_syntax.proofs.Nesting as keeps
use Rattle.protobuf_parse_base.specs.Characters as char

-- ---- statements of a body

abbrev pub item : {A : Type 0} {n : ℕ} {R : List Lexeme → A → Type 0} {s : Shape Class} →
    Quiet n n R s → Quiet n n (Item R) (item_shape s)
item p =
    choose (do
      flat (part.symbol char.semicolon) refl (balance.symbol char.semicolon refl)
      give None) refl
    (do statement ← p; give (Some statement))

abbrev pub statements : {A : Type 0} {n : ℕ} {R : List Lexeme → A → Type 0} {s : Shape Class}
    (p : Quiet n n (Item R) s) → s.empty ≡ false → Quiet n n (Statements R) (items_shape s)
statements p some = do items ← many p some; give (somes items)

-- ---- constants

-- what is enough where n brackets are open is enough where one more is
pub deeper : (n d : ℕ) → 101 ≤ n + d → 101 ≤ suc n + d
deeper n d h = omega (arith, h)

unfoldable pub value_of : {n : ℕ} {R : List Lexeme → ConstantSyntax → Type 0} →
    Quiet n n R nest.constant_shape →
    Quiet n n (ValueOf R) (nested (symbol_class char.colon ∷ symbol_class char.open_brace ∷ [])
    false (symbol_class char.dot ∷ text ∷ []))
value_of p =
    shaped (nested (symbol_class char.colon ∷ symbol_class char.open_brace ∷ []) false
    (symbol_class char.dot ∷ text ∷ []))
    (choose (do flat (part.symbol char.colon) refl (balance.symbol char.colon refl); p) refl
    (begun (unless other_constants p refl) refl))
    refl

unfoldable pub constant_field_of : {n : ℕ} {R : List Lexeme → ConstantSyntax → Type 0} →
    Quiet n n R nest.constant_shape →
    Quiet n n (ConstantFieldOf R) nest.constant_field_shape
unfolding ConstantFieldOf
constant_field_of p = shaped nest.constant_field_shape (do
  name ← flat part.constant_name refl keeps.constant_name
  value ← value_of p
  flat part.field_end refl keeps.field_end
  give (record { name = name; value = value })) refl

unfoldable pub constant_fields_of : {n : ℕ} {R : List Lexeme → ConstantSyntax → Type 0} →
    Quiet n n R nest.constant_shape →
    Quiet n n (Many (ConstantFieldOf R)) nest.constant_fields_shape
constant_fields_of p = shaped nest.constant_fields_shape (many (constant_field_of p) refl) refl

unfoldable pub message_constant_of : {n : ℕ} {R : List Lexeme → ConstantSyntax → Type 0} →
    Quiet (suc n) (suc n) R nest.constant_shape →
    Quiet n n (MessageConstantOf R) (nested (symbol_class char.open_brace ∷ []) false [])
unfolding MessageConstantOf
message_constant_of p =
    shaped (nested (symbol_class char.open_brace ∷ []) false []) (do
      flat (part.symbol char.open_brace) refl (opening char.open_brace refl refl)
      fields ← constant_fields_of p
      flat (part.symbol char.close_brace) refl (closing char.close_brace refl refl)
      give (tree.fields (tree.constant_fields fields))) refl

unfoldable pub constants_of : {n : ℕ} {R : List Lexeme → ConstantSyntax → Type 0} →
    Quiet n n R nest.constant_shape →
    Quiet n n (Separated IsComma R) (nested nest.constant_firsts false
    (symbol_class char.dot ∷ text ∷ symbol_class char.comma ∷ []))
constants_of p =
    shaped (nested nest.constant_firsts false
    (symbol_class char.dot ∷ text ∷ symbol_class char.comma ∷ []))
    (separated (flat (part.symbol char.comma) refl (balance.symbol char.comma refl)) refl p) refl

unfoldable pub items_of : {n : ℕ} {R : List Lexeme → ConstantSyntax → Type 0} →
    Quiet n n R nest.constant_shape →
    Quiet n n (Separated IsComma R) (nested nest.item_firsts false
    (symbol_class char.dot ∷ text ∷ symbol_class char.comma ∷ []))
items_of p =
    shaped (nested nest.item_firsts false
    (symbol_class char.dot ∷ text ∷ symbol_class char.comma ∷ [])) (constants_of p) refl

unfoldable pub list_of : {n : ℕ} {R : List Lexeme → ConstantSyntax → Type 0} →
    Quiet (suc n) (suc n) R nest.constant_shape →
    Quiet n n (ListOf R) (nested (symbol_class char.open_bracket ∷ []) false [])
unfolding ListOf
list_of p =
    shaped (nested (symbol_class char.open_bracket ∷ []) false []) (do
      flat (part.symbol char.open_bracket) refl (opening char.open_bracket refl refl)
      items ← choose (items_of p) refl (give [])
      flat (part.symbol char.close_bracket) refl (closing char.close_bracket refl refl)
      give (tree.list (tree.constants items))) refl

unfoldable pub constant_of : {n : ℕ} {R : List Lexeme → ConstantSyntax → Type 0} →
    Quiet (suc n) (suc n) R nest.constant_shape → Quiet n n (ConstantOf R) nest.constant_shape
unfolding ConstantOf
constant_of p = shaped nest.constant_shape
    (refusing (float ∷ [])
    (choose (message_constant_of p) refl
    (choose (list_of p) refl
    (choose (flat part.word_constant refl keeps.word_constant) refl
    (choose (do n ← flat part.signed refl keeps.integer; give (tree.integer n)) refl
    (do s ← flat part.str refl keeps.str; give (tree.string s)))))) refl refl) refl

constant_is : (d n : ℕ) {R : List Lexeme → ConstantSyntax → Type 0} (h : 0 ≤ d)
    (q : Quiet (suc n) (suc n) R nest.constant_shape) (ts : Rest Lexeme Place) →
    (nest.constant_of d 0 h R R (both q.reader)).low.run ts ≡ (constant_of q).reader.run ts
unfolding constant_of message_constant_of constant_fields_of constant_field_of value_of list_of
    items_of constants_of nest.constant_of nest.message_constant_of nest.constant_fields_of
    nest.constant_field_of nest.value_of nest.list_of nest.items_of nest.constants_of
constant_is d n h q ts = refl

pub constant_calm : (d n : ℕ) → 101 ≤ n + d → Calm n (nest.constant d).run
constant_calm zero n h =
    record { never = λ ts end fits e. let few = fits-now n ts fits in omega (arith, h, few) }
constant_calm (suc d) n h =
    let inner : Quiet (suc n) (suc n) (IsConstant d) nest.constant_shape = record {
      reader = nest.constant d;
      calm = constant_calm d (suc n) (omega (arith, h));
      keeps = any (keeps.constant d);
    } in
    record {
      never = λ ts end fits e.
          (constant_of inner).calm.never ts end fits
          (sym (level-suc refl nest.constant_of d (whole ts end)
          ∙ constant_is d n (none-le refl nest.constant_of d) inner (whole ts end)) ∙ e);
    }

abbrev pub constant : {n : ℕ} (d : ℕ) → 101 ≤ n + d → Quiet n n (IsConstant d) nest.constant_shape
constant {n = n} d h =
    record { reader = nest.constant d; calm = constant_calm d n h; keeps = any (keeps.constant d) }

-- ---- options

unfoldable pub assignment : {n : ℕ} (d : ℕ) → 101 ≤ n + d →
    Quiet n n (IsAssignment d) nest.assignment_shape
unfolding IsAssignment
assignment d h = shaped nest.assignment_shape (at (λ place. do
  name ← flat part.option_name refl keeps.option_name
  flat (part.symbol char.equals) refl (balance.symbol char.equals refl)
  value ← constant d h
  give (record { place = place; name = name; value = value })) refl) refl

-- wrong from the word `option` on, if something in it is
unfoldable pub option_parts : {n : ℕ} (d : ℕ) → 101 ≤ n + d →
    Quiet n n (IsOption d) nest.option_shape
unfolding IsOption
option_parts d h = from_start (shaped nest.option_shape (at (λ place. do
  flat (part.word (codes "option")) refl keeps.word
  option ← assignment d h
  flat (part.symbol char.semicolon) refl (balance.symbol char.semicolon refl)
  give (record { place = place; option = option })) refl) refl)

pub option_is : (n d : ℕ) (h : 101 ≤ n + d) (ts : Rest Lexeme Place) →
    (nest.option d).low.run ts ≡ (option_parts d h).reader.run ts
unfolding option_parts assignment nest.option_parts nest.assignment
option_is n d h ts = refl

abbrev pub option : {n : ℕ} (d : ℕ) → 101 ≤ n + d → Quiet n n (IsOption d) nest.option_shape
option {n = n} d h = as_reader (nest.option d).low (option_parts d h) (option_is n d h)

unfoldable pub comma_assignment : {n : ℕ} (d : ℕ) → 101 ≤ n + d →
    Quiet n n (Then IsComma (λ u. IsAssignment d))
    (then_shape lexicon (shape (symbol_class char.comma ∷ []) false []) nest.assignment_shape)
comma_assignment d h = do
  flat (part.symbol char.comma) refl (balance.symbol char.comma refl)
  assignment d h

unfoldable pub assignments : {n : ℕ} (d : ℕ) → 101 ≤ n + d →
    Quiet n n (Separated IsComma (IsAssignment d)) assignments_shape
assignments d h = shaped assignments_shape (do
  first ← assignment d h
  others ← many (comma_assignment d h) refl
  give (first ∷ others)) refl

unfoldable pub bracketed_options : {n : ℕ} (d : ℕ) → 101 ≤ n + d →
    Quiet n n (Bracketed d) bracketed_shape
bracketed_options {n = n} d h = shaped bracketed_shape (do
  flat (part.symbol char.open_bracket) refl (opening char.open_bracket refl refl)
  options ← assignments d (deeper n d h)
  flat (part.symbol char.close_bracket) refl (closing char.close_bracket refl refl)
  give options) refl

unfoldable pub options_parts : {n : ℕ} (d : ℕ) → 101 ≤ n + d →
    Quiet n n (AreOptions d) nest.options_shape
unfolding AreOptions
options_parts d h = shaped nest.options_shape (choose (bracketed_options d h) refl (give [])) refl

pub options_are : (n d : ℕ) (h : 101 ≤ n + d) (ts : Rest Lexeme Place) →
    (nest.options d).low.run ts ≡ (options_parts d h).reader.run ts
unfolding options_parts bracketed_options assignments comma_assignment assignment nest.options_pair
    nest.bracketed_options nest.assignments nest.assignment
options_are n d h ts = refl

abbrev pub options : {n : ℕ} (d : ℕ) → 101 ≤ n + d → Quiet n n (AreOptions d) nest.options_shape
options {n = n} d h = as_reader (nest.options d).low (options_parts d h) (options_are n d h)

-- ---- types

unfoldable pub map_of : {n : ℕ} {R : List Lexeme → TypeSyntax → Type 0} →
    Quiet (suc n) (suc n) R nest.type_shape →
    Quiet n n (MapOf R) (nested (word_class (codes "map") ∷ []) false [])
unfolding MapOf
map_of p =
    shaped (nested (word_class (codes "map") ∷ []) false []) (do
      flat (part.word (codes "map")) refl keeps.word
      flat (part.symbol char.less) refl (opening char.less refl refl)
      key ← p
      flat (part.symbol char.comma) refl (balance.symbol char.comma refl)
      value ← p
      flat (part.symbol char.greater) refl (closing char.greater refl refl)
      give (tree.map_of key value)) refl

unfoldable pub type_of : {n : ℕ} {R : List Lexeme → TypeSyntax → Type 0} →
    Quiet (suc n) (suc n) R nest.type_shape → Quiet n n (TypeOf R) nest.type_shape
unfolding TypeOf
type_of p = shaped nest.type_shape
    (choose (do
      s ← flat (part.one_of scalars) refl (keeps.word_of_table scalars)
      give (tree.scalar s)) refl
    (choose (map_of p) refl
    (do
      name ← unless (words (codes "map" ∷ table_words scalars)) (flat part.name refl keeps.name)
          refl
      give (tree.named name)))) refl

type_is : (d n : ℕ) {R : List Lexeme → TypeSyntax → Type 0} (h : 0 ≤ d)
    (q : Quiet (suc n) (suc n) R nest.type_shape) (ts : Rest Lexeme Place) →
    (nest.type_of d 0 h R R (both q.reader)).low.run ts ≡ (type_of q).reader.run ts
unfolding type_of map_of nest.type_of nest.map_of
type_is d n h q ts = refl

pub type_calm : (d n : ℕ) → 101 ≤ n + d → Calm n (nest.type_ d).run
type_calm zero n h =
    record { never = λ ts end fits e. let few = fits-now n ts fits in omega (arith, h, few) }
type_calm (suc d) n h =
    let inner : Quiet (suc n) (suc n) (IsType d) nest.type_shape = record {
      reader = nest.type_ d;
      calm = type_calm d (suc n) (omega (arith, h));
      keeps = keeps.type_ d;
    } in
    record {
      never = λ ts end fits e.
          (type_of inner).calm.never ts end fits
          (sym (level-suc refl nest.type_of d (whole ts end)
          ∙ type_is d n (none-le refl nest.type_of d) inner (whole ts end)) ∙ e);
    }

abbrev pub type_ : {n : ℕ} (d : ℕ) → 101 ≤ n + d → Quiet n n (IsType d) nest.type_shape
type_ {n = n} d h =
    record { reader = nest.type_ d; calm = type_calm d n h; keeps = keeps.type_ d }

-- ---- fields

unfoldable pub after_type : {n : ℕ} (d : ℕ) → 101 ≤ n + d → (place : Place) (label : Option Label)
    (type_ : TypeSyntax) →
    Quiet n n (AfterType d place label type_) (nest.field_shape (ident_class [] ∷ []))
after_type d h place label type_ =
    from_start (shaped (nest.field_shape (ident_class [] ∷ [])) (do
      name ← flat part.ident refl keeps.ident
      flat (part.symbol char.equals) refl (balance.symbol char.equals refl)
      number ← flat part.field_number refl keeps.field_number
      options ← options d h
      flat (part.symbol char.semicolon) refl (balance.symbol char.semicolon refl)
      give (tree.field (record {
        place = place;
        label = label;
        type_ = type_;
        name = name;
        number = number;
        options = options;
      }))) refl)

unfoldable pub normal_field : {n : ℕ} (d : ℕ) → 101 ≤ n + d → (place : Place)
    (label : Option Label) →
    Quiet n n (NormalFieldOf d (Unless (is_one_of (words (codes "group" ∷ []))) (IsType d)) place
    label) (nest.field_shape (symbol_class char.dot ∷ ident_class (codes "group" ∷ []) ∷ []))
unfolding NormalFieldOf
normal_field d h place label =
    shaped (nest.field_shape (symbol_class char.dot ∷ ident_class (codes "group" ∷ []) ∷ [])) (do
      type_ ← unless (words (codes "group" ∷ [])) (type_ d h) refl
      after_type d h place label type_) refl

-- the types of a map have a level less
unfoldable pub map_field : {n : ℕ} (d : ℕ) → 101 ≤ suc n + d → 101 ≤ n + suc d → (place : Place) →
    Quiet n n (NormalFieldOf (suc d) (MapOf (IsType d)) place None)
    (nest.field_shape (word_class (codes "map") ∷ []))
unfolding NormalFieldOf
map_field d h k place = shaped (nest.field_shape (word_class (codes "map") ∷ [])) (do
  type_ ← map_of (type_ d h)
  after_type (suc d) k place None type_) refl

unfoldable pub field_item_of : {n : ℕ} (s : Syntax)
    {R : List Lexeme → FieldStatementSyntax → Type 0} →
    Quiet n n R (nest.field_shape (nest.field_firsts s)) →
    Quiet n n (Item R) (nest.field_item_shape s)
field_item_of Proto2 p = shaped (nest.field_item_shape Proto2) (item p) refl
field_item_of Proto3 p = shaped (nest.field_item_shape Proto3) (item p) refl

unfoldable pub field_items_of : {n : ℕ} (s : Syntax) {R : List Lexeme → FieldStatementSyntax →
    Type 0} → Quiet n n R (nest.field_shape (nest.field_firsts s)) →
    Quiet n n (Statements R) (nest.field_items_shape s)
field_items_of Proto2 p =
    shaped (nest.field_items_shape Proto2) (statements (field_item_of Proto2 p) refl) refl
field_items_of Proto3 p =
    shaped (nest.field_items_shape Proto3) (statements (field_item_of Proto3 p) refl) refl

unfoldable pub field_block_of : {n : ℕ} (s : Syntax) {R : List Lexeme → FieldStatementSyntax →
    Type 0} → Quiet (suc n) (suc n) R (nest.field_shape (nest.field_firsts s)) →
    Quiet n n (Braced R) (nested (symbol_class char.open_brace ∷ []) false [])
field_block_of Proto2 p = shaped (nested (symbol_class char.open_brace ∷ []) false []) (do
  flat (part.symbol char.open_brace) refl (opening char.open_brace refl refl)
  fields ← field_items_of Proto2 p
  flat (part.symbol char.close_brace) refl (closing char.close_brace refl refl)
  give fields) refl
field_block_of Proto3 p = shaped (nested (symbol_class char.open_brace ∷ []) false []) (do
  flat (part.symbol char.open_brace) refl (opening char.open_brace refl refl)
  fields ← field_items_of Proto3 p
  flat (part.symbol char.close_brace) refl (closing char.close_brace refl refl)
  give fields) refl

unfoldable pub group_of : {n : ℕ} (s : Syntax) {R : List Lexeme → FieldStatementSyntax → Type 0}
    (place : Place) (label : Option Label) →
    Quiet (suc n) (suc n) R (nest.field_shape (nest.field_firsts s)) →
    Quiet n n (GroupOf R place label) (nest.field_shape (word_class (codes "group") ∷ []))
unfolding GroupOf
group_of s place label p = shaped (nest.field_shape (word_class (codes "group") ∷ [])) (do
  name ← flat part.group_name refl keeps.group_name
  flat (part.symbol char.equals) refl (balance.symbol char.equals refl)
  number ← flat part.field_number refl keeps.field_number
  fields ← field_block_of s p
  give (tree.group_of (record {
    place = place;
    label = label;
    name = name;
    number = number;
    fields = fields;
  }))) refl

-- a normal field of d levels, or a group
unfoldable pub after_label : {n : ℕ} (s : Syntax) {R : List Lexeme → FieldStatementSyntax → Type 0}
    (d : ℕ) → 101 ≤ n + d → (place : Place) (label : Option Label) →
    Quiet (suc n) (suc n) R (nest.field_shape (nest.field_firsts s)) →
    Quiet n n (AfterLabel d R place label) nest.after_label_shape
unfolding AfterLabel
after_label s d h place label p =
    shaped nest.after_label_shape
    (choose (group_of s place label p) refl (normal_field d h place label)) refl

unfoldable pub field_of : {n : ℕ} (s : Syntax) {R : List Lexeme → FieldStatementSyntax → Type 0}
    (d : ℕ) → 101 ≤ suc n + d → 101 ≤ n + suc d →
    Quiet (suc n) (suc n) R (nest.field_shape (nest.field_firsts s)) →
    Quiet n n (FieldOf s d R) (nest.field_shape (nest.field_firsts s))
unfolding FieldOf
field_of Proto2 d h k p = shaped (nest.field_shape (nest.field_firsts Proto2)) (at (λ place.
    choose (do
      l ← flat (part.one_of labels) refl (keeps.word_of_table labels)
      after_label Proto2 (suc d) k place (Some l) p) refl
    (map_field d h k place)) refl) refl
field_of Proto3 d h k p = shaped (nest.field_shape (nest.field_firsts Proto3)) (at (λ place.
    choose (do
      l ← flat (part.one_of labels3) refl (keeps.word_of_table labels3)
      after_label Proto3 (suc d) k place (Some l) p) refl
    (unless (words (table_words labels ++ statement_words))
    (after_label Proto3 (suc d) k place None p) refl)) refl)
    refl

field_is : (s : Syntax) (d n : ℕ) {R : List Lexeme → FieldStatementSyntax → Type 0} (h : 0 ≤ d)
    (i : 101 ≤ suc n + d) (k : 101 ≤ n + suc d)
    (q : Quiet (suc n) (suc n) R (nest.field_shape (nest.field_firsts s)))
    (ts : Rest Lexeme Place) →
    (nest.field_of s d 0 h R R (both q.reader)).low.run ts ≡ (field_of s d i k q).reader.run ts
unfolding field_of after_label group_of field_block_of field_items_of field_item_of map_field
    normal_field after_type map_of nest.field_of nest.after_label nest.group_of
    nest.field_block_of nest.field_items_of nest.field_item_of nest.map_field nest.normal_field
    nest.after_type_parts nest.map_of
field_is Proto2 d n h i k q ts = refl
field_is Proto3 d n h i k q ts = refl

pub field_calm : (s : Syntax) (d n : ℕ) → 101 ≤ n + d → Calm n (nest.field s d).run
field_calm s zero n h =
    record { never = λ ts end fits e. let few = fits-now n ts fits in omega (arith, h, few) }
field_calm s (suc d) n h =
    let i : 101 ≤ suc n + d = omega (arith, h) in
    let inner : Quiet (suc n) (suc n) (IsField s d) (nest.field_shape (nest.field_firsts s)) =
    record {
      reader = nest.field s d;
      calm = field_calm s d (suc n) i;
      keeps = any (keeps.field s d);
    } in
    record {
      never = λ ts end fits e.
          (field_of s d i h inner).calm.never ts end fits
          (sym (level-suc refl (nest.field_of s) d (whole ts end)
          ∙ field_is s d n (none-le refl (nest.field_of s) d) i h inner (whole ts end)) ∙ e);
    }

abbrev pub field : {n : ℕ} (s : Syntax) (d : ℕ) → 101 ≤ n + d →
    Quiet n n (IsField s d) (nest.field_shape (nest.field_firsts s))
field {n = n} s d h =
    record { reader = nest.field s d; calm = field_calm s d n h; keeps = any (keeps.field s d) }
