-- No public clause rests on this file.
-- The readers of what nests, each one level deep and one deeper: constants, types, options, fields.
use Rattle.std.proofs.Common.{◌≡◌, ℕ, suc, ◌≤◌, List, [], ◌∷◌, ◌++◌, Option, Some, None, true}
use Rattle.std.proofs.Common.{false, codes, refl, ap, ◌∙◌, ◌-◌, arith}
use Rattle.protobuf_parse_base.specs.Characters as char
use Rattle.protobuf_parse_grammar.specs.Relations.{Rel, Then, Either, Many, Unless, Separated}
use Rattle.protobuf_parse_grammar.specs.Relations.{somes, Nothing}
use Rattle.protobuf_parse_grammar.specs.Readers.{Rest, deep, read, Shape, nested, shape}
use Rattle.protobuf_parse_grammar.specs.Loops.{with_rest}
use Rattle.protobuf_parse_grammar.specs.Combinators.{then_shape, either_shape, many_shape, run_many}
use Rattle.protobuf_parse_grammar.specs.Relations as relation
use Rattle.protobuf_parse_grammar.specs.Depth.{Near}
use Rattle.protobuf_parse_grammar.specs.Pairs.{Pair, same, less, give, behind, past, choose, many}
use Rattle.protobuf_parse_grammar.specs.Pairs.{shaped}
use Rattle.protobuf_parse_grammar.specs.Pairs.{unless, separated, at, both, none-le, level}
use Rattle.protobuf_parse_grammar.specs.Pairs.{level-zero, level-suc, levels, ◌>>=◌, ◌>>◌}
use Rattle.protobuf_parse_lexer.specs.Tokens.{Lexeme}
use Rattle.protobuf_parse_lexer.specs.Classes.{Class, symbol as symbol_class, word as word_class}
use Rattle.protobuf_parse_lexer.specs.Classes.{ident as ident_class, integer, float, text, words}
use Rattle.protobuf_parse_lexer.specs.Classes.{is_one_of}
use Rattle.protobuf_parse_lexer.specs.declared.lexer.token.Place.{Place}
use Rattle.protobuf_parse_syntax.specs.Trees as tree
use Rattle.protobuf_parse_syntax.specs.Trees.{ConstantSyntax, OptionSyntax, TypeSyntax}
use Rattle.protobuf_parse_syntax.specs.Trees.{FieldStatementSyntax}
use Rattle.protobuf_parse_syntax.specs.ClassLaws.{lexicon}
use Rattle.protobuf_parse_syntax.specs.Productions.{Parses, symbol, word, ident, group_name, one_of}
use Rattle.protobuf_parse_syntax.specs.Productions.{str, name, signed, constant_name, field_end}
use Rattle.protobuf_parse_syntax.specs.Productions.{word_constant, field_number, option_name}
use Rattle.protobuf_parse_syntax.specs.Readings.{steady, begun, from_start, refusing}
use Rattle.protobuf_parse_syntax.specs.Grammar.{IsSymbol, table_words, other_constants, labels}
use Rattle.protobuf_parse_syntax.specs.Grammar.{labels3, scalars, statement_words, Item, Statements}
use Rattle.protobuf_parse_syntax.specs.Grammar.{Braced, ConstantFieldOf, MessageConstantOf, ListOf}
use Rattle.protobuf_parse_syntax.specs.Grammar.{ConstantOf, IsConstant, MapOf, TypeOf, IsType}
use Rattle.protobuf_parse_syntax.specs.Grammar.{IsComma, IsAssignment, IsOption, AreOptions}
use Rattle.protobuf_parse_syntax.specs.Grammar.{NormalFieldOf, GroupOf, AfterLabel, FieldOf}
use Rattle.protobuf_parse_syntax.specs.Grammar.{IsField, IsIdent, IsFieldNumber}
use Rattle.protobuf_parse_syntax.specs.declared.tree.Syntax.{Syntax}
use Rattle.protobuf_parse_syntax.specs.declared.tree.Syntax.TheVariants.{Proto2, Proto3}
use Rattle.protobuf_parse_syntax.specs.declared.tree.field.Label.{Label}
use Rattle.protobuf_parse_syntax.specs.Grammar as grammar

abbrev pub Parts : {A : Type 0} → (List Lexeme → A → Type 0) → (List Lexeme → A → Type 0)
    → Shape Class → ℕ → Type 0
Parts = Pair lexicon

-- ---- constants

abbrev pub constant_firsts : List Class
constant_firsts = symbol_class char.open_brace ∷ symbol_class char.open_bracket ∷ ident_class []
    ∷ integer ∷ symbol_class char.plus
    ∷ symbol_class char.minus ∷ text ∷ []

abbrev pub constant_shape : Shape Class
constant_shape = nested constant_firsts false (symbol_class char.dot ∷ text ∷ [])

abbrev pub constant_field_shape : Shape Class
constant_field_shape =
    nested (ident_class [] ∷ symbol_class char.open_bracket ∷ []) false
    (symbol_class char.dot ∷ text ∷ symbol_class char.comma ∷ symbol_class char.semicolon ∷ [])

-- the value of a field: ":" constant | msgconst, with the constants inside by C
abbrev pub ValueOf : Rel Lexeme ConstantSyntax → Rel Lexeme ConstantSyntax
ValueOf C = Either (Then (IsSymbol char.colon) (λ u. C)) (Unless (is_one_of other_constants) C)

unfoldable pub value_of : {R R' : List Lexeme → ConstantSyntax → Type 0} {k : ℕ}
    → Parts R R' constant_shape k
    → Parts (ValueOf R) (ValueOf R')
    (nested (symbol_class char.colon ∷ symbol_class char.open_brace ∷ []) false
    (symbol_class char.dot ∷ text ∷ [])) k
value_of p =
    shaped (nested (symbol_class char.colon ∷ symbol_class char.open_brace ∷ []) false
    (symbol_class char.dot ∷ text ∷ []))
    (choose (do same (symbol char.colon) refl; p) refl (begun (unless other_constants p refl) refl))
    refl

unfoldable pub constant_field_of : {R R' : List Lexeme → ConstantSyntax → Type 0} {k : ℕ}
    → Parts R R' constant_shape k
    → Parts (ConstantFieldOf R) (ConstantFieldOf R') constant_field_shape k
unfolding ConstantFieldOf
constant_field_of p = shaped constant_field_shape (do
  name ← same constant_name refl
  value ← value_of p
  same field_end refl
  give (record { name = name; value = value })) refl

abbrev pub constant_fields_shape : Shape Class
constant_fields_shape =
    nested (ident_class [] ∷ symbol_class char.open_bracket ∷ []) true
    (ident_class [] ∷ symbol_class char.open_bracket ∷ symbol_class char.dot ∷ text
    ∷ symbol_class char.comma ∷ symbol_class char.semicolon
    ∷ [])

unfoldable pub constant_fields_of : {R R' : List Lexeme → ConstantSyntax → Type 0} {k : ℕ}
    → Parts R R' constant_shape k
    → Parts (Many (ConstantFieldOf R)) (Many (ConstantFieldOf R')) constant_fields_shape k
constant_fields_of p = shaped constant_fields_shape (many (constant_field_of p) refl) refl

unfoldable pub message_constant_of : {R R' : List Lexeme → ConstantSyntax → Type 0} {k : ℕ}
    → Parts R R' constant_shape k
    → Parts (MessageConstantOf R) (MessageConstantOf R')
    (nested (symbol_class char.open_brace ∷ []) false [])
    (suc k)
unfolding MessageConstantOf
message_constant_of p =
    shaped (nested (symbol_class char.open_brace ∷ []) false [])
    (behind (symbol char.open_brace) refl refl (do
      fields ← constant_fields_of p
      same (symbol char.close_brace) refl
      give (tree.fields (tree.constant_fields fields)))) refl

unfoldable pub constants_of : {R R' : List Lexeme → ConstantSyntax → Type 0} {k : ℕ}
    → Parts R R' constant_shape k
    → Parts (Separated IsComma R) (Separated IsComma R')
    (nested constant_firsts false (symbol_class char.dot ∷ text ∷ symbol_class char.comma ∷ [])) k
constants_of p =
    shaped (nested constant_firsts false
    (symbol_class char.dot ∷ text ∷ symbol_class char.comma ∷ []))
    (separated (symbol char.comma) refl refl p) refl

-- with what a list goes on behind its bracket, if it is not empty: a float is told there
abbrev pub item_firsts : List Class
item_firsts = constant_firsts ++ float ∷ []

unfoldable pub items_of : {R R' : List Lexeme → ConstantSyntax → Type 0} {k : ℕ}
    → Parts R R' constant_shape k
    → Parts (Separated IsComma R) (Separated IsComma R')
    (nested item_firsts false (symbol_class char.dot ∷ text ∷ symbol_class char.comma ∷ [])) k
items_of p =
    shaped (nested item_firsts false
    (symbol_class char.dot ∷ text ∷ symbol_class char.comma ∷ [])) (constants_of p) refl

unfoldable pub list_of : {R R' : List Lexeme → ConstantSyntax → Type 0} {k : ℕ}
    → Parts R R' constant_shape k
    → Parts (ListOf R) (ListOf R') (nested (symbol_class char.open_bracket ∷ []) false []) (suc k)
unfolding ListOf
list_of p =
    shaped (nested (symbol_class char.open_bracket ∷ []) false [])
    (behind (symbol char.open_bracket) refl refl (do
      items ← choose (items_of p) refl (give [])
      same (symbol char.close_bracket) refl
      give (tree.list (tree.constants items)))) refl

unfoldable pub constant_of : (n k : ℕ) → k ≤ n → (R R' : List Lexeme → ConstantSyntax → Type 0)
    → Parts R R' constant_shape k → Parts (ConstantOf R) (ConstantOf R') constant_shape (suc k)
unfolding ConstantOf
constant_of n k h R R' p = shaped constant_shape
    (refusing (float ∷ [])
    (choose (message_constant_of p) refl
    (choose (list_of p) refl
    (choose (same word_constant refl) refl
    (choose (do n ← same signed refl; give (tree.integer n)) refl
    (do s ← same str refl; give (tree.string s)))))) refl refl) refl

abbrev pub constant : (n : ℕ) → Parses (IsConstant n) constant_shape
constant = level refl constant_of

-- a constant of which the parts have at most n levels
abbrev pub constant_in : (n : ℕ) → Parses (ConstantOf (IsConstant n)) constant_shape
constant_in n =
    (constant_of n 0 (none-le refl constant_of n) (IsConstant n) (IsConstant n)
    (both (constant n))).low

pub constant_zero : (n : ℕ) (ts : Rest Lexeme Place) → n ≡ 0 → (constant n).run ts ≡ deep
constant_zero n ts e = ap (λ m. (constant m).run ts) e ∙ level-zero refl constant_of ts

pub constant_more : (n : ℕ) (ts : Rest Lexeme Place) → 1 ≤ n
    → (constant n).run ts ≡ (constant_in (n - 1)).run ts
constant_more n ts h =
    let e : n ≡ suc (n - 1) = omega arith in
    ap (λ m. (constant m).run ts) e ∙ level-suc refl constant_of (n - 1) ts

pub near_constant : (n : ℕ) → Near n (constant n).run (constant (suc n)).run
unfolding constant_of message_constant_of constant_fields_of constant_field_of value_of list_of
    items_of constants_of
near_constant = levels refl constant_of (λ n k h R R' t ts. refl) (λ n k h R R' t ts. refl)

-- constants of so many levels and of one more
abbrev pub constants : (n : ℕ) → Parts (IsConstant n) (IsConstant (suc n)) constant_shape n
constants n = record { low = constant n; high = constant (suc n); near = near_constant n }

-- ---- types

abbrev pub type_shape : Shape Class
type_shape = nested (symbol_class char.dot ∷ ident_class [] ∷ []) false (symbol_class char.dot ∷ [])

unfoldable pub map_of : {R R' : List Lexeme → TypeSyntax → Type 0} {k : ℕ} → Parts R R' type_shape k
    → Parts (MapOf R) (MapOf R') (nested (word_class (codes "map") ∷ []) false []) (suc k)
unfolding MapOf
map_of p =
    shaped (nested (word_class (codes "map") ∷ []) false [])
    (behind (word (codes "map")) refl refl (do
      same (symbol char.less) refl
      key ← p
      same (symbol char.comma) refl
      value ← p
      same (symbol char.greater) refl
      give (tree.map_of key value))) refl

unfoldable pub type_of : (n k : ℕ) → k ≤ n → (R R' : List Lexeme → TypeSyntax → Type 0)
    → Parts R R' type_shape k → Parts (TypeOf R) (TypeOf R') type_shape (suc k)
unfolding TypeOf
type_of n k h R R' p = shaped type_shape
    (choose (do s ← same (one_of scalars) refl; give (tree.scalar s)) refl
    (choose (map_of p) refl
    (do
      name ← unless (words (codes "map" ∷ table_words scalars)) (same name refl) refl
      give (tree.named name)))) refl

abbrev pub type_ : (n : ℕ) → Parses (IsType n) type_shape
type_ = level refl type_of

pub near_type : (n : ℕ) → Near n (type_ n).run (type_ (suc n)).run
unfolding type_of map_of
near_type = levels refl type_of (λ n k h R R' t ts. refl) (λ n k h R R' t ts. refl)

abbrev pub types : (n : ℕ) → Parts (IsType n) (IsType (suc n)) type_shape n
types n = record { low = type_ n; high = type_ (suc n); near = near_type n }

-- ---- parts of bodies

abbrev pub item_shape : Shape Class → Shape Class
item_shape s =
    either_shape lexicon
    (then_shape lexicon (shape (symbol_class char.semicolon ∷ []) false []) (shape [] true []))
    (then_shape lexicon s (shape [] true []))

-- such a statement, or nothing at a semicolon
abbrev pub item : {A : Type 0} {R R' : List Lexeme → A → Type 0} {s : Shape Class} {k : ℕ}
    → Parts R R' s k → Parts (Item R) (Item R') (item_shape s) k
item p =
    choose (do same (symbol char.semicolon) refl; give None) refl
    (do statement ← p; give (Some statement))

abbrev pub items_shape : Shape Class → Shape Class
items_shape s = then_shape lexicon (many_shape lexicon s) (shape [] true [])

-- such items, one after the other
abbrev pub statements : {A : Type 0} {R R' : List Lexeme → A → Type 0} {s : Shape Class} {k : ℕ}
    → (p : Parts (Item R) (Item R') s k) → s.empty ≡ false
    → Parts (Statements R) (Statements R') (items_shape s) k
statements p some = do items ← many p some; give (somes items)

-- ---- options

abbrev pub assignment_shape : Shape Class
assignment_shape = nested (ident_class [] ∷ symbol_class char.open_paren ∷ []) false
    (symbol_class char.dot ∷ text ∷ [])

unfoldable pub assignment : (n : ℕ)
    → Parts (IsAssignment n) (IsAssignment (suc n)) assignment_shape n
unfolding IsAssignment
assignment n = shaped assignment_shape (at (λ place. do
  name ← same option_name refl
  same (symbol char.equals) refl
  value ← constants n
  give (record { place = place; name = name; value = value })) refl) refl

abbrev pub option_shape : Shape Class
option_shape = nested (word_class (codes "option") ∷ []) false []

unfoldable pub option_parts : (n : ℕ) → Parts (IsOption n) (IsOption (suc n)) option_shape n
unfolding IsOption
option_parts n = shaped option_shape (at (λ place. do
  same (word (codes "option")) refl
  option ← assignment n
  same (symbol char.semicolon) refl
  give (record { place = place; option = option })) refl) refl

-- wrong from the word `option` on, if something in it is
abbrev pub option_pair : (n : ℕ) → Parts (IsOption n) (IsOption (suc n)) option_shape n
option_pair n = from_start (option_parts n)

pub option-same : (n : ℕ) (ts : Rest Lexeme Place)
    → (option_pair n).high.run ts ≡ (option_pair (suc n)).low.run ts
unfolding option_parts assignment
option-same n ts = refl

abbrev pub option : (n : ℕ) → Parts (IsOption n) (IsOption (suc n)) option_shape n
option = steady option_pair option-same

-- "," and an option
abbrev pub comma_assignment : (n : ℕ)
    → Parts (Then IsComma (λ u. IsAssignment n)) (Then IsComma (λ u. IsAssignment (suc n)))
    (then_shape lexicon (shape (symbol_class char.comma ∷ []) false []) assignment_shape) n
comma_assignment n = do same (symbol char.comma) refl; assignment n

abbrev pub assignments_shape : Shape Class
assignments_shape = nested (ident_class [] ∷ symbol_class char.open_paren ∷ []) false
    (symbol_class char.dot ∷ text ∷ symbol_class char.comma ∷ [])

unfoldable pub assignments : (n : ℕ)
    → Parts (Separated (IsComma) (IsAssignment n)) (Separated (IsComma) (IsAssignment (suc n)))
    assignments_shape n
assignments n = shaped assignments_shape (do
  first ← assignment n
  others ← many (comma_assignment n) refl
  give (first ∷ others)) refl

-- behind the first of them
pub assignments_first : (n : ℕ) (ts us : Rest Lexeme Place) (a : OptionSyntax)
    → (assignment n).low.run ts ≡ read a us
    → (assignments n).low.run ts ≡ with_rest (λ (v : List OptionSyntax). v)
    (λ (v : List OptionSyntax). v) (a ∷ []) (run_many (comma_assignment n).low us)
unfolding assignments run_many
assignments_first n ts us a e = rw e refl

abbrev pub bracketed_shape : Shape Class
bracketed_shape = nested (symbol_class char.open_bracket ∷ []) false []

-- "[" options "]"
abbrev pub Bracketed : ℕ → Rel Lexeme (List OptionSyntax)
Bracketed n = Then (IsSymbol char.open_bracket) (λ u. Then (Separated IsComma (IsAssignment n))
    (λ options. Then (IsSymbol char.close_bracket) (λ v. Nothing options)))

unfoldable pub bracketed_options : (n : ℕ)
    → Parts (Bracketed n) (Bracketed (suc n)) bracketed_shape n
bracketed_options n = shaped bracketed_shape (do
  same (symbol char.open_bracket) refl
  options ← assignments n
  same (symbol char.close_bracket) refl
  give options) refl

abbrev pub options_shape : Shape Class
options_shape =
    nested (symbol_class char.open_bracket ∷ []) true (symbol_class char.open_bracket ∷ [])

unfoldable pub options_pair : (n : ℕ) → Parts (AreOptions n) (AreOptions (suc n)) options_shape n
unfolding AreOptions
options_pair n = shaped options_shape (choose (bracketed_options n) refl (give [])) refl

pub options-same : (n : ℕ) (ts : Rest Lexeme Place)
    → (options_pair n).high.run ts ≡ (options_pair (suc n)).low.run ts
unfolding options_pair bracketed_options assignments assignment
options-same n ts = refl

abbrev pub options : (n : ℕ) → Parts (AreOptions n) (AreOptions (suc n)) options_shape n
options = steady options_pair options-same

abbrev pub option_items_shape : Shape Class
option_items_shape = nested (symbol_class char.semicolon ∷ word_class (codes "option") ∷ []) true
    (symbol_class char.semicolon ∷ word_class (codes "option") ∷ [])

abbrev pub option_item_shape : Shape Class
option_item_shape = nested (symbol_class char.semicolon ∷ word_class (codes "option") ∷ []) false []

unfoldable pub option_item : (n : ℕ)
    → Parts (Item (IsOption n)) (Item (IsOption (suc n))) option_item_shape n
option_item n = shaped option_item_shape (item (option n)) refl

unfoldable pub option_items : (n : ℕ)
    → Parts (Statements (IsOption n)) (Statements (IsOption (suc n))) option_items_shape n
option_items n = shaped option_items_shape (statements (option_item n) refl) refl

-- ---- fields

-- a field that begins with a type of such a shape
abbrev pub field_shape : List Class → Shape Class
field_shape firsts = nested firsts false []

-- what follows the type of a field
abbrev pub AfterType : ℕ → Place → Option Label → TypeSyntax → Rel Lexeme FieldStatementSyntax
AfterType n place label type_ =
    relation.◌>>=◌ grammar.IsIdent
    (λ name. relation.◌>>◌ (grammar.IsSymbol char.equals)
    (relation.◌>>=◌ grammar.IsFieldNumber
    (λ number. relation.◌>>=◌ (AreOptions n)
    (λ options. relation.◌>>◌ (grammar.IsSymbol char.semicolon)
    (relation.Nothing
    (tree.field
    (record {
      place = place;
      label = label;
      type_ = type_;
      name = name;
      number = number;
      options = options;
    })))))))

unfoldable pub after_type_parts :
    (n : ℕ) (place : Place) (label : Option Label) (type_ : TypeSyntax)
    → Parts (AfterType n place label type_) (AfterType (suc n) place label type_)
    (field_shape (ident_class [] ∷ [])) n
after_type_parts n place label type_ = shaped (field_shape (ident_class [] ∷ [])) (do
  name ← same ident refl
  same (symbol char.equals) refl
  number ← same field_number refl
  options ← options n
  same (symbol char.semicolon) refl
  give (tree.field
      (record {
        place = place;
        label = label;
        type_ = type_;
        name = name;
        number = number;
        options =
            options;
      }))) refl

-- wrong from the name on, if something behind it is
abbrev pub after_type : (n : ℕ) (place : Place) (label : Option Label) (type_ : TypeSyntax)
    → Parts (AfterType n place label type_) (AfterType (suc n) place label type_)
    (field_shape (ident_class [] ∷ [])) n
after_type n place label type_ = from_start (after_type_parts n place label type_)

unfoldable pub normal_field : (n : ℕ) (place : Place) (label : Option Label)
    → Parts (NormalFieldOf n (Unless (is_one_of (words (codes "group" ∷ []))) (IsType n)) place
    label) (NormalFieldOf (suc n) (Unless (is_one_of (words (codes "group" ∷ []))) (IsType (suc n)))
    place label) (field_shape (symbol_class char.dot ∷ ident_class (codes "group" ∷ []) ∷ [])) n
unfolding NormalFieldOf
normal_field n place label =
    shaped (field_shape (symbol_class char.dot ∷ ident_class (codes "group" ∷ []) ∷ [])) (do
      type_ ← unless (words (codes "group" ∷ [])) (types n) refl
      after_type n place label type_) refl

unfoldable pub map_field : (n : ℕ) (place : Place)
    → Parts (NormalFieldOf (suc n) (MapOf (IsType n)) place None)
    (NormalFieldOf (suc (suc n)) (MapOf (IsType (suc n))) place None)
    (field_shape (word_class (codes "map") ∷ [])) (suc n)
unfolding NormalFieldOf
map_field n place = shaped (field_shape (word_class (codes "map") ∷ [])) (do
  type_ ← map_of (types n)
  after_type (suc n) place None type_) refl

abbrev pub field_firsts : Syntax → List Class
field_firsts Proto2 = words (table_words labels ++ codes "map" ∷ [])
field_firsts Proto3 = symbol_class char.dot ∷ ident_class (codes "required" ∷ statement_words) ∷ []

abbrev pub field_items_shape : Syntax → Shape Class
field_items_shape s =
    nested (symbol_class char.semicolon ∷ field_firsts s) true
    (symbol_class char.semicolon ∷ field_firsts s)

abbrev pub field_item_shape : Syntax → Shape Class
field_item_shape s = nested (symbol_class char.semicolon ∷ field_firsts s) false []

unfoldable pub field_item_of : (s : Syntax) {R R' : List Lexeme → FieldStatementSyntax → Type 0}
    {k : ℕ} → Parts R R' (field_shape (field_firsts s)) k
    → Parts (Item R) (Item R') (field_item_shape s) k
field_item_of Proto2 p = shaped (field_item_shape Proto2) (item p) refl
field_item_of Proto3 p = shaped (field_item_shape Proto3) (item p) refl

-- the fields of a group or an `extend`
unfoldable pub field_items_of : (s : Syntax) {R R' : List Lexeme → FieldStatementSyntax → Type 0}
    {k : ℕ} → Parts R R' (field_shape (field_firsts s)) k
    → Parts (Statements R) (Statements R') (field_items_shape s) k
field_items_of Proto2 p =
    shaped (field_items_shape Proto2) (statements (field_item_of Proto2 p) refl) refl
field_items_of Proto3 p =
    shaped (field_items_shape Proto3) (statements (field_item_of Proto3 p) refl) refl

-- "{" { ";" | field } "}"
unfoldable pub field_block_of : (s : Syntax) {R R' : List Lexeme → FieldStatementSyntax → Type 0}
    {k : ℕ} → Parts R R' (field_shape (field_firsts s)) k
    → Parts (Braced R) (Braced R') (nested (symbol_class char.open_brace ∷ []) false []) k
field_block_of Proto2 p =
    shaped (nested (symbol_class char.open_brace ∷ []) false [])
    (do
      same (symbol char.open_brace) refl
      fields ← field_items_of Proto2 p
      same (symbol char.close_brace) refl
      give fields) refl
field_block_of Proto3 p =
    shaped (nested (symbol_class char.open_brace ∷ []) false [])
    (do
      same (symbol char.open_brace) refl
      fields ← field_items_of Proto3 p
      same (symbol char.close_brace) refl
      give fields) refl

unfoldable pub group_of : (s : Syntax) {R R' : List Lexeme → FieldStatementSyntax → Type 0} {k : ℕ}
    (place : Place) (label : Option Label) → Parts R R' (field_shape (field_firsts s)) k
    → Parts (GroupOf R place label) (GroupOf R' place label)
    (field_shape (word_class (codes "group") ∷ [])) (suc k)
unfolding GroupOf
group_of s place label p =
    shaped (field_shape (word_class (codes "group") ∷ []))
    (past group_name refl refl (λ name. do
      same (symbol char.equals) refl
      number ← same field_number refl
      fields ← field_block_of s p
      give (tree.group_of (record {
        place = place;
        label = label;
        name = name;
        number = number;
        fields = fields;
      })))) refl

abbrev pub after_label_shape : Shape Class
after_label_shape = field_shape (symbol_class char.dot ∷ ident_class [] ∷ [])

-- a normal field of n levels, or a group with fields of j levels
unfoldable pub after_label : (s : Syntax) {R R' : List Lexeme → FieldStatementSyntax → Type 0}
    (n j k : ℕ) → k ≤ n → k ≤ suc j → (place : Place) (label : Option Label)
    → Parts R R' (field_shape (field_firsts s)) j
    → Parts (AfterLabel n R place label) (AfterLabel (suc n) R' place label) after_label_shape k
unfolding AfterLabel
after_label s n j k h i place label p =
    shaped after_label_shape
    (choose (less (suc j) k i (group_of s place label p)) refl
    (less n k h (normal_field n place label))) refl

pub up : (k n : ℕ) → k ≤ n → suc k ≤ suc n
up k n h = omega (arith, h)

pub self : (k : ℕ) → k ≤ k
self k = omega arith

pub step-le : (k : ℕ) → k ≤ suc k
step-le k = omega arith

unfoldable pub field_of : (s : Syntax) (n k : ℕ) → k ≤ n
    → (R R' : List Lexeme → FieldStatementSyntax → Type 0)
    → Parts R R' (field_shape (field_firsts s)) k
    → Parts (FieldOf s n R) (FieldOf s (suc n) R') (field_shape (field_firsts s)) (suc k)
unfolding FieldOf
field_of Proto2 n k h R R' p = shaped (field_shape (field_firsts Proto2)) (at (λ place.
    choose (do
      l ← same (one_of labels) refl
      after_label Proto2 (suc n) k (suc k) (up k n h) (self (suc k)) place (Some l) p) refl
    (less (suc n) (suc k) (up k n h) (map_field n place))) refl) refl
field_of Proto3 n k h R R' p = shaped (field_shape (field_firsts Proto3)) (at (λ place.
    choose (do
      l ← same (one_of labels3) refl
      after_label Proto3 (suc n) k (suc k) (up k n h) (self (suc k)) place (Some l) p) refl
    (unless (words (table_words labels ++ statement_words))
    (after_label Proto3 (suc n) k (suc k) (up k n h) (self (suc k)) place None p) refl)) refl)
    refl

abbrev pub field : (s : Syntax) (n : ℕ) → Parses (IsField s n) (field_shape (field_firsts s))
field s = level refl (field_of s)

pub near_field : (s : Syntax) (n : ℕ) → Near n (field s n).run (field s (suc n)).run
unfolding field_of after_label group_of field_block_of field_items_of field_item_of normal_field
    map_field after_type_parts map_of
near_field Proto2 = levels refl (field_of Proto2) (λ n k h R R' t ts. refl)
    (λ n k h R R' t ts. refl)
near_field Proto3 = levels refl (field_of Proto3) (λ n k h R R' t ts. refl)
    (λ n k h R R' t ts. refl)

abbrev pub fields : (s : Syntax) (n : ℕ)
    → Parts (IsField s n) (IsField s (suc n)) (field_shape (field_firsts s)) n
fields s n = record { low = field s n; high = field s (suc n); near = near_field s n }
