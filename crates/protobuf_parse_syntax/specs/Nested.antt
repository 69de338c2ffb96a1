-- No public clause rests on this file.
-- A pair of readers for each production in which parts nest.
use Rattle.std.proofs.Common.{◌≡◌, ℕ, suc, ◌≤◌, List, [], ◌∷◌, ◌++◌, None, true}
use Rattle.std.proofs.Common.{false, codes, refl, ap, ◌∙◌, ◌-◌, arith}
use Rattle.protobuf_parse_base.specs.Characters as char
use Rattle.protobuf_parse_grammar.specs.Readers.{Rest, deep, Shape, nested}
use Rattle.protobuf_parse_grammar.specs.Depth.{Near}
use Rattle.protobuf_parse_grammar.specs.Pairs.{same, less, give, behind, choose, shaped}
use Rattle.protobuf_parse_grammar.specs.Pairs.{unless, at, both, none-le, level, level-zero}
use Rattle.protobuf_parse_grammar.specs.Pairs.{level-suc, levels}
use Rattle.protobuf_parse_grammar.specs.Pairs.{◌>>=◌, ◌>>◌}
use Rattle.protobuf_parse_lexer.specs.Text.{Bytes}
use Rattle.protobuf_parse_lexer.specs.Tokens.{Lexeme}
use Rattle.protobuf_parse_lexer.specs.Classes.{Class, symbol as symbol_class, word as word_class}
use Rattle.protobuf_parse_lexer.specs.Classes.{ident as ident_class, words}
use Rattle.protobuf_parse_lexer.specs.declared.lexer.token.Place.{Place}
use Rattle.protobuf_parse_syntax.specs.Trees as tree
use Rattle.protobuf_parse_syntax.specs.Trees.{MessageSyntax}
use Rattle.protobuf_parse_syntax.specs.Productions.{Parses, symbol, word, ident}
use Rattle.protobuf_parse_syntax.specs.Productions.{name}
use Rattle.protobuf_parse_syntax.specs.Productions.{reserved, extensions, enum_number, streamed}
use Rattle.protobuf_parse_syntax.specs.Productions.{imported, package_name, version_statement}
use Rattle.protobuf_parse_syntax.specs.Productions.{value_name}
use Rattle.protobuf_parse_syntax.specs.Readings.{never, steady, from_start}
use Rattle.protobuf_parse_syntax.specs.Grammar.{table_words, labels}
use Rattle.protobuf_parse_syntax.specs.Grammar.{statement_words, Item, Statements}
use Rattle.protobuf_parse_syntax.specs.Grammar.{Braced}
use Rattle.protobuf_parse_syntax.specs.Grammar.{IsOption}
use Rattle.protobuf_parse_syntax.specs.Grammar.{IsField}
use Rattle.protobuf_parse_syntax.specs.Grammar.{IsOneofField, IsOneofStatement, IsOneof, IsExtend}
use Rattle.protobuf_parse_syntax.specs.Grammar.{IsEnumValue, IsEnumStatement, IsEnum}
use Rattle.protobuf_parse_syntax.specs.Grammar.{IsExtensionsIn, MessageStatementOf, MessageOf}
use Rattle.protobuf_parse_syntax.specs.Grammar.{IsMessage, IsMethodEnd, IsRpc, IsStream, IsStreamIn}
use Rattle.protobuf_parse_syntax.specs.Grammar.{IsServiceStatement, IsService, IsFileStatement}
use Rattle.protobuf_parse_syntax.specs.Grammar.{IsFileOf}
use Rattle.protobuf_parse_syntax.specs.declared.tree.Syntax.{Syntax}
use Rattle.protobuf_parse_syntax.specs.declared.tree.Syntax.TheVariants.{Proto2, Proto3}
unfoldable pub use Rattle.protobuf_parse_syntax.specs.NestedFields.{option_item, option_items}
unfoldable pub use Rattle.protobuf_parse_syntax.specs.NestedFields.{after_type_parts, normal_field}
unfoldable pub use Rattle.protobuf_parse_syntax.specs.NestedFields.{field_item_of, field_items_of}
unfoldable pub use Rattle.protobuf_parse_syntax.specs.NestedFields.{field_block_of, group_of}
unfoldable pub use Rattle.protobuf_parse_syntax.specs.NestedFields.{after_label, value_of}
unfoldable pub use Rattle.protobuf_parse_syntax.specs.NestedFields.{constant_field_of}
unfoldable pub use Rattle.protobuf_parse_syntax.specs.NestedFields.{constant_fields_of}
unfoldable pub use Rattle.protobuf_parse_syntax.specs.NestedFields.{message_constant_of}
unfoldable pub use Rattle.protobuf_parse_syntax.specs.NestedFields.{constants_of, items_of, list_of}
unfoldable pub use Rattle.protobuf_parse_syntax.specs.NestedFields.{constant_of, map_of, type_of}
unfoldable pub use Rattle.protobuf_parse_syntax.specs.NestedFields.{assignment, option_parts}
unfoldable pub use Rattle.protobuf_parse_syntax.specs.NestedFields.{bracketed_options}
unfoldable pub use Rattle.protobuf_parse_syntax.specs.NestedFields.{assignments, options_pair}
unfoldable pub use Rattle.protobuf_parse_syntax.specs.NestedFields.{map_field, field_of}
pub use Rattle.protobuf_parse_syntax.specs.NestedFields.{Parts, item, statements, option, options}
pub use Rattle.protobuf_parse_syntax.specs.NestedFields.{field_shape, self, step-le, field}
pub use Rattle.protobuf_parse_syntax.specs.NestedFields.{near_field, fields, constant_firsts}
pub use Rattle.protobuf_parse_syntax.specs.NestedFields.{item_firsts}
pub use Rattle.protobuf_parse_syntax.specs.NestedFields.{constant_shape, constant_field_shape}
pub use Rattle.protobuf_parse_syntax.specs.NestedFields.{ValueOf, constant_fields_shape, constant}
pub use Rattle.protobuf_parse_syntax.specs.NestedFields.{constant_in, constant_zero, constant_more}
pub use Rattle.protobuf_parse_syntax.specs.NestedFields.{near_constant, constants, type_shape}
pub use Rattle.protobuf_parse_syntax.specs.NestedFields.{type_, near_type, types, item_shape}
pub use Rattle.protobuf_parse_syntax.specs.NestedFields.{items_shape, assignment_shape}
pub use Rattle.protobuf_parse_syntax.specs.NestedFields.{option_pair, comma_assignment}
pub use Rattle.protobuf_parse_syntax.specs.NestedFields.{assignments_first}
pub use Rattle.protobuf_parse_syntax.specs.NestedFields.{option_shape, option-same, options_shape}
pub use Rattle.protobuf_parse_syntax.specs.NestedFields.{options-same, option_items_shape}
pub use Rattle.protobuf_parse_syntax.specs.NestedFields.{option_item_shape, AfterType, after_type}
pub use Rattle.protobuf_parse_syntax.specs.NestedFields.{field_firsts}
pub use Rattle.protobuf_parse_syntax.specs.NestedFields.{field_items_shape, field_item_shape}
pub use Rattle.protobuf_parse_syntax.specs.NestedFields.{after_label_shape, up}

-- ---- oneofs and extensions

-- with these words no field of a oneof begins
abbrev pub no_oneof_words : List Bytes
no_oneof_words = codes "map" ∷ table_words labels ++ statement_words

abbrev pub oneof_field_shape : Shape Class
oneof_field_shape =
    field_shape (symbol_class char.dot
    ∷ ident_class (codes "map" ∷ table_words labels ++ statement_words)
    ∷ [])

unfoldable pub oneof_field : (s : Syntax) (n : ℕ)
    → Parts (IsOneofField s n) (IsOneofField s (suc n)) oneof_field_shape n
unfolding IsOneofField
oneof_field s n = shaped oneof_field_shape (at (λ place.
    unless (words no_oneof_words) (after_label s n n n (self n) (step-le n) place None (fields s n))
    refl) refl) refl

abbrev pub oneof_statement_shape : Shape Class
oneof_statement_shape =
    nested (word_class (codes "option") ∷ symbol_class char.dot
    ∷ ident_class (codes "map" ∷ table_words labels ++ statement_words) ∷ []) false []

unfoldable pub oneof_statement : (s : Syntax) (n : ℕ)
    → Parts (IsOneofStatement s n) (IsOneofStatement s (suc n)) oneof_statement_shape n
unfolding IsOneofStatement
oneof_statement s n =
    shaped oneof_statement_shape
    (choose (do o ← option n; give (tree.oneof_option o)) refl
    (do f ← oneof_field s n; give (tree.oneof_field f))) refl

abbrev pub oneof_firsts : List Class
oneof_firsts = symbol_class char.semicolon ∷ word_class (codes "option") ∷ symbol_class char.dot
    ∷ ident_class (codes "map" ∷ table_words labels ++ statement_words) ∷ []

unfoldable pub oneof_item : (s : Syntax) (n : ℕ)
    → Parts (Item (IsOneofStatement s n)) (Item (IsOneofStatement s (suc n)))
    (nested oneof_firsts false []) n
oneof_item s n = shaped (nested oneof_firsts false []) (item (oneof_statement s n)) refl

unfoldable pub oneof_items : (s : Syntax) (n : ℕ)
    → Parts (Statements (IsOneofStatement s n)) (Statements (IsOneofStatement s (suc n)))
    (nested oneof_firsts true oneof_firsts) n
oneof_items s n = shaped (nested oneof_firsts true oneof_firsts)
    (statements (oneof_item s n) refl) refl

unfoldable pub oneof_pair : (s : Syntax) (n : ℕ)
    → Parts (IsOneof s n) (IsOneof s (suc n)) (nested (word_class (codes "oneof") ∷ []) false []) n
unfolding IsOneof
oneof_pair s n = shaped (nested (word_class (codes "oneof") ∷ []) false []) (at (λ place. do
  same (word (codes "oneof")) refl
  name ← same ident refl
  body ← (do
    same (symbol char.open_brace) refl
    body ← oneof_items s n
    same (symbol char.close_brace) refl
    give body)
  give (record { place = place; name = name; body = body })) refl) refl

pub oneof-same : (s : Syntax) (n : ℕ) (ts : Rest Lexeme Place)
    → (oneof_pair s n).high.run ts ≡ (oneof_pair s (suc n)).low.run ts
unfolding oneof_pair oneof_items oneof_item oneof_statement oneof_field after_label group_of
    field_block_of field_items_of field_item_of normal_field
    after_type_parts
oneof-same Proto2 n ts = refl
oneof-same Proto3 n ts = refl

abbrev pub oneof : (s : Syntax) (n : ℕ)
    → Parts (IsOneof s n) (IsOneof s (suc n)) (nested (word_class (codes "oneof") ∷ []) false []) n
oneof s = steady (oneof_pair s) (oneof-same s)

-- "{" { ";" | field } "}"
unfoldable pub extend_body : (s : Syntax) (n : ℕ)
    → Parts (Braced (IsField s n)) (Braced (IsField s (suc n)))
    (nested (symbol_class char.open_brace ∷ []) false []) n
extend_body s n = field_block_of s (fields s n)

unfoldable pub extend_pair : (s : Syntax) (n : ℕ)
    → Parts (IsExtend s n) (IsExtend s (suc n))
    (nested (word_class (codes "extend") ∷ []) false []) n
unfolding IsExtend
extend_pair s n = shaped (nested (word_class (codes "extend") ∷ []) false []) (at (λ place. do
  same (word (codes "extend")) refl
  extendee ← same name refl
  fields ← extend_body s n
  give (record { place = place; extendee = extendee; fields = fields })) refl) refl

pub extend-same : (s : Syntax) (n : ℕ) (ts : Rest Lexeme Place)
    → (extend_pair s n).high.run ts ≡ (extend_pair s (suc n)).low.run ts
unfolding extend_pair extend_body field_block_of field_items_of field_item_of
extend-same Proto2 n ts = refl
extend-same Proto3 n ts = refl

abbrev pub extend : (s : Syntax) (n : ℕ)
    → Parts (IsExtend s n) (IsExtend s (suc n))
    (nested (word_class (codes "extend") ∷ []) false []) n
extend s = steady (extend_pair s) (extend-same s)

-- ---- enums

abbrev pub enum_value_shape : Shape Class
enum_value_shape = nested (ident_class (codes "reserved" ∷ codes "option" ∷ []) ∷ []) false
    (symbol_class char.open_bracket ∷ [])

unfoldable pub enum_value_parts : (n : ℕ)
    → Parts (IsEnumValue n) (IsEnumValue (suc n)) enum_value_shape n
unfolding IsEnumValue
enum_value_parts n = shaped enum_value_shape (at (λ place. do
  name ← same value_name refl
  same (symbol char.equals) refl
  number ← same enum_number refl
  options ← options n
  give (record { place = place; name = name; number = number; options = options })) refl) refl

-- wrong from the name on, if something behind it is
abbrev pub enum_value : (n : ℕ) → Parts (IsEnumValue n) (IsEnumValue (suc n)) enum_value_shape n
enum_value n = from_start (enum_value_parts n)

abbrev pub enum_statement_shape : Shape Class
enum_statement_shape = nested (ident_class [] ∷ []) false (symbol_class char.open_bracket ∷ [])

unfoldable pub enum_statement : (n : ℕ)
    → Parts (IsEnumStatement n) (IsEnumStatement (suc n)) enum_statement_shape n
unfolding IsEnumStatement
enum_statement n = shaped enum_statement_shape
    (choose (do r ← same reserved refl; give (tree.enum_reserved r)) refl
    (choose (do o ← option n; give (tree.enum_option o)) refl
    (do v ← enum_value n; give (tree.enum_value v)))) refl

abbrev pub enum_firsts : List Class
enum_firsts = symbol_class char.semicolon ∷ ident_class [] ∷ []

unfoldable pub enum_item : (n : ℕ)
    → Parts (Item (IsEnumStatement n)) (Item (IsEnumStatement (suc n)))
    (nested enum_firsts false (symbol_class char.open_bracket ∷ [])) n
enum_item n = shaped (nested enum_firsts false (symbol_class char.open_bracket ∷ []))
    (item (enum_statement n)) refl

unfoldable pub enum_items : (n : ℕ)
    → Parts (Statements (IsEnumStatement n)) (Statements (IsEnumStatement (suc n)))
    (nested enum_firsts true (symbol_class char.open_bracket ∷ enum_firsts)) n
enum_items n = shaped (nested enum_firsts true (symbol_class char.open_bracket ∷ enum_firsts))
    (statements (enum_item n) refl) refl

unfoldable pub enumeration_pair : (n : ℕ)
    → Parts (IsEnum n) (IsEnum (suc n)) (nested (word_class (codes "enum") ∷ []) false []) n
unfolding IsEnum
enumeration_pair n = shaped (nested (word_class (codes "enum") ∷ []) false []) (at (λ place. do
  same (word (codes "enum")) refl
  name ← same ident refl
  body ← (do
    same (symbol char.open_brace) refl
    body ← enum_items n
    same (symbol char.close_brace) refl
    give body)
  give (record { place = place; name = name; body = body })) refl) refl

pub enumeration-same : (n : ℕ) (ts : Rest Lexeme Place)
    → (enumeration_pair n).high.run ts ≡ (enumeration_pair (suc n)).low.run ts
unfolding enumeration_pair enum_items enum_item enum_statement enum_value_parts
enumeration-same n ts = refl

abbrev pub enumeration : (n : ℕ)
    → Parts (IsEnum n) (IsEnum (suc n)) (nested (word_class (codes "enum") ∷ []) false []) n
enumeration = steady enumeration_pair enumeration-same

-- ---- messages

abbrev pub message_shape : Shape Class
message_shape = nested (word_class (codes "message") ∷ []) false []

abbrev pub statement_firsts : Syntax → List Class
statement_firsts Proto2 =
    words (codes "reserved" ∷ codes "oneof" ∷ codes "extend" ∷ codes "message" ∷ codes "enum"
    ∷ codes "extensions" ∷ codes "option" ∷ codes "map" ∷ table_words labels)
statement_firsts Proto3 = symbol_class char.dot
    ∷ ident_class (codes "required" ∷ codes "extensions" ∷ [])
    ∷ []

abbrev pub statement_goes : Syntax → List Class
statement_goes Proto2 = symbol_class char.comma ∷ word_class (codes "to") ∷ []
statement_goes Proto3 = []

unfoldable pub message_statement_of : (s : Syntax) (n k : ℕ) → k ≤ n
    → {M M' : List Lexeme → MessageSyntax → Type 0} → Parts M M' message_shape k
    → Parts (MessageStatementOf s n M) (MessageStatementOf s (suc n) M')
    (nested (statement_firsts s) false (statement_goes s)) k
unfolding MessageStatementOf IsExtensionsIn
message_statement_of Proto2 n k h m =
    shaped (nested (statement_firsts Proto2) false (statement_goes Proto2))
    (choose (do r ← same reserved refl; give (tree.message_reserved r)) refl
    (choose (do o ← less n k h (oneof Proto2 n); give (tree.message_oneof o)) refl
    (choose (do e ← less n k h (extend Proto2 n); give (tree.message_extend e)) refl
    (choose (do m ← m; give (tree.nested_message m)) refl
    (choose (do e ← less n k h (enumeration n); give (tree.message_enum e)) refl
    (choose (do e ← same extensions refl; give (tree.message_extensions e)) refl
    (choose (do o ← less n k h (option n); give (tree.message_option o)) refl
    (do f ← less n k h (fields Proto2 n); give (tree.message_field f))))))))) refl
message_statement_of Proto3 n k h m =
    shaped (nested (statement_firsts Proto3) false (statement_goes Proto3))
    (choose (do r ← same reserved refl; give (tree.message_reserved r)) refl
    (choose (do o ← less n k h (oneof Proto3 n); give (tree.message_oneof o)) refl
    (choose (do e ← less n k h (extend Proto3 n); give (tree.message_extend e)) refl
    (choose (do m ← m; give (tree.nested_message m)) refl
    (choose (do e ← less n k h (enumeration n); give (tree.message_enum e)) refl
    (choose (do e ← same never refl; give (tree.message_extensions e)) refl
    (choose (do o ← less n k h (option n); give (tree.message_option o)) refl
    (do f ← less n k h (fields Proto3 n); give (tree.message_field f))))))))) refl

unfoldable pub message_item_of : (s : Syntax) (n k : ℕ) → k ≤ n
    → {M M' : List Lexeme → MessageSyntax → Type 0} → Parts M M' message_shape k
    → Parts (Item (MessageStatementOf s n M)) (Item (MessageStatementOf s (suc n) M'))
    (nested (symbol_class char.semicolon ∷ statement_firsts s) false (statement_goes s)) k
message_item_of Proto2 n k h m =
    shaped (nested (symbol_class char.semicolon ∷ statement_firsts Proto2) false
    (statement_goes Proto2))
    (item (message_statement_of Proto2 n k h m)) refl
message_item_of Proto3 n k h m =
    shaped (nested (symbol_class char.semicolon ∷ statement_firsts Proto3) false
    (statement_goes Proto3))
    (item (message_statement_of Proto3 n k h m)) refl

abbrev pub message_items_shape : Syntax → Shape Class
message_items_shape s =
    nested (symbol_class char.semicolon ∷ statement_firsts s) true
    (statement_goes s ++ symbol_class char.semicolon ∷ statement_firsts s)

unfoldable pub message_items_of : (s : Syntax) (n k : ℕ) → k ≤ n
    → {M M' : List Lexeme → MessageSyntax → Type 0} → Parts M M' message_shape k
    → Parts (Statements (MessageStatementOf s n M)) (Statements (MessageStatementOf s (suc n) M'))
    (message_items_shape s) k
message_items_of Proto2 n k h m =
    shaped (message_items_shape Proto2) (statements (message_item_of Proto2 n k h m) refl) refl
message_items_of Proto3 n k h m =
    shaped (message_items_shape Proto3) (statements (message_item_of Proto3 n k h m) refl) refl

unfoldable pub message_of : (s : Syntax) (n k : ℕ) → k ≤ n
    → (M M' : List Lexeme → MessageSyntax → Type 0) → Parts M M' message_shape k
    → Parts (MessageOf s n M) (MessageOf s (suc n) M') message_shape (suc k)
unfolding MessageOf
message_of Proto2 n k h M M' m =
    shaped message_shape (at (λ place. behind (word (codes "message")) refl refl (do
      name ← same ident refl
      body ← (do
        same (symbol char.open_brace) refl
        body ← message_items_of Proto2 n k h m
        same (symbol char.close_brace) refl
        give body)
      give (record { place = place; name = name; body = body }))) refl) refl
message_of Proto3 n k h M M' m =
    shaped message_shape (at (λ place. behind (word (codes "message")) refl refl (do
      name ← same ident refl
      body ← (do
        same (symbol char.open_brace) refl
        body ← message_items_of Proto3 n k h m
        same (symbol char.close_brace) refl
        give body)
      give (record { place = place; name = name; body = body }))) refl) refl

abbrev pub message : (s : Syntax) (n : ℕ) → Parses (IsMessage s n) message_shape
message s = level refl (message_of s)

pub near_message : (s : Syntax) (n : ℕ) → Near n (message s n).run (message s (suc n)).run
unfolding message_of message_items_of message_item_of message_statement_of
near_message Proto2 =
    levels refl (message_of Proto2) (λ n k h R R' t ts. refl) (λ n k h R R' t ts. refl)
near_message Proto3 =
    levels refl (message_of Proto3) (λ n k h R R' t ts. refl) (λ n k h R R' t ts. refl)

abbrev pub messages : (s : Syntax) (n : ℕ)
    → Parts (IsMessage s n) (IsMessage s (suc n)) message_shape n
messages s n = record { low = message s n; high = message s (suc n); near = near_message s n }

-- a message whose parts have at most n levels, and what stands in it
abbrev pub message_in : (s : Syntax) (n : ℕ)
    → Parts (MessageOf s n (IsMessage s n)) (MessageOf s (suc n) (IsMessage s n)) message_shape 1
message_in s n = message_of s n 0 (none-le refl (message_of s) n) (IsMessage s n) (IsMessage s n)
    (both (message s n))

abbrev pub message_items : (s : Syntax) (n : ℕ)
    → Parts (Statements (MessageStatementOf s n (IsMessage s n)))
    (Statements (MessageStatementOf s (suc n) (IsMessage s n))) (message_items_shape s) 0
message_items s n = message_items_of s n 0 (none-le refl (message_of s) n) (both (message s n))

abbrev pub message_item : (s : Syntax) (n : ℕ)
    → Parts (Item (MessageStatementOf s n (IsMessage s n)))
    (Item (MessageStatementOf s (suc n) (IsMessage s n)))
    (nested (symbol_class char.semicolon ∷ statement_firsts s) false (statement_goes s)) 0
message_item s n = message_item_of s n 0 (none-le refl (message_of s) n) (both (message s n))

abbrev pub message_statement : (s : Syntax) (n : ℕ)
    → Parts (MessageStatementOf s n (IsMessage s n)) (MessageStatementOf s (suc n) (IsMessage s n))
    (nested (statement_firsts s) false (statement_goes s)) 0
message_statement s n =
    message_statement_of s n 0 (none-le refl (message_of s) n) (both (message s n))

pub message_zero : (s : Syntax) (n : ℕ) (ts : Rest Lexeme Place) → n ≡ 0
    → (message s n).run ts ≡ deep
message_zero s n ts e = ap (λ m. (message s m).run ts) e ∙ level-zero refl (message_of s) ts

pub message_more : (s : Syntax) (n : ℕ) (ts : Rest Lexeme Place) → 1 ≤ n
    → (message s n).run ts ≡ (message_in s (n - 1)).low.run ts
message_more s n ts h =
    let e : n ≡ suc (n - 1) = omega arith in
    ap (λ m. (message s m).run ts) e ∙ level-suc refl (message_of s) (n - 1) ts

-- ---- services

unfoldable pub option_body : (n : ℕ)
    → Parts (Braced (IsOption n)) (Braced (IsOption (suc n)))
    (nested (symbol_class char.open_brace ∷ []) false []) n
option_body n =
    shaped (nested (symbol_class char.open_brace ∷ []) false [])
    (do
      same (symbol char.open_brace) refl
      options ← option_items n
      same (symbol char.close_brace) refl
      give options) refl

abbrev pub method_end_shape : Shape Class
method_end_shape = nested (symbol_class char.semicolon ∷ symbol_class char.open_brace ∷ []) false []

unfoldable pub method_end : (n : ℕ) → Parts (IsMethodEnd n) (IsMethodEnd (suc n)) method_end_shape n
unfolding IsMethodEnd
method_end n =
    shaped method_end_shape (choose (do same (symbol char.semicolon) refl; give []) refl
    (option_body n)) refl

unfoldable pub rpc : (n : ℕ)
    → Parts (IsRpc n) (IsRpc (suc n)) (nested (word_class (codes "rpc") ∷ []) false []) n
unfolding IsRpc
rpc n = shaped (nested (word_class (codes "rpc") ∷ []) false []) (at (λ place. do
  same (word (codes "rpc")) refl
  name ← same ident refl
  input ← same streamed refl
  same (word (codes "returns")) refl
  output ← same streamed refl
  options ← method_end n
  give (record {
    place = place;
    name = name;
    input = input.1;
    output = output.1;
    client_streaming =
        input.0;
    server_streaming = output.0;
    options = options;
  })) refl) refl

unfoldable pub stream : (n : ℕ)
    → Parts (IsStream n) (IsStream (suc n)) (nested (word_class (codes "stream") ∷ []) false []) n
unfolding IsStream
stream n = shaped (nested (word_class (codes "stream") ∷ []) false []) (at (λ place. do
  same (word (codes "stream")) refl
  method ← same ident refl
  same (symbol char.open_paren) refl
  input ← same name refl
  same (symbol char.comma) refl
  output ← same name refl
  same (symbol char.close_paren) refl
  options ← method_end n
  give (record {
    place = place;
    name = method;
    input = input;
    output = output;
    client_streaming =
        true;
    server_streaming = true;
    options = options;
  })) refl) refl

abbrev pub service_firsts : Syntax → List Class
service_firsts Proto2 = words (codes "rpc" ∷ codes "stream" ∷ codes "option" ∷ [])
service_firsts Proto3 = words (codes "rpc" ∷ codes "option" ∷ [])

unfoldable pub service_statement : (s : Syntax) (n : ℕ)
    → Parts (IsServiceStatement s n) (IsServiceStatement s (suc n))
    (nested (service_firsts s) false []) n
unfolding IsServiceStatement IsStreamIn
service_statement Proto2 n = shaped (nested (service_firsts Proto2) false [])
    (choose (do m ← rpc n; give (tree.service_method m)) refl
    (choose (do m ← stream n; give (tree.service_method m)) refl
    (do o ← option n; give (tree.service_option o)))) refl
service_statement Proto3 n = shaped (nested (service_firsts Proto3) false [])
    (choose (do m ← rpc n; give (tree.service_method m)) refl
    (choose (do m ← same never refl; give (tree.service_method m)) refl
    (do o ← option n; give (tree.service_option o)))) refl

unfoldable pub service_item : (s : Syntax) (n : ℕ)
    → Parts (Item (IsServiceStatement s n)) (Item (IsServiceStatement s (suc n)))
    (nested (symbol_class char.semicolon ∷ service_firsts s) false []) n
service_item Proto2 n =
    shaped (nested (symbol_class char.semicolon ∷ service_firsts Proto2) false [])
    (item (service_statement Proto2 n)) refl
service_item Proto3 n =
    shaped (nested (symbol_class char.semicolon ∷ service_firsts Proto3) false [])
    (item (service_statement Proto3 n)) refl

unfoldable pub service_items : (s : Syntax) (n : ℕ)
    → Parts (Statements (IsServiceStatement s n)) (Statements (IsServiceStatement s (suc n)))
    (nested (symbol_class char.semicolon ∷ service_firsts s) true
    (symbol_class char.semicolon ∷ service_firsts s)) n
service_items Proto2 n =
    shaped (nested (symbol_class char.semicolon ∷ service_firsts Proto2) true
    (symbol_class char.semicolon ∷ service_firsts Proto2))
    (statements (service_item Proto2 n) refl) refl
service_items Proto3 n =
    shaped (nested (symbol_class char.semicolon ∷ service_firsts Proto3) true
    (symbol_class char.semicolon ∷ service_firsts Proto3))
    (statements (service_item Proto3 n) refl) refl

unfoldable pub service_pair : (s : Syntax) (n : ℕ)
    → Parts (IsService s n) (IsService s (suc n))
    (nested (word_class (codes "service") ∷ []) false []) n
unfolding IsService
service_pair Proto2 n =
    shaped (nested (word_class (codes "service") ∷ []) false []) (at (λ place. do
      same (word (codes "service")) refl
      name ← same ident refl
      body ← (do
        same (symbol char.open_brace) refl
        body ← service_items Proto2 n
        same (symbol char.close_brace) refl
        give body)
      give (record { place = place; name = name; body = body })) refl) refl
service_pair Proto3 n =
    shaped (nested (word_class (codes "service") ∷ []) false []) (at (λ place. do
      same (word (codes "service")) refl
      name ← same ident refl
      body ← (do
        same (symbol char.open_brace) refl
        body ← service_items Proto3 n
        same (symbol char.close_brace) refl
        give body)
      give (record { place = place; name = name; body = body })) refl) refl

pub service-same : (s : Syntax) (n : ℕ) (ts : Rest Lexeme Place)
    → (service_pair s n).high.run ts ≡ (service_pair s (suc n)).low.run ts
unfolding service_pair service_items service_item service_statement rpc stream method_end
    option_body option_items option_item
service-same Proto2 n ts = refl
service-same Proto3 n ts = refl

abbrev pub service : (s : Syntax) (n : ℕ)
    → Parts (IsService s n) (IsService s (suc n))
    (nested (word_class (codes "service") ∷ []) false []) n
service s = steady (service_pair s) (service-same s)

-- ---- files

-- with what a statement of a file begins
abbrev pub file_firsts : List Class
file_firsts =
    words (codes "import" ∷ codes "package" ∷ codes "option" ∷ codes "message" ∷ codes "enum"
    ∷ codes "extend" ∷ codes "service" ∷ [])

unfoldable pub file_statement : (s : Syntax) (n : ℕ)
    → Parts (IsFileStatement s n) (IsFileStatement s (suc n)) (nested file_firsts false []) n
unfolding IsFileStatement
file_statement s n = shaped (nested file_firsts false [])
    (choose (do i ← same imported refl; give (tree.file_import i)) refl
    (choose (do p ← same package_name refl; give (tree.file_package p)) refl
    (choose (do o ← option n; give (tree.file_option o)) refl
    (choose (do m ← messages s n; give (tree.file_message m)) refl
    (choose (do e ← enumeration n; give (tree.file_enum e)) refl
    (choose (do e ← extend s n; give (tree.file_extend e)) refl
    (do s ← service s n; give (tree.file_service s)))))))) refl

unfoldable pub file_item : (s : Syntax) (n : ℕ)
    → Parts (Item (IsFileStatement s n)) (Item (IsFileStatement s (suc n)))
    (nested (symbol_class char.semicolon ∷ file_firsts) false []) n
file_item s n = shaped (nested (symbol_class char.semicolon ∷ file_firsts) false [])
    (item (file_statement s n)) refl

unfoldable pub file_items : (s : Syntax) (n : ℕ)
    → Parts (Statements (IsFileStatement s n)) (Statements (IsFileStatement s (suc n)))
    (nested (symbol_class char.semicolon ∷ file_firsts) true
    (symbol_class char.semicolon ∷ file_firsts)) n
file_items s n =
    shaped (nested (symbol_class char.semicolon ∷ file_firsts) true
    (symbol_class char.semicolon ∷ file_firsts))
    (statements (file_item s n) refl) refl

abbrev pub file_shape : Shape Class
file_shape = nested (word_class (codes "syntax") ∷ symbol_class char.semicolon ∷ file_firsts) true
    (word_class (codes "syntax") ∷ symbol_class char.semicolon ∷ file_firsts)

unfoldable pub file : (n : ℕ) → Parts (IsFileOf n) (IsFileOf (suc n)) file_shape n
unfolding IsFileOf
file n = shaped file_shape (do
  syntax ← same version_statement refl
  statements ← file_items syntax n
  give (record { syntax = syntax; statements = statements })) refl

pub file-same : (n : ℕ) (ts : Rest Lexeme Place) → (file n).high.run ts ≡ (file (suc n)).low.run ts
unfolding file file_items file_item file_statement
file-same n ts = refl

-- files of so many levels and of one more
abbrev pub files : (n : ℕ) → Parts (IsFileOf n) (IsFileOf (suc n)) file_shape n
files = steady file file-same
