-- 101 levels suffice: of tokens that nest at most 100 deep no part meets what is too deep.
use Rattle.std.proofs.Common.{◌≡◌, ℕ, zero, suc, ◌+◌, ◌≤◌, true, false, List, [], ◌∷◌}
use Rattle.std.proofs.Common.{refl, sym, ◌∙◌, arith, codes, None}
use Rattle.protobuf_parse_grammar.specs.Readers.{Rest, deep, nested}
use Rattle.protobuf_parse_grammar.specs.Pairs.{both, none-le, level-suc}
use Rattle.protobuf_parse_grammar.specs.Whole.{whole}
use Rattle.protobuf_parse_lexer.specs.Tokens.{Lexeme, IsShallow}
use Rattle.protobuf_parse_lexer.specs.Classes.{symbol as symbol_class, word as word_class}
use Rattle.protobuf_parse_lexer.specs.Classes.{words}
use Rattle.protobuf_parse_lexer.specs.declared.lexer.token.Place.{Place}
use Rattle.protobuf_parse_syntax.specs.Grammar.{IsOption}
use Rattle.protobuf_parse_syntax.specs.Grammar.{IsOneofField, IsOneofStatement, IsOneof, IsExtend}
use Rattle.protobuf_parse_syntax.specs.Grammar.{IsEnumValue, IsEnumStatement, IsEnum, IsStreamIn}
use Rattle.protobuf_parse_syntax.specs.Grammar.{MessageStatementOf, IsExtensionsIn, MessageOf}
use Rattle.protobuf_parse_syntax.specs.Grammar.{IsMessage, IsMethodEnd, IsRpc, IsStream}
use Rattle.protobuf_parse_syntax.specs.Grammar.{IsServiceStatement, IsService, IsFileStatement}
use Rattle.protobuf_parse_syntax.specs.Grammar.{IsFileOf}
use Rattle.protobuf_parse_syntax.specs.Readings.{never as nothing}
use Rattle.protobuf_parse_syntax.specs.Grammar.{Item, Statements, Braced}
use Rattle.protobuf_parse_syntax.specs.declared.tree.Syntax.{Syntax}
use Rattle.protobuf_parse_syntax.specs.declared.tree.Syntax.TheVariants.{Proto2, Proto3}
use Rattle.protobuf_parse_syntax.specs.Trees.{MessageSyntax}
use Rattle.protobuf_parse_syntax.proofs.Balance.{Any, fits-now, fits-start, opening, closing, done}
use Rattle.protobuf_parse_syntax.proofs.File.{Enough}
use Rattle.protobuf_parse_syntax.proofs.Calm.{Calm, Quiet, flat, give, ◌>>=◌, ◌>>◌, choose, shaped}
use Rattle.protobuf_parse_syntax.proofs.Calm.{unless, at, from_start}
use Rattle.protobuf_parse_syntax.proofs.Calm.{as_reader, any}
use Rattle.protobuf_parse_syntax.proofs.QuietFields.{item, statements, deeper, option, options}
use Rattle.protobuf_parse_syntax.proofs.QuietFields.{after_type, normal_field, field_item_of}
use Rattle.protobuf_parse_syntax.proofs.QuietFields.{field_items_of, field_block_of, group_of}
use Rattle.protobuf_parse_syntax.proofs.QuietFields.{after_label, field}
use Rattle.protobuf_parse_syntax.specs.Trees as tree
use Rattle.protobuf_parse_syntax.specs.Nested as nest
use Rattle.protobuf_parse_syntax.specs.Productions as part
use Rattle.protobuf_parse_syntax.proofs.Balance as balance
use Rattle.protobuf_parse_syntax.proofs.Nesting as keeps
use Rattle.protobuf_parse_base.specs.Characters as char

-- ---- oneofs and extensions

unfoldable oneof_field : {n : ℕ} (s : Syntax) (d : ℕ) → 101 ≤ n + d →
    Quiet n n (IsOneofField s d) nest.oneof_field_shape
unfolding IsOneofField
oneof_field {n = n} s d h = shaped nest.oneof_field_shape (at (λ place.
    unless (words nest.no_oneof_words) (after_label s d h place None (field s d (deeper n d h)))
    refl) refl) refl

unfoldable oneof_statement : {n : ℕ} (s : Syntax) (d : ℕ) → 101 ≤ n + d →
    Quiet n n (IsOneofStatement s d) nest.oneof_statement_shape
unfolding IsOneofStatement
oneof_statement s d h = shaped nest.oneof_statement_shape
    (choose (do o ← option d h; give (tree.oneof_option o)) refl
    (do f ← oneof_field s d h; give (tree.oneof_field f))) refl

unfoldable oneof_items : {n : ℕ} (s : Syntax) (d : ℕ) → 101 ≤ n + d →
    Quiet n n (Statements (IsOneofStatement s d))
    (nested nest.oneof_firsts true nest.oneof_firsts)
oneof_items s d h = shaped (nested nest.oneof_firsts true nest.oneof_firsts)
    (statements (shaped (nested nest.oneof_firsts false []) (item (oneof_statement s d h)) refl)
    refl) refl

unfoldable oneof_parts : {n : ℕ} (s : Syntax) (d : ℕ) → 101 ≤ n + d →
    Quiet n n (IsOneof s d) (nested (word_class (codes "oneof") ∷ []) false [])
unfolding IsOneof
oneof_parts {n = n} s d h = shaped (nested (word_class (codes "oneof") ∷ []) false [])
    (at (λ place. do
      flat (part.word (codes "oneof")) refl keeps.word
      name ← flat part.ident refl keeps.ident
      body ← (do
        flat (part.symbol char.open_brace) refl (opening char.open_brace refl refl)
        body ← oneof_items s d (deeper n d h)
        flat (part.symbol char.close_brace) refl (closing char.close_brace refl refl)
        give body)
      give (record { place = place; name = name; body = body })) refl) refl

oneof_is : (n : ℕ) (s : Syntax) (d : ℕ) (h : 101 ≤ n + d) (ts : Rest Lexeme Place) →
    (nest.oneof s d).low.run ts ≡ (oneof_parts s d h).reader.run ts
unfolding oneof_parts oneof_items oneof_statement oneof_field after_label group_of field_block_of
    field_items_of field_item_of normal_field after_type nest.oneof_pair nest.oneof_items
    nest.oneof_item nest.oneof_statement nest.oneof_field nest.after_label nest.group_of
    nest.field_block_of nest.field_items_of nest.field_item_of nest.normal_field
    nest.after_type_parts
oneof_is n Proto2 d h ts = refl
oneof_is n Proto3 d h ts = refl

abbrev oneof : {n : ℕ} (s : Syntax) (d : ℕ) → 101 ≤ n + d →
    Quiet n n (IsOneof s d) (nested (word_class (codes "oneof") ∷ []) false [])
oneof {n = n} s d h = as_reader (nest.oneof s d).low (oneof_parts s d h) (oneof_is n s d h)

unfoldable extend_parts : {n : ℕ} (s : Syntax) (d : ℕ) → 101 ≤ n + d →
    Quiet n n (IsExtend s d) (nested (word_class (codes "extend") ∷ []) false [])
unfolding IsExtend
extend_parts {n = n} s d h = shaped (nested (word_class (codes "extend") ∷ []) false [])
    (at (λ place. do
      flat (part.word (codes "extend")) refl keeps.word
      extendee ← flat part.name refl keeps.name
      fields ← field_block_of s (field s d (deeper n d h))
      give (record { place = place; extendee = extendee; fields = fields })) refl) refl

extend_is : (n : ℕ) (s : Syntax) (d : ℕ) (h : 101 ≤ n + d) (ts : Rest Lexeme Place) →
    (nest.extend s d).low.run ts ≡ (extend_parts s d h).reader.run ts
unfolding extend_parts field_block_of field_items_of field_item_of nest.extend_pair
    nest.extend_body nest.field_block_of nest.field_items_of nest.field_item_of
extend_is n Proto2 d h ts = refl
extend_is n Proto3 d h ts = refl

abbrev extend : {n : ℕ} (s : Syntax) (d : ℕ) → 101 ≤ n + d →
    Quiet n n (IsExtend s d) (nested (word_class (codes "extend") ∷ []) false [])
extend {n = n} s d h = as_reader (nest.extend s d).low (extend_parts s d h) (extend_is n s d h)

-- ---- enums

-- wrong from the name on, if something behind it is
unfoldable enum_value : {n : ℕ} (d : ℕ) → 101 ≤ n + d →
    Quiet n n (IsEnumValue d) nest.enum_value_shape
unfolding IsEnumValue
enum_value d h = from_start (shaped nest.enum_value_shape (at (λ place. do
  name ← flat part.value_name refl (balance.unless keeps.ident)
  flat (part.symbol char.equals) refl (balance.symbol char.equals refl)
  number ← flat part.enum_number refl keeps.enum_number
  options ← options d h
  give (record { place = place; name = name; number = number; options = options })) refl) refl)

unfoldable enum_statement : {n : ℕ} (d : ℕ) → 101 ≤ n + d →
    Quiet n n (IsEnumStatement d) nest.enum_statement_shape
unfolding IsEnumStatement
enum_statement d h = shaped nest.enum_statement_shape
    (choose (do r ← flat part.reserved refl keeps.reserved; give (tree.enum_reserved r)) refl
    (choose (do o ← option d h; give (tree.enum_option o)) refl
    (do v ← enum_value d h; give (tree.enum_value v)))) refl

unfoldable enum_items : {n : ℕ} (d : ℕ) → 101 ≤ n + d →
    Quiet n n (Statements (IsEnumStatement d))
    (nested nest.enum_firsts true (symbol_class char.open_bracket ∷ nest.enum_firsts))
enum_items d h =
    shaped (nested nest.enum_firsts true (symbol_class char.open_bracket ∷ nest.enum_firsts))
    (statements (shaped (nested nest.enum_firsts false (symbol_class char.open_bracket ∷ []))
    (item (enum_statement d h)) refl) refl) refl

unfoldable enum_parts : {n : ℕ} (d : ℕ) → 101 ≤ n + d →
    Quiet n n (IsEnum d) (nested (word_class (codes "enum") ∷ []) false [])
unfolding IsEnum
enum_parts {n = n} d h = shaped (nested (word_class (codes "enum") ∷ []) false []) (at (λ place. do
  flat (part.word (codes "enum")) refl keeps.word
  name ← flat part.ident refl keeps.ident
  body ← (do
    flat (part.symbol char.open_brace) refl (opening char.open_brace refl refl)
    body ← enum_items d (deeper n d h)
    flat (part.symbol char.close_brace) refl (closing char.close_brace refl refl)
    give body)
  give (record { place = place; name = name; body = body })) refl) refl

enum_is : (n d : ℕ) (h : 101 ≤ n + d) (ts : Rest Lexeme Place) →
    (nest.enumeration d).low.run ts ≡ (enum_parts d h).reader.run ts
unfolding enum_parts enum_items enum_statement enum_value nest.enumeration_pair nest.enum_items
    nest.enum_item nest.enum_statement nest.enum_value_parts
enum_is n d h ts = refl

abbrev enum : {n : ℕ} (d : ℕ) → 101 ≤ n + d →
    Quiet n n (IsEnum d) (nested (word_class (codes "enum") ∷ []) false [])
enum {n = n} d h = as_reader (nest.enumeration d).low (enum_parts d h) (enum_is n d h)

-- ---- messages

unfoldable message_statement_of : {n : ℕ} (s : Syntax) (d : ℕ) → 101 ≤ n + d →
    {M : List Lexeme → MessageSyntax → Type 0} → Quiet n n M nest.message_shape →
    Quiet n n (MessageStatementOf s d M)
    (nested (nest.statement_firsts s) false (nest.statement_goes s))
unfolding MessageStatementOf IsExtensionsIn
message_statement_of Proto2 d h m =
    shaped (nested (nest.statement_firsts Proto2) false (nest.statement_goes Proto2))
    (choose (do r ← flat part.reserved refl keeps.reserved; give (tree.message_reserved r)) refl
    (choose (do o ← oneof Proto2 d h; give (tree.message_oneof o)) refl
    (choose (do e ← extend Proto2 d h; give (tree.message_extend e)) refl
    (choose (do m ← m; give (tree.nested_message m)) refl
    (choose (do e ← enum d h; give (tree.message_enum e)) refl
    (choose (do
      e ← flat part.extensions refl keeps.extensions
      give (tree.message_extensions e)) refl
    (choose (do o ← option d h; give (tree.message_option o)) refl
    (do f ← field Proto2 d h; give (tree.message_field f))))))))) refl
message_statement_of Proto3 d h m =
    shaped (nested (nest.statement_firsts Proto3) false (nest.statement_goes Proto3))
    (choose (do r ← flat part.reserved refl keeps.reserved; give (tree.message_reserved r)) refl
    (choose (do o ← oneof Proto3 d h; give (tree.message_oneof o)) refl
    (choose (do e ← extend Proto3 d h; give (tree.message_extend e)) refl
    (choose (do m ← m; give (tree.nested_message m)) refl
    (choose (do e ← enum d h; give (tree.message_enum e)) refl
    (choose (do
      e ← flat {P = Any} nothing refl balance.never
      give (tree.message_extensions e)) refl
    (choose (do o ← option d h; give (tree.message_option o)) refl
    (do f ← field Proto3 d h; give (tree.message_field f))))))))) refl

unfoldable message_item_of : {n : ℕ} (s : Syntax) (d : ℕ) → 101 ≤ n + d →
    {M : List Lexeme → MessageSyntax → Type 0} → Quiet n n M nest.message_shape →
    Quiet n n (Item (MessageStatementOf s d M))
    (nested (symbol_class char.semicolon ∷ nest.statement_firsts s) false (nest.statement_goes s))
message_item_of Proto2 d h m =
    shaped (nested (symbol_class char.semicolon ∷ nest.statement_firsts Proto2) false
    (nest.statement_goes Proto2))
    (item (message_statement_of Proto2 d h m)) refl
message_item_of Proto3 d h m =
    shaped (nested (symbol_class char.semicolon ∷ nest.statement_firsts Proto3) false
    (nest.statement_goes Proto3))
    (item (message_statement_of Proto3 d h m)) refl

unfoldable message_items_of : {n : ℕ} (s : Syntax) (d : ℕ) → 101 ≤ n + d →
    {M : List Lexeme → MessageSyntax → Type 0} → Quiet n n M nest.message_shape →
    Quiet n n (Statements (MessageStatementOf s d M)) (nest.message_items_shape s)
message_items_of Proto2 d h m =
    shaped (nest.message_items_shape Proto2) (statements (message_item_of Proto2 d h m) refl) refl
message_items_of Proto3 d h m =
    shaped (nest.message_items_shape Proto3) (statements (message_item_of Proto3 d h m) refl) refl

unfoldable message_of : {n : ℕ} (s : Syntax) (d : ℕ) → 101 ≤ suc n + d →
    {M : List Lexeme → MessageSyntax → Type 0} → Quiet (suc n) (suc n) M nest.message_shape →
    Quiet n n (MessageOf s d M) nest.message_shape
unfolding MessageOf
message_of Proto2 d h m = shaped nest.message_shape (at (λ place. do
  flat (part.word (codes "message")) refl keeps.word
  name ← flat part.ident refl keeps.ident
  body ← (do
    flat (part.symbol char.open_brace) refl (opening char.open_brace refl refl)
    body ← message_items_of Proto2 d h m
    flat (part.symbol char.close_brace) refl (closing char.close_brace refl refl)
    give body)
  give (record { place = place; name = name; body = body })) refl) refl
message_of Proto3 d h m = shaped nest.message_shape (at (λ place. do
  flat (part.word (codes "message")) refl keeps.word
  name ← flat part.ident refl keeps.ident
  body ← (do
    flat (part.symbol char.open_brace) refl (opening char.open_brace refl refl)
    body ← message_items_of Proto3 d h m
    flat (part.symbol char.close_brace) refl (closing char.close_brace refl refl)
    give body)
  give (record { place = place; name = name; body = body })) refl) refl

message_is : (s : Syntax) (d n : ℕ) {M : List Lexeme → MessageSyntax → Type 0} (h : 0 ≤ d)
    (i : 101 ≤ suc n + d) (q : Quiet (suc n) (suc n) M nest.message_shape)
    (ts : Rest Lexeme Place) →
    (nest.message_of s d 0 h M M (both q.reader)).low.run ts ≡ (message_of s d i q).reader.run ts
unfolding message_of message_items_of message_item_of message_statement_of nest.message_of
    nest.message_items_of nest.message_item_of nest.message_statement_of
message_is Proto2 d n h i q ts = refl
message_is Proto3 d n h i q ts = refl

pub message_calm : (s : Syntax) (d n : ℕ) → 101 ≤ n + d → Calm n (nest.message s d).run
message_calm s zero n h =
    record { never = λ ts end fits e. let few = fits-now n ts fits in omega (arith, h, few) }
message_calm s (suc d) n h =
    let i : 101 ≤ suc n + d = omega (arith, h) in
    let inner : Quiet (suc n) (suc n) (IsMessage s d) nest.message_shape = record {
      reader = nest.message s d;
      calm = message_calm s d (suc n) i;
      keeps = any (keeps.message s d);
    } in
    record {
      never = λ ts end fits e.
          (message_of s d i inner).calm.never ts end fits
          (sym (level-suc refl (nest.message_of s) d (whole ts end)
          ∙ message_is s d n (none-le refl (nest.message_of s) d) i inner (whole ts end)) ∙ e);
    }

abbrev pub message : {n : ℕ} (s : Syntax) (d : ℕ) → 101 ≤ n + d →
    Quiet n n (IsMessage s d) nest.message_shape
message {n = n} s d h =
    record {
      reader = nest.message s d;
      calm = message_calm s d n h;
      keeps = any (keeps.message s d);
    }

-- ---- services

unfoldable option_body : {n : ℕ} (d : ℕ) → 101 ≤ n + d →
    Quiet n n (Braced (IsOption d)) (nested (symbol_class char.open_brace ∷ []) false [])
option_body {n = n} d h = shaped (nested (symbol_class char.open_brace ∷ []) false []) (do
  flat (part.symbol char.open_brace) refl (opening char.open_brace refl refl)
  options ← shaped nest.option_items_shape
      (statements (shaped nest.option_item_shape (item (option d (deeper n d h))) refl) refl) refl
  flat (part.symbol char.close_brace) refl (closing char.close_brace refl refl)
  give options) refl

unfoldable method_end : {n : ℕ} (d : ℕ) → 101 ≤ n + d →
    Quiet n n (IsMethodEnd d) nest.method_end_shape
unfolding IsMethodEnd
method_end d h =
    shaped nest.method_end_shape (choose
    (do flat (part.symbol char.semicolon) refl (balance.symbol char.semicolon refl); give []) refl
    (option_body d h)) refl

unfoldable rpc : {n : ℕ} (d : ℕ) → 101 ≤ n + d →
    Quiet n n (IsRpc d) (nested (word_class (codes "rpc") ∷ []) false [])
unfolding IsRpc
rpc d h = shaped (nested (word_class (codes "rpc") ∷ []) false []) (at (λ place. do
  flat (part.word (codes "rpc")) refl keeps.word
  name ← flat part.ident refl keeps.ident
  input ← flat part.streamed refl keeps.streamed
  flat (part.word (codes "returns")) refl keeps.word
  output ← flat part.streamed refl keeps.streamed
  options ← method_end d h
  give (record {
    place = place;
    name = name;
    input = input.1;
    output = output.1;
    client_streaming = input.0;
    server_streaming = output.0;
    options = options;
  })) refl) refl

unfoldable stream : {n : ℕ} (d : ℕ) → 101 ≤ n + d →
    Quiet n n (IsStream d) (nested (word_class (codes "stream") ∷ []) false [])
unfolding IsStream
stream d h = shaped (nested (word_class (codes "stream") ∷ []) false []) (at (λ place. do
  flat (part.word (codes "stream")) refl keeps.word
  method ← flat part.ident refl keeps.ident
  flat (part.symbol char.open_paren) refl (balance.symbol char.open_paren refl)
  input ← flat part.name refl keeps.name
  flat (part.symbol char.comma) refl (balance.symbol char.comma refl)
  output ← flat part.name refl keeps.name
  flat (part.symbol char.close_paren) refl (balance.symbol char.close_paren refl)
  options ← method_end d h
  give (record {
    place = place;
    name = method;
    input = input;
    output = output;
    client_streaming = true;
    server_streaming = true;
    options = options;
  })) refl) refl

unfoldable service_statement : {n : ℕ} (s : Syntax) (d : ℕ) → 101 ≤ n + d →
    Quiet n n (IsServiceStatement s d) (nested (nest.service_firsts s) false [])
unfolding IsServiceStatement IsStreamIn
service_statement Proto2 d h = shaped (nested (nest.service_firsts Proto2) false [])
    (choose (do m ← rpc d h; give (tree.service_method m)) refl
    (choose (do m ← stream d h; give (tree.service_method m)) refl
    (do o ← option d h; give (tree.service_option o)))) refl
service_statement Proto3 d h = shaped (nested (nest.service_firsts Proto3) false [])
    (choose (do m ← rpc d h; give (tree.service_method m)) refl
    (choose (do m ← flat {P = Any} nothing refl balance.never; give (tree.service_method m)) refl
    (do o ← option d h; give (tree.service_option o)))) refl

unfoldable service_items : {n : ℕ} (s : Syntax) (d : ℕ) → 101 ≤ n + d →
    Quiet n n (Statements (IsServiceStatement s d))
    (nested (symbol_class char.semicolon ∷ nest.service_firsts s) true
    (symbol_class char.semicolon ∷ nest.service_firsts s))
service_items Proto2 d h =
    shaped (nested (symbol_class char.semicolon ∷ nest.service_firsts Proto2) true
    (symbol_class char.semicolon ∷ nest.service_firsts Proto2))
    (statements (shaped
    (nested (symbol_class char.semicolon ∷ nest.service_firsts Proto2) false [])
    (item (service_statement Proto2 d h)) refl) refl) refl
service_items Proto3 d h =
    shaped (nested (symbol_class char.semicolon ∷ nest.service_firsts Proto3) true
    (symbol_class char.semicolon ∷ nest.service_firsts Proto3))
    (statements (shaped
    (nested (symbol_class char.semicolon ∷ nest.service_firsts Proto3) false [])
    (item (service_statement Proto3 d h)) refl) refl) refl

unfoldable service_block : {n : ℕ} (s : Syntax) (d : ℕ) → 101 ≤ n + d →
    Quiet n n (Braced (IsServiceStatement s d)) (nested (symbol_class char.open_brace ∷ []) false
    [])
service_block {n = n} Proto2 d h = shaped (nested (symbol_class char.open_brace ∷ []) false [])
    (do
      flat (part.symbol char.open_brace) refl (opening char.open_brace refl refl)
      body ← service_items Proto2 d (deeper n d h)
      flat (part.symbol char.close_brace) refl (closing char.close_brace refl refl)
      give body) refl
service_block {n = n} Proto3 d h = shaped (nested (symbol_class char.open_brace ∷ []) false [])
    (do
      flat (part.symbol char.open_brace) refl (opening char.open_brace refl refl)
      body ← service_items Proto3 d (deeper n d h)
      flat (part.symbol char.close_brace) refl (closing char.close_brace refl refl)
      give body) refl

unfoldable service_parts : {n : ℕ} (s : Syntax) (d : ℕ) → 101 ≤ n + d →
    Quiet n n (IsService s d) (nested (word_class (codes "service") ∷ []) false [])
unfolding IsService
service_parts {n = n} s d h = shaped (nested (word_class (codes "service") ∷ []) false [])
    (at (λ place. do
      flat (part.word (codes "service")) refl keeps.word
      name ← flat part.ident refl keeps.ident
      body ← service_block s d h
      give (record { place = place; name = name; body = body })) refl) refl

service_is : (n : ℕ) (s : Syntax) (d : ℕ) (h : 101 ≤ n + d) (ts : Rest Lexeme Place) →
    (nest.service s d).low.run ts ≡ (service_parts s d h).reader.run ts
unfolding service_parts service_block service_items service_statement rpc stream method_end
    option_body nest.service_pair nest.service_items nest.service_item nest.service_statement
    nest.rpc nest.stream nest.method_end nest.option_body nest.option_items nest.option_item
service_is n Proto2 d h ts = refl
service_is n Proto3 d h ts = refl

abbrev service : {n : ℕ} (s : Syntax) (d : ℕ) → 101 ≤ n + d →
    Quiet n n (IsService s d) (nested (word_class (codes "service") ∷ []) false [])
service {n = n} s d h = as_reader (nest.service s d).low (service_parts s d h) (service_is n s d h)

-- ---- files

unfoldable file_statement : {n : ℕ} (s : Syntax) (d : ℕ) → 101 ≤ n + d →
    Quiet n n (IsFileStatement s d) (nested nest.file_firsts false [])
unfolding IsFileStatement
file_statement s d h = shaped (nested nest.file_firsts false [])
    (choose (do i ← flat part.imported refl keeps.import_statement; give (tree.file_import i)) refl
    (choose (do
      p ← flat part.package_name refl keeps.package_statement
      give (tree.file_package p)) refl
    (choose (do o ← option d h; give (tree.file_option o)) refl
    (choose (do m ← message s d h; give (tree.file_message m)) refl
    (choose (do e ← enum d h; give (tree.file_enum e)) refl
    (choose (do e ← extend s d h; give (tree.file_extend e)) refl
    (do s ← service s d h; give (tree.file_service s)))))))) refl

unfoldable file_items : {n : ℕ} (s : Syntax) (d : ℕ) → 101 ≤ n + d →
    Quiet n n (Statements (IsFileStatement s d))
    (nested (symbol_class char.semicolon ∷ nest.file_firsts) true
    (symbol_class char.semicolon ∷ nest.file_firsts))
file_items s d h =
    shaped (nested (symbol_class char.semicolon ∷ nest.file_firsts) true
    (symbol_class char.semicolon ∷ nest.file_firsts))
    (statements (shaped (nested (symbol_class char.semicolon ∷ nest.file_firsts) false [])
    (item (file_statement s d h)) refl) refl) refl

unfoldable file_parts : (d : ℕ) → 101 ≤ 0 + d → Quiet 0 0 (IsFileOf d) nest.file_shape
unfolding IsFileOf
file_parts d h = shaped nest.file_shape (do
  syntax ← flat part.version_statement refl (balance.either keeps.syntax_statement done)
  statements ← file_items syntax d h
  give (record { syntax = syntax; statements = statements })) refl

file_is : (d : ℕ) (h : 101 ≤ 0 + d) (ts : Rest Lexeme Place) →
    (nest.file d).low.run ts ≡ (file_parts d h).reader.run ts
unfolding file_parts file_items file_statement nest.file nest.file_items nest.file_item
    nest.file_statement
file_is d h ts = refl

-- Of tokens that nest at most 100 deep, what is read with 101 levels or more is never too deep.
pub file_never_deep : (d : ℕ) → 101 ≤ d → (ts : List Lexeme) (end : Place) → IsShallow ts →
    (nest.file d).low.run (whole ts end) ≡ deep → ⊥
file_never_deep d h ts end shallow e =
    let k : 101 ≤ 0 + d = omega (arith, h) in
    (file_parts d k).calm.never ts end (fits-start ts shallow)
    (sym (file_is d k (whole ts end)) ∙ e)

pub enough_levels : (n : ℕ) → 101 ≤ n → (ts : List Lexeme) (end : Place) → IsShallow ts →
    Enough ts end n
enough_levels n h ts end shallow = λ j. file_never_deep (n + j) (omega (arith, h)) ts end shallow
