-- The grammar of the Protocol Buffers Language Specifications
-- (https://protobuf.dev/reference/protobuf/proto2-spec/ and
-- https://protobuf.dev/reference/protobuf/proto3-spec/): which tokens say which tree. Each
-- production is one relation, whose lines are its line of EBNF; the rules beside the EBNF are
-- conditions in it. A production that contains itself is counted by levels, and the language has
-- every number of them.
use Rattle.std.specs.Prelude.{◌≤◌, ℕ, zero, suc, ℤ, pos, negsuc, nat_le, ◌&&◌, List, [], ◌∷◌, ◌++◌}
use Rattle.std.specs.Prelude.{length, slice_index, Option, Some, None, Bool, true, false, cond}
use Rattle.std.specs.Prelude.{bytes_eq, codes}
use Rattle.protobuf_parse_grammar.specs.Relations.{Rel, Nothing, Such, Never, Level, One, Either}
use Rattle.protobuf_parse_grammar.specs.Relations.{Many, OneOrMore, Separated, Unless, At, somes}
use Rattle.protobuf_parse_grammar.specs.Relations.{◌>>=◌, ◌>>◌, AtSomeDepth}
use Rattle.protobuf_parse_base.specs.Paths.{IsProtoPath}
use Rattle.protobuf_parse_lexer.specs.Text.{Bytes}
use Rattle.protobuf_parse_base.specs.Characters as char
use Rattle.protobuf_parse_lexer.specs.Tokens.{Lexeme, DecodesAll, StandsFor, unquoted}
use Rattle.protobuf_parse_lexer.specs.Classes.{Class, sees, symbol, word, ident, integer}
use Rattle.protobuf_parse_lexer.specs.Classes.{text as string_token, is_ident_token, is_one_of}
use Rattle.protobuf_parse_lexer.specs.Classes.{words}
use Rattle.protobuf_parse_lexer.specs.declared.lexer.token.Place.{Place}
use Rattle.protobuf_parse_lexer.specs.declared.lexer.token.TokenKind.{TokenKind}
use Rattle.protobuf_parse_lexer.specs.declared.lexer.token.TokenKind.TheVariants as kind
use Rattle.protobuf_parse_syntax.specs.Trees as tree
use Rattle.protobuf_parse_syntax.specs.Trees.{Pieces, ConstantNameSyntax, ConstantSyntax}
use Rattle.protobuf_parse_syntax.specs.Trees.{ConstantFieldSyntax, OptionPartSyntax}
use Rattle.protobuf_parse_syntax.specs.Trees.{OptionNameSyntax, OptionSyntax, OptionStatementSyntax}
use Rattle.protobuf_parse_syntax.specs.Trees.{TypeSyntax, FieldStatementSyntax, RangeSyntax}
use Rattle.protobuf_parse_syntax.specs.Trees.{ReservedSyntax, ReservedStatementSyntax}
use Rattle.protobuf_parse_syntax.specs.Trees.{ExtensionsSyntax, OneofStatementSyntax, OneofSyntax}
use Rattle.protobuf_parse_syntax.specs.Trees.{ExtendSyntax, EnumValueSyntax, EnumStatementSyntax}
use Rattle.protobuf_parse_syntax.specs.Trees.{EnumSyntax, MessageStatementSyntax, MessageSyntax}
use Rattle.protobuf_parse_syntax.specs.Trees.{MethodSyntax, ServiceStatementSyntax, ServiceSyntax}
use Rattle.protobuf_parse_syntax.specs.Trees.{ImportSyntax, PackageSyntax, StatementSyntax}
use Rattle.protobuf_parse_syntax.specs.Trees.{FileSyntax}
use Rattle.protobuf_parse_syntax.specs.declared.tree.Syntax.{Syntax}
use Rattle.protobuf_parse_syntax.specs.declared.tree.Syntax.TheVariants.{Proto2, Proto3}
use Rattle.protobuf_parse_syntax.specs.declared.tree.ImportVis.{ImportVis}
use Rattle.protobuf_parse_syntax.specs.declared.tree.ImportVis.TheVariants as vis
use Rattle.protobuf_parse_syntax.specs.declared.tree.field.Label.{Label}
use Rattle.protobuf_parse_syntax.specs.declared.tree.field.Label.TheVariants as label
use Rattle.protobuf_parse_syntax.specs.declared.tree.field.Scalar.{Scalar}
use Rattle.protobuf_parse_syntax.specs.declared.tree.field.Scalar.TheVariants as scalar

-- ---- tokens

-- the value, if the test holds
abbrev pub if_so : {A : Type 0} → Bool → A → Option A
if_so b a = cond b (Some a) None

-- this symbol
abbrev pub IsSymbol : ℕ → Rel Lexeme (Unit {0})
IsSymbol c = One (λ t. if_so (sees (symbol c) t) tt)

-- this word
abbrev pub IsWord : Bytes → Rel Lexeme (Unit {0})
IsWord w = One (λ t. if_so (sees (word w) t) tt)

-- an identifier, which may be any word
abbrev pub any_ident : Lexeme → Option Bytes
any_ident t = if_so (sees (ident []) t) t.text

-- any identifier
abbrev pub IsIdent : Rel Lexeme Bytes
IsIdent = One any_ident

-- what a table has beside a word
abbrev pub lookup : {A : Type 0} → List (Bytes × A) → Bytes → Option A
lookup [] w = None
lookup (e ∷ es) w = cond (bytes_eq w e.0) (Some e.1) (lookup es w)

-- a word of the table, which says what is beside it
abbrev pub word_of : {A : Type 0} → List (Bytes × A) → Lexeme → Option A
word_of table t = cond (is_ident_token t.kind) (lookup table t.text) None

-- a word of the table
abbrev pub IsWordOf : {A : Type 0} → List (Bytes × A) → Rel Lexeme A
IsWordOf table = One (word_of table)

-- the words of a table
abbrev pub table_words : {A : Type 0} → List (Bytes × A) → List Bytes
table_words [] = []
table_words (e ∷ es) = e.0 ∷ table_words es

-- an integer
abbrev pub number_at : TokenKind → Option ℕ
number_at (kind.Integer n) = Some n
number_at _ = None

-- the number of an integer token
abbrev pub number : Lexeme → Option ℕ
number t = number_at t.kind

-- an integer of at most so much
abbrev pub small_at : ℕ → TokenKind → Option ℕ
small_at limit (kind.Integer n) = cond (nat_le n limit) (Some n) None
small_at limit _ = None

-- and of one that is at most so much
abbrev pub small_number : ℕ → Lexeme → Option ℕ
small_number limit t = small_at limit t.kind

-- an integer
abbrev pub IsNumber : Rel Lexeme ℕ
IsNumber = One number

-- an integer of at most so much
abbrev pub IsNumberUpTo : ℕ → Rel Lexeme ℕ
IsNumberUpTo limit = One (small_number limit)

-- the number with a minus sign
abbrev pub negative : ℕ → ℤ
negative zero = pos 0
negative (suc n) = negsuc n

-- a string token, of which this is the text between the quotes
abbrev pub piece_at : TokenKind → Bytes → Option Bytes
piece_at kind.Str z = Some (unquoted z)
piece_at _ z = None

-- the text between the quotes of a string token
abbrev pub string_piece : Lexeme → Option Bytes
string_piece t = piece_at t.kind t.text

-- where a token stands
abbrev pub place_of : Lexeme → Place
place_of t = t.place

-- ---- parts of productions

-- a separator ","
abbrev pub IsComma : Rel Lexeme (Unit {0})
IsComma = IsSymbol char.comma

-- at most so many such parts
abbrev pub AtMost : {A : Type 0} → ℕ → Rel Lexeme A → Rel Lexeme (List A)
AtMost limit R ts items = Many R ts items × (length items ≤ limit)

-- a statement, or nothing at a semicolon
abbrev pub Item : {A : Type 0} → Rel Lexeme A → Rel Lexeme (Option A)
Item R =
    Either (do IsSymbol char.semicolon; Nothing None) (do statement ← R; Nothing (Some statement))

-- { ";" | statement }
abbrev pub Statements : {A : Type 0} → Rel Lexeme A → Rel Lexeme (List A)
Statements R = do
  items ← Many (Item R)
  Nothing (somes items)

-- "{" { ";" | statement } "}"
abbrev pub Braced : {A : Type 0} → Rel Lexeme A → Rel Lexeme (List A)
Braced R = do
  IsSymbol char.open_brace
  statements ← Statements R
  IsSymbol char.close_brace
  Nothing statements

-- ---- str = string token { string token }

-- strings that stand side by side
unfoldable pub IsStr : Rel Lexeme Pieces
IsStr = OneOrMore (One string_piece)

-- ---- ident { "." ident }, and name = [ "." ] ident { "." ident }

-- each part behind a dot
abbrev pub dots : List Bytes → Bytes
dots [] = []
dots (part ∷ parts) = char.dot ∷ part ++ dots parts

-- a name without a dot before it
unfoldable pub IsDotted : Rel Lexeme Bytes
IsDotted = do
  first ← IsIdent
  others ← Many (do IsSymbol char.dot; IsIdent)
  Nothing (first ++ dots others)

-- the dot before a name, if one stands there
unfoldable pub IsRoot : Rel Lexeme Bytes
IsRoot = Either (do IsSymbol char.dot; Nothing (char.dot ∷ [])) (Nothing [])

-- a name, perhaps with a dot before it
unfoldable pub IsName : Rel Lexeme Bytes
IsName = do
  root ← IsRoot
  dotted ← IsDotted
  Nothing (root ++ dotted)

-- ---- constant = msgconst | list | "true" | "false" | [ "+" | "-" ] int | str
-- ----          | ident { "." ident }

-- the words of truth values
abbrev pub truth_words : List Bytes
truth_words = codes "true" ∷ codes "false" ∷ []

-- `-u` is an integer for u up to 9223372036854775808.
unfoldable pub IsInteger : Rel Lexeme ℤ
IsInteger =
    Either
    (do n ← IsNumber; Nothing (pos n))
    (Either
    (do IsSymbol char.plus; n ← IsNumber; Nothing (pos n))
    (do IsSymbol char.minus; n ← IsNumberUpTo 9223372036854775808; Nothing (negative n)))

-- cname = ident | "[" name "]" | "[" name "/" name "]"
unfoldable pub AfterSlash : Bytes → Rel Lexeme ConstantNameSyntax
AfterSlash name =
    Either
    (do IsSymbol char.slash; rest ← IsName; Nothing (tree.url_name (name ++ char.slash ∷ rest)))
    (Nothing (tree.extension_name name))

-- the name of an extension or a type URL, in brackets
unfoldable pub IsBracketedName : Rel Lexeme ConstantNameSyntax
IsBracketedName = do
  IsSymbol char.open_bracket
  first ← IsName
  name ← AfterSlash first
  IsSymbol char.close_bracket
  Nothing name

-- the name of a field of a message constant
unfoldable pub IsConstantName : Rel Lexeme ConstantNameSyntax
IsConstantName = Either (do name ← IsIdent; Nothing (tree.regular_name name)) IsBracketedName

-- no more, or "," or ";"
unfoldable pub IsFieldEnd : Rel Lexeme (Unit {0})
IsFieldEnd = Either (IsSymbol char.comma) (Either (IsSymbol char.semicolon) (Nothing tt))

-- with what a constant begins, if it is no message constant
abbrev pub other_constants : List Class
other_constants =
    symbol char.open_bracket ∷ ident [] ∷ integer ∷ symbol char.plus ∷ symbol char.minus
    ∷ string_token ∷ []

-- cname ( ":" constant | msgconst ) [ "," | ";" ], with the constants inside by C
unfoldable pub ConstantFieldOf : Rel Lexeme ConstantSyntax → Rel Lexeme ConstantFieldSyntax
ConstantFieldOf C = do
  name ← IsConstantName
  value ← Either (do IsSymbol char.colon; C) (Unless (is_one_of other_constants) C)
  IsFieldEnd
  Nothing (record { name = name; value = value })

-- msgconst = "{" { cname ( ":" constant | msgconst ) [ "," | ";" ] } "}"
unfoldable pub MessageConstantOf : Rel Lexeme ConstantSyntax → Rel Lexeme ConstantSyntax
MessageConstantOf C = do
  IsSymbol char.open_brace
  fields ← Many (ConstantFieldOf C)
  IsSymbol char.close_brace
  Nothing (tree.fields (tree.constant_fields fields))

-- list = "[" "]" | "[" constant { "," constant } "]"
unfoldable pub ListOf : Rel Lexeme ConstantSyntax → Rel Lexeme ConstantSyntax
ListOf C = do
  IsSymbol char.open_bracket
  items ← Either (Separated IsComma C) (Nothing [])
  IsSymbol char.close_bracket
  Nothing (tree.list (tree.constants items))

-- A constant that begins with `true` or `false` is that truth value.
unfoldable pub IsWordConstant : Rel Lexeme ConstantSyntax
IsWordConstant =
    Either (do IsWord (codes "true"); Nothing (tree.truth true))
    (Either (do IsWord (codes "false"); Nothing (tree.truth false))
    (do name ← Unless (is_one_of (words truth_words)) IsDotted; Nothing (tree.dotted name)))

-- a constant, with the constants inside by C
unfoldable pub ConstantOf : Rel Lexeme ConstantSyntax → Rel Lexeme ConstantSyntax
ConstantOf C =
    Either (MessageConstantOf C)
    (Either (ListOf C)
    (Either IsWordConstant
    (Either (do n ← IsInteger; Nothing (tree.integer n))
    (do s ← IsStr; Nothing (tree.string s)))))

-- of at most so many levels
abbrev pub IsConstant : ℕ → Rel Lexeme ConstantSyntax
IsConstant = Level (λ n. ConstantOf)

-- ---- option = "option" optname "=" constant ";"

-- optpart = ident | "(" name ")"
unfoldable pub IsOptionPart : Rel Lexeme OptionPartSyntax
IsOptionPart =
    Either
    (do name ← IsIdent; Nothing (tree.direct name))
    (do
      IsSymbol char.open_paren
      name ← IsName
      IsSymbol char.close_paren
      Nothing (tree.extension name))

-- An option name of one direct part is built in, any other is custom.
abbrev pub option_name : OptionPartSyntax → List OptionPartSyntax → OptionNameSyntax
option_name (tree.direct name) [] = tree.builtin name
option_name part parts = tree.custom (part ∷ parts)

-- a further part of an option's name
unfoldable pub IsNextPart : Rel Lexeme OptionPartSyntax
IsNextPart = do IsSymbol char.dot; IsOptionPart

-- optname = optpart { "." optpart }, of at most 100 parts
unfoldable pub IsOptionName : Rel Lexeme OptionNameSyntax
IsOptionName = do
  first ← IsOptionPart
  others ← AtMost 99 IsNextPart
  Nothing (option_name first others)

-- optname "=" constant
unfoldable pub IsAssignment : ℕ → Rel Lexeme OptionSyntax
IsAssignment n = At place_of λ place. do
  name ← IsOptionName
  IsSymbol char.equals
  value ← IsConstant n
  Nothing (record { place = place; name = name; value = value })

-- an option as a statement
unfoldable pub IsOption : ℕ → Rel Lexeme OptionStatementSyntax
IsOption n = At place_of λ place. do
  IsWord (codes "option")
  option ← IsAssignment n
  IsSymbol char.semicolon
  Nothing (record { place = place; option = option })

-- [ options ], options = "[" optname "=" constant { "," optname "=" constant } "]"
unfoldable pub AreOptions : ℕ → Rel Lexeme (List OptionSyntax)
AreOptions n =
    Either
    (do
      IsSymbol char.open_bracket
      options ← Separated IsComma (IsAssignment n)
      IsSymbol char.close_bracket
      Nothing options)
    (Nothing [])

-- ---- type = scalar | "map" "<" type "," type ">" | name

-- the words of scalar types
abbrev pub scalars : List (Bytes × Scalar)
scalars =
    (codes "int32", scalar.Int32) ∷ (codes "int64", scalar.Int64) ∷ (codes "uint32", scalar.Uint32)
    ∷ (codes "uint64", scalar.Uint64) ∷ (codes "sint32", scalar.Sint32)
    ∷ (codes "sint64", scalar.Sint64) ∷ (codes "fixed32", scalar.Fixed32)
    ∷ (codes "sfixed32", scalar.Sfixed32) ∷ (codes "fixed64", scalar.Fixed64)
    ∷ (codes "sfixed64", scalar.Sfixed64)
    ∷ (codes "bool", scalar.Bool) ∷ (codes "string", scalar.String) ∷ (codes "bytes", scalar.Bytes)
    ∷ (codes "float", scalar.Float) ∷ (codes "double", scalar.Double) ∷ []

-- a map, with the types inside by T
unfoldable pub MapOf : Rel Lexeme TypeSyntax → Rel Lexeme TypeSyntax
MapOf T = do
  IsWord (codes "map")
  IsSymbol char.less
  key ← T
  IsComma
  value ← T
  IsSymbol char.greater
  Nothing (tree.map_of key value)

-- A type that begins with a scalar word or `map` is that scalar or a map. With the types inside by
-- T.
unfoldable pub TypeOf : Rel Lexeme TypeSyntax → Rel Lexeme TypeSyntax
TypeOf T =
    Either (do s ← IsWordOf scalars; Nothing (tree.scalar s))
    (Either (MapOf T)
    (do
      name ← Unless (is_one_of (words (codes "map" ∷ table_words scalars))) IsName
      Nothing (tree.named name)))

-- of at most so many levels
abbrev pub IsType : ℕ → Rel Lexeme TypeSyntax
IsType = Level (λ n. TypeOf)

-- ---- field = [ label ] type ident "=" int [ options ] ";"
-- ----       | [ label ] "group" ident "=" int "{" { ";" | field } "}"

-- the words of labels
abbrev pub labels : List (Bytes × Label)
labels =
    (codes "optional", label.Optional) ∷ (codes "required", label.Required)
    ∷ (codes "repeated", label.Repeated) ∷ []

-- In proto3 the label `required` is refused.
abbrev pub labels3 : List (Bytes × Label)
labels3 = (codes "optional", label.Optional) ∷ (codes "repeated", label.Repeated) ∷ []

-- with these words no field begins
abbrev pub statement_words : List Bytes
statement_words =
    codes "reserved" ∷ codes "oneof" ∷ codes "extend" ∷ codes "message" ∷ codes "enum"
    ∷ codes "extensions" ∷ codes "option" ∷ []

-- a number of at most 2147483647
unfoldable pub IsFieldNumber : Rel Lexeme ℤ
IsFieldNumber = do n ← IsNumberUpTo 2147483647; Nothing (pos n)

-- a group's name begins with an ASCII capital
abbrev pub is_capital : ℕ → Bool
is_capital c = nat_le char.capital_a c && nat_le c char.capital_z

-- an identifier with such a first character
abbrev pub capital_ident : Lexeme → Option Bytes
capital_ident t = cond (is_capital (slice_index t.text 0)) (any_ident t) None

-- the word `group`, and such an identifier
abbrev pub IsGroupName : Rel Lexeme Bytes
IsGroupName = do IsWord (codes "group"); One capital_ident

-- a field of such a type
unfoldable pub NormalFieldOf :
    ℕ → Rel Lexeme TypeSyntax → Place → Option Label → Rel Lexeme FieldStatementSyntax
NormalFieldOf n T place label = do
  type_ ← T
  name ← IsIdent
  IsSymbol char.equals
  number ← IsFieldNumber
  options ← AreOptions n
  IsSymbol char.semicolon
  Nothing (tree.field (record {
    place = place;
    label = label;
    type_ = type_;
    name = name;
    number = number;
    options = options;
  }))

-- a group, with the fields inside by F
unfoldable pub GroupOf :
    Rel Lexeme FieldStatementSyntax → Place → Option Label → Rel Lexeme FieldStatementSyntax
GroupOf F place label = do
  name ← IsGroupName
  IsSymbol char.equals
  number ← IsFieldNumber
  fields ← Braced F
  Nothing (tree.group_of (record {
    place = place;
    label = label;
    name = name;
    number = number;
    fields = fields;
  }))

-- After the optional label the word `group` begins a group.
unfoldable pub AfterLabel :
    ℕ → Rel Lexeme FieldStatementSyntax → Place → Option Label → Rel Lexeme FieldStatementSyntax
AfterLabel n F place label =
    Either
    (GroupOf F place label)
    (NormalFieldOf n (Unless (is_one_of (words (codes "group" ∷ []))) (IsType n)) place label)

-- A field of a message, a group or an `extend`. A label word that begins a field is its label. In
-- proto2 every field has a label, unless it begins with `map`.
unfoldable pub FieldOf :
    Syntax → ℕ → Rel Lexeme FieldStatementSyntax → Rel Lexeme FieldStatementSyntax
FieldOf Proto2 n F = At place_of λ place.
    Either (do l ← IsWordOf labels; AfterLabel (suc n) F place (Some l))
    (NormalFieldOf (suc n) (MapOf (IsType n)) place None)
FieldOf Proto3 n F = At place_of λ place.
    Either (do l ← IsWordOf labels3; AfterLabel (suc n) F place (Some l))
    (Unless (is_one_of (words (table_words labels ++ statement_words)))
    (AfterLabel (suc n) F place None))

-- of at most so many levels
abbrev pub IsField : Syntax → ℕ → Rel Lexeme FieldStatementSyntax
IsField syntax = Level (FieldOf syntax)

-- ---- oneof = "oneof" ident "{" { ";" | option | field } "}"

-- Directly in a oneof no label stands, and no field begins with `map`. The body of a group is that
-- of any other.
unfoldable pub IsOneofField : Syntax → ℕ → Rel Lexeme FieldStatementSyntax
IsOneofField syntax n = At place_of λ place.
    Unless (is_one_of (words (codes "map" ∷ table_words labels ++ statement_words)))
    (AfterLabel n (IsField syntax n) place None)

-- a statement of a oneof
unfoldable pub IsOneofStatement : Syntax → ℕ → Rel Lexeme OneofStatementSyntax
IsOneofStatement syntax n =
    Either
    (do o ← IsOption n; Nothing (tree.oneof_option o))
    (do f ← IsOneofField syntax n; Nothing (tree.oneof_field f))

-- a oneof, with its body
unfoldable pub IsOneof : Syntax → ℕ → Rel Lexeme OneofSyntax
IsOneof syntax n = At place_of λ place. do
  IsWord (codes "oneof")
  name ← IsIdent
  body ← Braced (IsOneofStatement syntax n)
  Nothing (record { place = place; name = name; body = body })

-- ---- extend = "extend" name "{" { ";" | field } "}"

-- an `extend`, with its body
unfoldable pub IsExtend : Syntax → ℕ → Rel Lexeme ExtendSyntax
IsExtend syntax n = At place_of λ place. do
  IsWord (codes "extend")
  extendee ← IsName
  fields ← Braced (IsField syntax n)
  Nothing (record { place = place; extendee = extendee; fields = fields })

-- ---- range = int [ "to" ( int | "max" ) ]

-- Range ends are at most 2147483647; `max` is 536870911; the first may be above the last.
unfoldable pub IsRangeEnd : ℤ → Rel Lexeme ℤ
IsRangeEnd from =
    Either
    (do
      IsWord (codes "to")
      Either IsFieldNumber (do IsWord (codes "max"); Nothing (pos 536870911)))
    (Nothing from)

-- numbers of fields or values, from one to another or one alone
unfoldable pub IsRange : Rel Lexeme RangeSyntax
IsRange = do
  from ← IsFieldNumber
  to ← IsRangeEnd from
  Nothing (record { from = from; to = to })

-- ---- reserved = "reserved" ( str { "," str } | range { "," range } ) ";"

-- Each reserved name decodes to a text.
unfoldable pub IsReservedName : Rel Lexeme Bytes
IsReservedName = do
  pieces ← IsStr
  text ← Such (StandsFor pieces)
  Nothing text

-- names, or ranges
unfoldable pub AreReserved : Rel Lexeme ReservedSyntax
AreReserved =
    Either
    (do names ← Separated IsComma IsReservedName; Nothing (tree.reserved_names names))
    (do ranges ← Separated IsComma IsRange; Nothing (tree.reserved_ranges ranges))

-- a `reserved` statement
unfoldable pub IsReserved : Rel Lexeme ReservedStatementSyntax
IsReserved = At place_of λ place. do
  IsWord (codes "reserved")
  reserved ← AreReserved
  IsSymbol char.semicolon
  Nothing (record { place = place; reserved = reserved })

-- ---- extensions = "extensions" range { "," range }

-- an `extensions` statement
unfoldable pub IsExtensions : Rel Lexeme ExtensionsSyntax
IsExtensions = At place_of λ place. do
  IsWord (codes "extensions")
  ranges ← Separated IsComma IsRange
  Nothing (record { place = place; ranges = ranges })

-- ---- enum = "enum" ident "{" { ";" | reserved | option | value } "}"

-- from -2147483648 to 2147483647
unfoldable pub IsEnumNumber : Rel Lexeme ℤ
IsEnumNumber =
    Either IsFieldNumber (do IsSymbol char.minus; n ← IsNumberUpTo 2147483648; Nothing (negative n))

-- value = ident "=" [ "-" ] int [ options ]. An enum value doesn't begin with `reserved` or
-- `option`.
unfoldable pub IsEnumValue : ℕ → Rel Lexeme EnumValueSyntax
IsEnumValue n = At place_of λ place. do
  name ← Unless (is_one_of (words (codes "reserved" ∷ codes "option" ∷ []))) IsIdent
  IsSymbol char.equals
  number ← IsEnumNumber
  options ← AreOptions n
  Nothing (record { place = place; name = name; number = number; options = options })

-- a statement of an enum
unfoldable pub IsEnumStatement : ℕ → Rel Lexeme EnumStatementSyntax
IsEnumStatement n =
    Either (do r ← IsReserved; Nothing (tree.enum_reserved r))
    (Either (do o ← IsOption n; Nothing (tree.enum_option o))
    (do v ← IsEnumValue n; Nothing (tree.enum_value v)))

-- an enum, with its body
unfoldable pub IsEnum : ℕ → Rel Lexeme EnumSyntax
IsEnum n = At place_of λ place. do
  IsWord (codes "enum")
  name ← IsIdent
  body ← Braced (IsEnumStatement n)
  Nothing (record { place = place; name = name; body = body })

-- ---- message = "message" ident "{" { ";" | reserved | oneof | extend | message
-- ----           | enum | extensions | option | field } "}"

-- `extensions` stands in proto2 files only.
unfoldable pub IsExtensionsIn : Syntax → Rel Lexeme ExtensionsSyntax
IsExtensionsIn Proto2 = IsExtensions
IsExtensionsIn Proto3 = Never

-- with the messages inside by M
unfoldable pub MessageStatementOf :
    Syntax → ℕ → Rel Lexeme MessageSyntax → Rel Lexeme MessageStatementSyntax
MessageStatementOf syntax n M =
    Either (do r ← IsReserved; Nothing (tree.message_reserved r))
    (Either (do o ← IsOneof syntax n; Nothing (tree.message_oneof o))
    (Either (do e ← IsExtend syntax n; Nothing (tree.message_extend e))
    (Either (do m ← M; Nothing (tree.nested_message m))
    (Either (do e ← IsEnum n; Nothing (tree.message_enum e))
    (Either (do e ← IsExtensionsIn syntax; Nothing (tree.message_extensions e))
    (Either (do o ← IsOption n; Nothing (tree.message_option o))
    (do f ← IsField syntax n; Nothing (tree.message_field f))))))))

-- a message, with its body, the messages in which are by M
unfoldable pub MessageOf : Syntax → ℕ → Rel Lexeme MessageSyntax → Rel Lexeme MessageSyntax
MessageOf syntax n M = At place_of λ place. do
  IsWord (codes "message")
  name ← IsIdent
  body ← Braced (MessageStatementOf syntax n M)
  Nothing (record { place = place; name = name; body = body })

-- of at most so many levels
abbrev pub IsMessage : Syntax → ℕ → Rel Lexeme MessageSyntax
IsMessage syntax = Level (MessageOf syntax)

-- ---- service = "service" ident "{" { rpc | stream | option | ";" } "}"

-- end = ";" | "{" { option | ";" } "}"
unfoldable pub IsMethodEnd : ℕ → Rel Lexeme (List OptionStatementSyntax)
IsMethodEnd n = Either (do IsSymbol char.semicolon; Nothing []) (Braced (IsOption n))

-- "(" [ "stream" ] name ")". The word `stream` after the bracket is always the keyword.
unfoldable pub IsStreamed : Rel Lexeme (Bool × Bytes)
IsStreamed = do
  IsSymbol char.open_paren
  type_ ←
      Either
      (do IsWord (codes "stream"); name ← IsName; Nothing (true, name))
      (do name ← Unless (is_one_of (words (codes "stream" ∷ []))) IsName; Nothing (false, name))
  IsSymbol char.close_paren
  Nothing type_

-- rpc = "rpc" ident "(" [ "stream" ] name ")" "returns" "(" [ "stream" ] name ")" end
unfoldable pub IsRpc : ℕ → Rel Lexeme MethodSyntax
IsRpc n = At place_of λ place. do
  IsWord (codes "rpc")
  name ← IsIdent
  input ← IsStreamed
  IsWord (codes "returns")
  output ← IsStreamed
  options ← IsMethodEnd n
  Nothing (record {
    place = place;
    name = name;
    input = input.1;
    output = output.1;
    client_streaming = input.0;
    server_streaming = output.0;
    options = options;
  })

-- stream = "stream" ident "(" name "," name ")" end. It sets both.
unfoldable pub IsStream : ℕ → Rel Lexeme MethodSyntax
IsStream n = At place_of λ place. do
  IsWord (codes "stream")
  name ← IsIdent
  IsSymbol char.open_paren
  input ← IsName
  IsComma
  output ← IsName
  IsSymbol char.close_paren
  options ← IsMethodEnd n
  Nothing (record {
    place = place;
    name = name;
    input = input;
    output = output;
    client_streaming = true;
    server_streaming = true;
    options = options;
  })

-- `stream`, as a statement, stands in proto2 files only.
unfoldable pub IsStreamIn : Syntax → ℕ → Rel Lexeme MethodSyntax
IsStreamIn Proto2 n = IsStream n
IsStreamIn Proto3 n = Never

-- a statement of a service
unfoldable pub IsServiceStatement : Syntax → ℕ → Rel Lexeme ServiceStatementSyntax
IsServiceStatement syntax n =
    Either (do m ← IsRpc n; Nothing (tree.service_method m))
    (Either (do m ← IsStreamIn syntax n; Nothing (tree.service_method m))
    (do o ← IsOption n; Nothing (tree.service_option o)))

-- a service, with its body
unfoldable pub IsService : Syntax → ℕ → Rel Lexeme ServiceSyntax
IsService syntax n = At place_of λ place. do
  IsWord (codes "service")
  name ← IsIdent
  body ← Braced (IsServiceStatement syntax n)
  Nothing (record { place = place; name = name; body = body })

-- ---- syntax = "syntax" "=" str ";"

-- what `syntax` calls the language
abbrev pub name_of : Syntax → Bytes
name_of Proto2 = codes "proto2"
name_of Proto3 = codes "proto3"

-- The decoded text of `syntax` is `proto2` or `proto3`.
abbrev pub SaysVersion : Pieces → Syntax → Type 0
SaysVersion pieces syntax = DecodesAll pieces (name_of syntax)

-- the text of `syntax`
unfoldable pub IsVersion : Rel Lexeme Syntax
IsVersion = do
  pieces ← IsStr
  syntax ← Such (SaysVersion pieces)
  Nothing syntax

-- the `syntax` statement
unfoldable pub IsSyntax : Rel Lexeme Syntax
IsSyntax = do
  IsWord (codes "syntax")
  IsSymbol char.equals
  syntax ← IsVersion
  IsSymbol char.semicolon
  Nothing syntax

-- ---- import = "import" [ "weak" | "public" ] str ";"

-- the word behind `import`
unfoldable pub IsVisibility : Rel Lexeme ImportVis
IsVisibility =
    Either
    (do IsWord (codes "weak"); Nothing vis.Weak)
    (Either (do IsWord (codes "public"); Nothing vis.Public) (Nothing vis.Default))

-- The decoded text of `import` is a proto path.
abbrev pub SaysPath : Pieces → Bytes → Type 0
SaysPath pieces path = StandsFor pieces path × IsProtoPath path

-- the text of `import`
unfoldable pub IsPath : Rel Lexeme Bytes
IsPath = do
  pieces ← IsStr
  path ← Such (SaysPath pieces)
  Nothing path

-- an `import` statement
unfoldable pub IsImport : Rel Lexeme ImportSyntax
IsImport = At place_of λ place. do
  IsWord (codes "import")
  vis ← IsVisibility
  path ← IsPath
  IsSymbol char.semicolon
  Nothing (record { place = place; vis = vis; path = path })

-- ---- package = "package" ident { "." ident } ";"

-- a `package` statement
unfoldable pub IsPackage : Rel Lexeme PackageSyntax
IsPackage = At place_of λ place. do
  IsWord (codes "package")
  name ← IsDotted
  IsSymbol char.semicolon
  Nothing (record { place = place; name = name })

-- ---- file = [ syntax ] { import | package | option | message | enum | extend | service | ";" }

-- a statement of a file
unfoldable pub IsFileStatement : Syntax → ℕ → Rel Lexeme StatementSyntax
IsFileStatement syntax n =
    Either (do i ← IsImport; Nothing (tree.file_import i))
    (Either (do p ← IsPackage; Nothing (tree.file_package p))
    (Either (do o ← IsOption n; Nothing (tree.file_option o))
    (Either (do m ← IsMessage syntax n; Nothing (tree.file_message m))
    (Either (do e ← IsEnum n; Nothing (tree.file_enum e))
    (Either (do e ← IsExtend syntax n; Nothing (tree.file_extend e))
    (do s ← IsService syntax n; Nothing (tree.file_service s)))))))

-- Without the `syntax` statement the file is proto2. Of at most so many levels.
unfoldable pub IsFileOf : ℕ → Rel Lexeme FileSyntax
IsFileOf n = do
  syntax ← Either IsSyntax (Nothing Proto2)
  statements ← Statements (IsFileStatement syntax n)
  Nothing (record { syntax = syntax; statements = statements })

-- a file, however deep its parts nest
abbrev pub IsFile : Rel Lexeme FileSyntax
IsFile = AtSomeDepth IsFileOf
