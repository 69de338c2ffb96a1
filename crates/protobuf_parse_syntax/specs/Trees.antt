-- What a text says, without where it lies in memory: a record or a data type for each type of the
-- tree.
use Rattle.std.specs.Prelude.{ℤ, pos, Bool, List, [], ◌∷◌, map, fold, Option, Some, None}
use Rattle.std.specs.Prelude.{string_bytes}
use Rattle.protobuf_parse_base.specs.DeclaredNames.{name_bytes}
use Rattle.protobuf_parse_base.specs.PathViews.{path_buf_text}
use Rattle.protobuf_parse_lexer.specs.Text.{Bytes}
use Rattle.protobuf_parse_lexer.specs.declared.lexer.token.Place.{Place}
use Rattle.protobuf_parse_lexer.specs.declared.lexer.str_lit.StrLit.{StrLit}
use Rattle.protobuf_parse_syntax.specs.declared.tree.Syntax.{Syntax}
use Rattle.protobuf_parse_syntax.specs.declared.tree.ImportVis.{ImportVis}
use Rattle.protobuf_parse_syntax.specs.declared.tree.Import.{Import}
use Rattle.protobuf_parse_syntax.specs.declared.tree.Package.{Package}
use Rattle.protobuf_parse_syntax.specs.declared.tree.FileStatement.{FileStatement}
use Rattle.protobuf_parse_syntax.specs.declared.tree.FileStatement.TheVariants as file_statement
use Rattle.protobuf_parse_syntax.specs.declared.tree.FileTree.{FileTree}
use Rattle.protobuf_parse_syntax.specs.declared.tree.constant.ProtobufConstant.{ProtobufConstant}
use Rattle.protobuf_parse_syntax.specs.declared.tree.constant.ProtobufConstant.{fold-ProtobufConstant}
use Rattle.protobuf_parse_syntax.specs.declared.tree.constant.ProtobufConstant.TheOpen.{ProtobufConstant-F}
use Rattle.protobuf_parse_syntax.specs.declared.tree.constant.ProtobufConstant.TheOpen.{ConstantField-F}
use Rattle.protobuf_parse_syntax.specs.declared.tree.constant.ConstantFieldName.{ConstantFieldName}
use Rattle.protobuf_parse_syntax.specs.declared.tree.constant.ConstantFieldName.TheVariants as constant_name
use Rattle.protobuf_parse_syntax.specs.declared.tree.option.ProtobufOptionNamePart.{ProtobufOptionNamePart}
use Rattle.protobuf_parse_syntax.specs.declared.tree.option.ProtobufOptionNamePart.TheVariants as option_part
use Rattle.protobuf_parse_syntax.specs.declared.tree.option.ProtobufOptionName.{ProtobufOptionName}
use Rattle.protobuf_parse_syntax.specs.declared.tree.option.ProtobufOptionName.TheVariants as option_name
use Rattle.protobuf_parse_syntax.specs.declared.tree.option.ProtobufOption.{ProtobufOption}
use Rattle.protobuf_parse_syntax.specs.declared.tree.option.OptionStatement.{OptionStatement}
use Rattle.protobuf_parse_syntax.specs.declared.tree.field.Label.{Label}
use Rattle.protobuf_parse_syntax.specs.declared.tree.field.Scalar.{Scalar}
use Rattle.protobuf_parse_syntax.specs.declared.tree.field.Type.{«Type», fold-Type}
use Rattle.protobuf_parse_syntax.specs.declared.tree.field.Type.TheOpen.{Type-F}
use Rattle.protobuf_parse_syntax.specs.declared.tree.field.Field.{Field}
use Rattle.protobuf_parse_syntax.specs.declared.tree.field.FieldStatement.{FieldStatement}
use Rattle.protobuf_parse_syntax.specs.declared.tree.field.FieldStatement.{fold-FieldStatement}
use Rattle.protobuf_parse_syntax.specs.declared.tree.field.FieldStatement.TheOpen.{FieldStatement-F}
use Rattle.protobuf_parse_syntax.specs.declared.tree.field.FieldStatement.TheOpen.{Group-F}
use Rattle.protobuf_parse_syntax.specs.declared.tree.declaration.FieldNumberRange.{FieldNumberRange}
use Rattle.protobuf_parse_syntax.specs.declared.tree.declaration.Reserved.{Reserved}
use Rattle.protobuf_parse_syntax.specs.declared.tree.declaration.Reserved.TheVariants as reserved
use Rattle.protobuf_parse_syntax.specs.declared.tree.declaration.ReservedStatement.{ReservedStatement}
use Rattle.protobuf_parse_syntax.specs.declared.tree.declaration.Extensions.{Extensions}
use Rattle.protobuf_parse_syntax.specs.declared.tree.declaration.OneOf.{OneOf}
use Rattle.protobuf_parse_syntax.specs.declared.tree.declaration.OneOfStatement.{OneOfStatement}
use Rattle.protobuf_parse_syntax.specs.declared.tree.declaration.OneOfStatement.TheVariants as oneof_statement
use Rattle.protobuf_parse_syntax.specs.declared.tree.declaration.Extend.{Extend}
use Rattle.protobuf_parse_syntax.specs.declared.tree.declaration.Enumeration.{Enumeration}
use Rattle.protobuf_parse_syntax.specs.declared.tree.declaration.EnumStatement.{EnumStatement}
use Rattle.protobuf_parse_syntax.specs.declared.tree.declaration.EnumStatement.TheVariants as enum_statement
use Rattle.protobuf_parse_syntax.specs.declared.tree.declaration.EnumValue.{EnumValue}
use Rattle.protobuf_parse_syntax.specs.declared.tree.declaration.Method.{Method}
use Rattle.protobuf_parse_syntax.specs.declared.tree.declaration.Service.{Service}
use Rattle.protobuf_parse_syntax.specs.declared.tree.declaration.ServiceStatement.{ServiceStatement}
use Rattle.protobuf_parse_syntax.specs.declared.tree.declaration.ServiceStatement.TheVariants as service_statement
use Rattle.protobuf_parse_syntax.specs.declared.tree.declaration.Message.{Message, fold-Message}
use Rattle.protobuf_parse_syntax.specs.declared.tree.declaration.MessageStatement.TheOpen.{MessageStatement-F}
use Rattle.protobuf_parse_syntax.specs.declared.tree.declaration.MessageStatement.TheOpen.{Message-F}

-- ---- strings

-- the text between the quotes of each of several neighbouring strings
abbrev pub Pieces : Type 0
Pieces = List Bytes

-- the pieces of a literal in the tree
abbrev pub pieces_of : StrLit → Pieces
pieces_of s = map string_bytes s.pieces.items

-- ---- constants

-- the name of a field in a message constant: direct, or in brackets the name of an extension or a
-- type URL
pub data ConstantNameSyntax : Type 0 where
  regular_name : Bytes → ConstantNameSyntax
  extension_name : Bytes → ConstantNameSyntax
  url_name : Bytes → ConstantNameSyntax

mutual
  -- a constant: an integer; `true` or `false`; a name, as of an enum's value; a string; a list; a
  -- message, by its fields
  pub data ConstantSyntax : Type 0 where
    integer : ℤ → ConstantSyntax
    truth : Bool → ConstantSyntax
    dotted : Bytes → ConstantSyntax
    string : Pieces → ConstantSyntax
    list : ConstantList → ConstantSyntax
    fields : ConstantFieldList → ConstantSyntax

  -- constants, as a list of them
  pub data ConstantList : Type 0 where
    no_constants : ConstantList
    more_constants : ConstantSyntax → ConstantList → ConstantList

  -- the fields of a message constant
  pub data ConstantFieldList : Type 0 where
    no_fields : ConstantFieldList
    more_fields : ConstantNameSyntax → ConstantSyntax → ConstantFieldList → ConstantFieldList

-- a field of a message constant
pub record ConstantFieldSyntax : Type 0 where
  pub name : ConstantNameSyntax
  pub value : ConstantSyntax

-- a list as such a list
abbrev pub constants : List ConstantSyntax → ConstantList
constants [] = no_constants
constants (c ∷ cs) = more_constants c (constants cs)

-- fields as such a list
abbrev pub constant_fields : List ConstantFieldSyntax → ConstantFieldList
constant_fields [] = no_fields
constant_fields (f ∷ fs) = more_fields f.name f.value (constant_fields fs)

-- what such a name in the tree says
abbrev pub constant_name_syntax : ConstantFieldName → ConstantNameSyntax
constant_name_syntax (constant_name.Regular n) = regular_name (name_bytes n)
constant_name_syntax (constant_name.Extension n) = extension_name (string_bytes n)
constant_name_syntax (constant_name.AnyUrl n) = url_name (string_bytes n)

-- one level, with each constant inside already seen
abbrev pub constant_step : ProtobufConstant-F ConstantSyntax ConstantFieldSyntax → ConstantSyntax
constant_step (ProtobufConstant-F.U64 n) = integer (pos n)
constant_step (ProtobufConstant-F.I64 z) = integer z
constant_step (ProtobufConstant-F.Bool b) = truth b
constant_step (ProtobufConstant-F.Ident n) = dotted (string_bytes n)
constant_step (ProtobufConstant-F.String s) = string (pieces_of s)
constant_step (ProtobufConstant-F.List cs) = list (constants cs.items)
constant_step (ProtobufConstant-F.Message fs) = fields (constant_fields fs.items)

-- the same of a field
abbrev pub constant_field_step :
    ConstantField-F ConstantSyntax ConstantFieldSyntax → ConstantFieldSyntax
constant_field_step f = record { name = constant_name_syntax f.name; value = f.value }

-- what a constant in the tree says
abbrev pub constant_syntax : ProtobufConstant → ConstantSyntax
constant_syntax =
    fold-ProtobufConstant ConstantSyntax ConstantFieldSyntax constant_step constant_field_step

-- ---- options

-- a part of an option's name: direct, or the name of an extension, which stands in parentheses
pub data OptionPartSyntax : Type 0 where
  direct : Bytes → OptionPartSyntax
  extension : Bytes → OptionPartSyntax

-- the name of an option: one direct part is built in, any other name is custom
pub data OptionNameSyntax : Type 0 where
  builtin : Bytes → OptionNameSyntax
  custom : List OptionPartSyntax → OptionNameSyntax

-- an option that is set, where its name begins
pub record OptionSyntax : Type 0 where
  pub place : Place
  pub name : OptionNameSyntax
  pub value : ConstantSyntax

-- an option as a statement, where its keyword stands
pub record OptionStatementSyntax : Type 0 where
  pub place : Place
  pub option : OptionSyntax

-- what such a part in the tree says
abbrev pub option_part_syntax : ProtobufOptionNamePart → OptionPartSyntax
option_part_syntax (option_part.Direct n) = direct (name_bytes n)
option_part_syntax (option_part.Ext n) = extension (string_bytes n)

-- what the name of an option in the tree says
abbrev pub option_name_syntax : ProtobufOptionName → OptionNameSyntax
option_name_syntax (option_name.Builtin n) = builtin (name_bytes n)
option_name_syntax (option_name.Custom parts) = custom (map option_part_syntax parts.items)

-- what an option in the tree says
abbrev pub option_syntax : ProtobufOption → OptionSyntax
option_syntax o =
    record { place = o.place; name = option_name_syntax o.name; value = constant_syntax o.value }

-- what an option's statement in the tree says
abbrev pub option_statement_syntax : OptionStatement → OptionStatementSyntax
option_statement_syntax s = record { place = s.place; option = option_syntax s.option }

-- ---- fields

-- a type: a scalar type, a map by the types of its keys and values, or a name
pub data TypeSyntax : Type 0 where
  scalar : Scalar → TypeSyntax
  map_of : TypeSyntax → TypeSyntax → TypeSyntax
  named : Bytes → TypeSyntax

-- one level, with the types inside already seen
abbrev pub type_step : Type-F TypeSyntax → TypeSyntax
type_step (Type-F.Scalar s) = scalar s
type_step (Type-F.Map k v) = map_of k.value v.value
type_step (Type-F.Named n) = named (string_bytes n)

-- what a type in the tree says
abbrev pub type_syntax : «Type» → TypeSyntax
type_syntax = fold-Type TypeSyntax type_step

-- a field that is no group
pub record FieldSyntax : Type 0 where
  pub place : Place
  pub label : Option Label
  pub type_ : TypeSyntax
  pub name : Bytes
  pub number : ℤ
  pub options : List OptionSyntax

-- what a field in the tree says
abbrev pub field_syntax : Field → FieldSyntax
field_syntax f = record {
  place = f.place;
  label = f.label;
  type_ = type_syntax f.type_;
  name = name_bytes f.name;
  number = f.number;
  options = map option_syntax f.options.items;
}

mutual
  -- a statement that declares a field, or a group of fields
  pub data FieldStatementSyntax : Type 0 where
    field : FieldSyntax → FieldStatementSyntax
    group : Place → Option Label → Bytes → ℤ → FieldStatementList → FieldStatementSyntax

  -- such statements, as a list of them
  pub data FieldStatementList : Type 0 where
    no_field_statements : FieldStatementList
    more_field_statements : FieldStatementSyntax → FieldStatementList → FieldStatementList

-- a list as such a list
abbrev pub field_statements : List FieldStatementSyntax → FieldStatementList
field_statements [] = no_field_statements
field_statements (f ∷ fs) = more_field_statements f (field_statements fs)

-- a group, by its fields
pub record GroupSyntax : Type 0 where
  pub place : Place
  pub label : Option Label
  pub name : Bytes
  pub number : ℤ
  pub fields : List FieldStatementSyntax

-- a group as a statement
abbrev pub group_of : GroupSyntax → FieldStatementSyntax
group_of g = group g.place g.label g.name g.number (field_statements g.fields)

-- one level, with the fields inside already seen
abbrev pub group_step : Group-F FieldStatementSyntax GroupSyntax → GroupSyntax
group_step g = record {
  place = g.place;
  label = g.label;
  name = name_bytes g.name;
  number = g.number;
  fields = g.fields.items;
}

-- the same of a statement
abbrev pub field_statement_step :
    FieldStatement-F FieldStatementSyntax GroupSyntax → FieldStatementSyntax
field_statement_step (FieldStatement-F.Field f) = field (field_syntax f)
field_statement_step (FieldStatement-F.Group g) = group_of g

-- what a field or a group in the tree says
abbrev pub field_statement_syntax : FieldStatement → FieldStatementSyntax
field_statement_syntax =
    fold-FieldStatement FieldStatementSyntax GroupSyntax field_statement_step group_step

-- ---- parts of messages and enums

-- numbers from the first to the last with both; the first may be above the last
pub record RangeSyntax : Type 0 where
  pub from : ℤ
  pub to : ℤ

-- what a `reserved` statement has: ranges or names
pub data ReservedSyntax : Type 0 where
  reserved_ranges : List RangeSyntax → ReservedSyntax
  reserved_names : List Bytes → ReservedSyntax

-- a `reserved` statement
pub record ReservedStatementSyntax : Type 0 where
  pub place : Place
  pub reserved : ReservedSyntax

-- an `extensions` statement
pub record ExtensionsSyntax : Type 0 where
  pub place : Place
  pub ranges : List RangeSyntax

-- a statement of a oneof
pub data OneofStatementSyntax : Type 0 where
  oneof_option : OptionStatementSyntax → OneofStatementSyntax
  oneof_field : FieldStatementSyntax → OneofStatementSyntax

-- a oneof, by its statements
pub record OneofSyntax : Type 0 where
  pub place : Place
  pub name : Bytes
  pub body : List OneofStatementSyntax

-- an `extend`: the message that it extends, as it is named, and the extensions
pub record ExtendSyntax : Type 0 where
  pub place : Place
  pub extendee : Bytes
  pub fields : List FieldStatementSyntax

-- a value of an enum
pub record EnumValueSyntax : Type 0 where
  pub place : Place
  pub name : Bytes
  pub number : ℤ
  pub options : List OptionSyntax

-- a statement of an enum
pub data EnumStatementSyntax : Type 0 where
  enum_reserved : ReservedStatementSyntax → EnumStatementSyntax
  enum_option : OptionStatementSyntax → EnumStatementSyntax
  enum_value : EnumValueSyntax → EnumStatementSyntax

-- an enum, by its statements
pub record EnumSyntax : Type 0 where
  pub place : Place
  pub name : Bytes
  pub body : List EnumStatementSyntax

-- what a range in the tree says
abbrev pub range_syntax : FieldNumberRange → RangeSyntax
range_syntax r = record { from = r.from; to = r.to }

-- what is reserved in the tree
abbrev pub reserved_syntax : Reserved → ReservedSyntax
reserved_syntax (reserved.Ranges rs) = reserved_ranges (map range_syntax rs.items)
reserved_syntax (reserved.Names ns) = reserved_names (map string_bytes ns.items)

-- what a `reserved` statement in the tree says
abbrev pub reserved_statement_syntax : ReservedStatement → ReservedStatementSyntax
reserved_statement_syntax r = record { place = r.place; reserved = reserved_syntax r.reserved }

-- what an `extensions` statement in the tree says
abbrev pub extensions_syntax : Extensions → ExtensionsSyntax
extensions_syntax e = record { place = e.place; ranges = map range_syntax e.ranges.items }

-- what a statement of a oneof in the tree says
abbrev pub oneof_statement_syntax : OneOfStatement → OneofStatementSyntax
oneof_statement_syntax (oneof_statement.Option o) = oneof_option (option_statement_syntax o)
oneof_statement_syntax (oneof_statement.Field f) = oneof_field (field_statement_syntax f)

-- what a oneof in the tree says
abbrev pub oneof_syntax : OneOf → OneofSyntax
oneof_syntax o = record {
  place = o.place;
  name = name_bytes o.name;
  body = map oneof_statement_syntax o.body.items;
}

-- what an `extend` in the tree says
abbrev pub extend_syntax : Extend → ExtendSyntax
extend_syntax e = record {
  place = e.place;
  extendee = string_bytes e.extendee;
  fields = map field_statement_syntax e.fields.items;
}

-- what a value of an enum in the tree says
abbrev pub value_syntax : EnumValue → EnumValueSyntax
value_syntax v = record {
  place = v.place;
  name = name_bytes v.name;
  number = v.number;
  options = map option_syntax v.options.items;
}

-- what a statement of an enum in the tree says
abbrev pub enum_statement_syntax : EnumStatement → EnumStatementSyntax
enum_statement_syntax (enum_statement.Reserved r) = enum_reserved (reserved_statement_syntax r)
enum_statement_syntax (enum_statement.Option o) = enum_option (option_statement_syntax o)
enum_statement_syntax (enum_statement.Value v) = enum_value (value_syntax v)

-- what an enum in the tree says
abbrev pub enum_syntax : Enumeration → EnumSyntax
enum_syntax e = record {
  place = e.place;
  name = name_bytes e.name;
  body = map enum_statement_syntax e.body.items;
}

-- ---- messages

mutual
  -- a statement of a message; a message inside it has its place, its name and its statements
  pub data MessageStatementSyntax : Type 0 where
    message_reserved : ReservedStatementSyntax → MessageStatementSyntax
    message_oneof : OneofSyntax → MessageStatementSyntax
    message_extend : ExtendSyntax → MessageStatementSyntax
    message_message : Place → Bytes → MessageStatementList → MessageStatementSyntax
    message_enum : EnumSyntax → MessageStatementSyntax
    message_extensions : ExtensionsSyntax → MessageStatementSyntax
    message_option : OptionStatementSyntax → MessageStatementSyntax
    message_field : FieldStatementSyntax → MessageStatementSyntax

  -- such statements, as a list of them
  pub data MessageStatementList : Type 0 where
    no_statements : MessageStatementList
    more_statements : MessageStatementSyntax → MessageStatementList → MessageStatementList

-- a message, by its statements
pub record MessageSyntax : Type 0 where
  pub place : Place
  pub name : Bytes
  pub body : List MessageStatementSyntax

-- a list as such a list
abbrev pub message_statements : List MessageStatementSyntax → MessageStatementList
message_statements [] = no_statements
message_statements (s ∷ ss) = more_statements s (message_statements ss)

-- a message as a statement of another
abbrev pub nested_message : MessageSyntax → MessageStatementSyntax
nested_message m = message_message m.place m.name (message_statements m.body)

-- one level, with the statements inside already seen
abbrev pub message_step : Message-F MessageStatementSyntax MessageSyntax → MessageSyntax
message_step m = record { place = m.place; name = name_bytes m.name; body = m.body.items }

-- the same of a statement
abbrev pub message_statement_step :
    MessageStatement-F MessageStatementSyntax MessageSyntax → MessageStatementSyntax
message_statement_step (MessageStatement-F.Reserved r) =
    message_reserved (reserved_statement_syntax r)
message_statement_step (MessageStatement-F.OneOf o) = message_oneof (oneof_syntax o)
message_statement_step (MessageStatement-F.Extend e) = message_extend (extend_syntax e)
message_statement_step (MessageStatement-F.Message m) = nested_message m
message_statement_step (MessageStatement-F.Enumeration e) = message_enum (enum_syntax e)
message_statement_step (MessageStatement-F.Extensions e) = message_extensions (extensions_syntax e)
message_statement_step (MessageStatement-F.Option o) = message_option (option_statement_syntax o)
message_statement_step (MessageStatement-F.Field f) = message_field (field_statement_syntax f)

-- what a message in the tree says
abbrev pub message_syntax : Message → MessageSyntax
message_syntax = fold-Message MessageStatementSyntax MessageSyntax message_statement_step
    message_step

-- ---- services

-- a method: what it takes and what it returns, as it is named, and whether either is a stream
pub record MethodSyntax : Type 0 where
  pub place : Place
  pub name : Bytes
  pub input : Bytes
  pub output : Bytes
  pub client_streaming : Bool
  pub server_streaming : Bool
  pub options : List OptionStatementSyntax

-- a statement of a service
pub data ServiceStatementSyntax : Type 0 where
  service_method : MethodSyntax → ServiceStatementSyntax
  service_option : OptionStatementSyntax → ServiceStatementSyntax

-- a service, by its statements
pub record ServiceSyntax : Type 0 where
  pub place : Place
  pub name : Bytes
  pub body : List ServiceStatementSyntax

-- what a method in the tree says
abbrev pub method_syntax : Method → MethodSyntax
method_syntax m = record {
  place = m.place;
  name = name_bytes m.name;
  input = string_bytes m.input;
  output = string_bytes m.output;
  client_streaming = m.client_streaming;
  server_streaming = m.server_streaming;
  options = map option_statement_syntax m.options.items;
}

-- what a statement of a service in the tree says
abbrev pub service_statement_syntax : ServiceStatement → ServiceStatementSyntax
service_statement_syntax (service_statement.Method m) = service_method (method_syntax m)
service_statement_syntax (service_statement.Option o) = service_option (option_statement_syntax o)

-- what a service in the tree says
abbrev pub service_syntax : Service → ServiceSyntax
service_syntax s = record {
  place = s.place;
  name = name_bytes s.name;
  body = map service_statement_syntax s.body.items;
}

-- ---- files

-- an `import` statement, by the proto path of the file
pub record ImportSyntax : Type 0 where
  pub place : Place
  pub vis : ImportVis
  pub path : Bytes

-- a `package` statement
pub record PackageSyntax : Type 0 where
  pub place : Place
  pub name : Bytes

-- a statement of a file
pub data StatementSyntax : Type 0 where
  file_import : ImportSyntax → StatementSyntax
  file_package : PackageSyntax → StatementSyntax
  file_option : OptionStatementSyntax → StatementSyntax
  file_message : MessageSyntax → StatementSyntax
  file_enum : EnumSyntax → StatementSyntax
  file_extend : ExtendSyntax → StatementSyntax
  file_service : ServiceSyntax → StatementSyntax

-- a file: whether it is proto2 or proto3, and its statements in source order
pub record FileSyntax : Type 0 where
  pub syntax : Syntax
  pub statements : List StatementSyntax

-- what an `import` in the tree says
abbrev pub import_syntax : Import → ImportSyntax
import_syntax i = record { place = i.place; vis = i.vis; path = path_buf_text i.path }

-- what a `package` in the tree says
abbrev pub package_syntax : Package → PackageSyntax
package_syntax p = record { place = p.place; name = string_bytes p.name }

-- what a statement in the tree says
abbrev pub statement_syntax : FileStatement → StatementSyntax
statement_syntax (file_statement.Import i) = file_import (import_syntax i)
statement_syntax (file_statement.Package p) = file_package (package_syntax p)
statement_syntax (file_statement.Option o) = file_option (option_statement_syntax o)
statement_syntax (file_statement.Message m) = file_message (message_syntax m)
statement_syntax (file_statement.Enumeration e) = file_enum (enum_syntax e)
statement_syntax (file_statement.Extend e) = file_extend (extend_syntax e)
statement_syntax (file_statement.Service s) = file_service (service_syntax s)

-- what a tree says
abbrev pub file_syntax : FileTree → FileSyntax
file_syntax t = record { syntax = t.syntax; statements = map statement_syntax t.statements.items }

-- ---- the package

-- the package that counts behind a statement, and before it
abbrev pub package_behind : Option Bytes → StatementSyntax → Option Bytes
package_behind before (file_package p) = Some p.name
package_behind before _ = before

-- Of several `package` statements the last counts.
abbrev pub package_of : FileSyntax → Option Bytes
package_of t = fold package_behind None t.statements
