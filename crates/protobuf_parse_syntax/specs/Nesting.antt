-- How deep the parts of a tree nest: its constants, and its messages and groups.
use Rattle.std.specs.Prelude.{◌≤◌, ℕ, suc, max, List, [], ◌∷◌, All, ⊤}
use Rattle.protobuf_parse_lexer.specs.Tokens.{Lexeme, IsShallow}
use Rattle.protobuf_parse_syntax.specs.Trees as tree
use Rattle.protobuf_parse_syntax.specs.Trees.{ConstantSyntax, ConstantList, ConstantFieldList}
use Rattle.protobuf_parse_syntax.specs.Trees.{OptionSyntax}
use Rattle.protobuf_parse_syntax.specs.Trees.{OptionStatementSyntax, FieldStatementSyntax}
use Rattle.protobuf_parse_syntax.specs.Trees.{FieldStatementList}
use Rattle.protobuf_parse_syntax.specs.Trees.{OneofStatementSyntax, OneofSyntax, ExtendSyntax}
use Rattle.protobuf_parse_syntax.specs.Trees.{EnumStatementSyntax}
use Rattle.protobuf_parse_syntax.specs.Trees.{EnumSyntax, MessageStatementSyntax}
use Rattle.protobuf_parse_syntax.specs.Trees.{MessageStatementList, MessageSyntax}
use Rattle.protobuf_parse_syntax.specs.Trees.{MethodSyntax, ServiceStatementSyntax, ServiceSyntax}
use Rattle.protobuf_parse_syntax.specs.Trees.{StatementSyntax}
use Rattle.protobuf_parse_syntax.specs.Trees.{FileSyntax}
use Rattle.protobuf_parse_syntax.specs.Grammar.{IsFile}

-- ---- how deep message constants and lists nest, counted together

abbrev mutual
  -- of a constant
  pub constant_depth : ConstantSyntax → ℕ
  constant_depth (tree.list cs) = suc (constants_depth cs)
  constant_depth (tree.fields fs) = suc (constant_fields_depth fs)
  constant_depth _ = 0

  -- the greatest of a list's
  pub constants_depth : ConstantList → ℕ
  constants_depth tree.no_constants = 0
  constants_depth (tree.more_constants c cs) = max (constant_depth c) (constants_depth cs)

  -- the greatest of a message constant's fields
  pub constant_fields_depth : ConstantFieldList → ℕ
  constant_fields_depth tree.no_fields = 0
  constant_fields_depth (tree.more_fields name c fs) =
      max (constant_depth c) (constant_fields_depth fs)

-- ---- how deep messages and groups nest, counted together

-- the depth of the deepest
abbrev pub deepest : {A : Type 0} → (A → ℕ) → List A → ℕ
deepest depth [] = 0
deepest depth (a ∷ others) = max (depth a) (deepest depth others)

abbrev mutual
  -- of a field or a group
  pub field_depth : FieldStatementSyntax → ℕ
  field_depth (tree.field f) = 0
  field_depth (tree.group place label name number fields) = suc (fields_depth fields)

  -- the greatest of a group's fields
  pub fields_depth : FieldStatementList → ℕ
  fields_depth tree.no_field_statements = 0
  fields_depth (tree.more_field_statements f fs) = max (field_depth f) (fields_depth fs)

-- of a statement of a oneof
abbrev pub oneof_statement_depth : OneofStatementSyntax → ℕ
oneof_statement_depth (tree.oneof_option o) = 0
oneof_statement_depth (tree.oneof_field f) = field_depth f

-- the greatest in a oneof
abbrev pub oneof_depth : OneofSyntax → ℕ
oneof_depth o = deepest oneof_statement_depth o.body

-- the greatest in an `extend`
abbrev pub extend_depth : ExtendSyntax → ℕ
extend_depth e = deepest field_depth e.fields

abbrev mutual
  -- of a statement of a message
  pub message_statement_depth : MessageStatementSyntax → ℕ
  message_statement_depth (tree.message_oneof o) = oneof_depth o
  message_statement_depth (tree.message_extend e) = extend_depth e
  message_statement_depth (tree.message_message place name body) = suc (body_depth body)
  message_statement_depth (tree.message_field f) = field_depth f
  message_statement_depth _ = 0

  -- the greatest in the body of a message inside another
  pub body_depth : MessageStatementList → ℕ
  body_depth tree.no_statements = 0
  body_depth (tree.more_statements s ss) = max (message_statement_depth s) (body_depth ss)

-- of a message
abbrev pub message_depth : MessageSyntax → ℕ
message_depth m = suc (deepest message_statement_depth m.body)

-- of a statement of a file
abbrev pub statement_depth : StatementSyntax → ℕ
statement_depth (tree.file_message m) = message_depth m
statement_depth (tree.file_extend e) = extend_depth e
statement_depth _ = 0

-- the greatest in a file
abbrev pub file_depth : FileSyntax → ℕ
file_depth t = deepest statement_depth t.statements

-- ---- parts in which each constant nests at most 100 deep, wherever its option stands

-- an option
abbrev pub ShallowOption : OptionSyntax → Type 0
ShallowOption o = constant_depth o.value ≤ 100

-- an option that is a statement
abbrev pub ShallowOptionStatement : OptionStatementSyntax → Type 0
ShallowOptionStatement s = ShallowOption s.option

abbrev mutual
  -- a field or a group
  pub ShallowField : FieldStatementSyntax → Type 0
  ShallowField (tree.field f) = All ShallowOption f.options
  ShallowField (tree.group place label name number fields) = ShallowFields fields

  -- a group's fields
  pub ShallowFields : FieldStatementList → Type 0
  ShallowFields tree.no_field_statements = ⊤
  ShallowFields (tree.more_field_statements f fs) = ShallowField f × ShallowFields fs

-- a statement of a oneof
abbrev pub ShallowOneofStatement : OneofStatementSyntax → Type 0
ShallowOneofStatement (tree.oneof_option o) = ShallowOptionStatement o
ShallowOneofStatement (tree.oneof_field f) = ShallowField f

-- a oneof
abbrev pub ShallowOneof : OneofSyntax → Type 0
ShallowOneof o = All ShallowOneofStatement o.body

-- an `extend`
abbrev pub ShallowExtend : ExtendSyntax → Type 0
ShallowExtend e = All ShallowField e.fields

-- a statement of an enum
abbrev pub ShallowEnumStatement : EnumStatementSyntax → Type 0
ShallowEnumStatement (tree.enum_reserved r) = ⊤
ShallowEnumStatement (tree.enum_option o) = ShallowOptionStatement o
ShallowEnumStatement (tree.enum_value v) = All ShallowOption v.options

-- an enum
abbrev pub ShallowEnum : EnumSyntax → Type 0
ShallowEnum e = All ShallowEnumStatement e.body

abbrev mutual
  -- a statement of a message
  pub ShallowMessageStatement : MessageStatementSyntax → Type 0
  ShallowMessageStatement (tree.message_reserved r) = ⊤
  ShallowMessageStatement (tree.message_oneof o) = ShallowOneof o
  ShallowMessageStatement (tree.message_extend e) = ShallowExtend e
  ShallowMessageStatement (tree.message_message place name body) = ShallowBody body
  ShallowMessageStatement (tree.message_enum e) = ShallowEnum e
  ShallowMessageStatement (tree.message_extensions e) = ⊤
  ShallowMessageStatement (tree.message_option o) = ShallowOptionStatement o
  ShallowMessageStatement (tree.message_field f) = ShallowField f

  -- the body of a message inside another
  pub ShallowBody : MessageStatementList → Type 0
  ShallowBody tree.no_statements = ⊤
  ShallowBody (tree.more_statements s ss) = ShallowMessageStatement s × ShallowBody ss

-- a message
abbrev pub ShallowMessage : MessageSyntax → Type 0
ShallowMessage m = All ShallowMessageStatement m.body

-- a method
abbrev pub ShallowMethod : MethodSyntax → Type 0
ShallowMethod m = All ShallowOptionStatement m.options

-- a statement of a service
abbrev pub ShallowServiceStatement : ServiceStatementSyntax → Type 0
ShallowServiceStatement (tree.service_method m) = ShallowMethod m
ShallowServiceStatement (tree.service_option o) = ShallowOptionStatement o

-- a service
abbrev pub ShallowService : ServiceSyntax → Type 0
ShallowService s = All ShallowServiceStatement s.body

-- a statement of a file
abbrev pub ShallowStatement : StatementSyntax → Type 0
ShallowStatement (tree.file_import i) = ⊤
ShallowStatement (tree.file_package p) = ⊤
ShallowStatement (tree.file_option o) = ShallowOptionStatement o
ShallowStatement (tree.file_message m) = ShallowMessage m
ShallowStatement (tree.file_enum e) = ShallowEnum e
ShallowStatement (tree.file_extend e) = ShallowExtend e
ShallowStatement (tree.file_service s) = ShallowService s

-- Each constant nests at most 100 deep, and so do messages and groups.
pub record ShallowFile (t : FileSyntax) : Type 0 where
  pub constants : All ShallowStatement t.statements
  pub depth : file_depth t ≤ 100

-- In a file whose tokens nest at most 100 deep so do the parts of its tree.
abbrev pub TreesAreShallow : Type 0
TreesAreShallow = (ts : List Lexeme) (t : FileSyntax) → IsFile ts t → IsShallow ts → ShallowFile t
