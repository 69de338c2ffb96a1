-- What a file declares, by full name: messages and enums, extensions, and the messages that stand
-- behind maps and groups. A full name has a dot before each identifier, from the package down to
-- the declaration's own name. A message of a file declares what the same message inside another
-- does, in the file's scope. Protocol Buffers Language Guide (proto2), "Nested Types", "Packages
-- and Name Resolution", "Extensions", "Maps"; Protocol Buffers Language Specification, "Package",
-- "Group field", "Map field", "Extend" (https://protobuf.dev).
use Rattle.std.specs.Prelude.{List, [], ◌∷◌, ◌++◌, map, flat_map, Option, unwrap_or, if◌then◌else◌}
use Rattle.protobuf_parse_base.specs.Characters as char
use Rattle.protobuf_parse_base.specs.Names.{absolute_text, relative_idents}
use Rattle.protobuf_parse_syntax.specs.Trees.{FieldStatementSyntax, field, group}
use Rattle.protobuf_parse_syntax.specs.Trees.{MessageStatementSyntax, message_oneof, message_extend}
use Rattle.protobuf_parse_syntax.specs.Trees.{message_message, message_enum, message_field}
use Rattle.protobuf_parse_syntax.specs.Trees.{MessageStatementList, no_statements, more_statements}
use Rattle.protobuf_parse_syntax.specs.Trees.{nested_message, ExtendSyntax, StatementSyntax}
use Rattle.protobuf_parse_syntax.specs.Trees.{file_message, file_enum, file_extend, FileSyntax}
use Rattle.protobuf_parse_syntax.specs.Trees.{package_of}
use Rattle.protobuf_parse_model.specs.Descriptors.{Text}
use Rattle.protobuf_parse_model.specs.declared.descriptor.FieldType.{FieldType}
use Rattle.protobuf_parse_model.specs.declared.descriptor.FieldType.TheVariants as kind
use Rattle.protobuf_parse_model.specs.Statements.{field_statement_name, entry_name, is_map}
use Rattle.protobuf_parse_model.specs.Statements.{oneof_fields, groups}

-- ---- names

-- the names of the package and of the messages around a place, the outermost first
abbrev pub Scope : Type 0
Scope = List Text

-- the scope inside the message of that name
abbrev pub inside : Scope → Text → Scope
inside scope name = scope ++ (name ∷ [])

-- the full name of what has the name in the scope
abbrev pub full_name : Scope → Text → Text
full_name scope name = absolute_text scope ++ (char.dot ∷ name)

-- something that is declared, by its full name
pub record Declared (A : Type 0) : Type 0 where
  pub name : Text
  pub what : A

-- that of the name in the scope
abbrev pub declare : {A : Type 0} → Scope → Text → A → Declared A
declare scope name what = record { name = full_name scope name; what = what }

-- that of a package; there is none where a file has no `package` statement
abbrev pub scope_of_package : Option Text → Scope
scope_of_package name = relative_idents (unwrap_or name [])

-- the package, which the last `package` statement names
abbrev pub file_scope : FileSyntax → Scope
file_scope t = scope_of_package (package_of t)

-- ---- messages and enums

-- what the name of a type may mean
pub data MessageOrEnum : Type 0 where
  a_message : MessageOrEnum
  an_enum : MessageOrEnum

-- a message or an enum that is declared
abbrev pub DeclaredType : Type 0
DeclaredType = Declared MessageOrEnum

-- the kind of a field of such a type
abbrev pub kind_of_type : MessageOrEnum → FieldType
kind_of_type a_message = kind.Message
kind_of_type an_enum = kind.Enum

abbrev mutual
  -- what a statement of a body declares
  pub types_of : Scope → MessageStatementSyntax → List DeclaredType
  types_of scope (message_message place name body) =
      declare scope name a_message ∷ types_in (inside scope name) body
  types_of scope (message_enum e) = declare scope e.name an_enum ∷ []
  types_of scope _ = []

  -- what all statements of a body declare
  pub types_in : Scope → MessageStatementList → List DeclaredType
  types_in scope no_statements = []
  types_in scope (more_statements s ss) = types_of scope s ++ types_in scope ss

-- what a statement of a file declares
abbrev pub statement_types : Scope → StatementSyntax → List DeclaredType
statement_types scope (file_message m) = types_of scope (nested_message m)
statement_types scope (file_enum e) = declare scope e.name an_enum ∷ []
statement_types scope _ = []

-- the messages and enums that a file declares, in source order
abbrev pub file_types : FileSyntax → List DeclaredType
file_types t = flat_map (statement_types (file_scope t)) t.statements

-- ---- extensions

-- a field of an `extend`, the name of the message that it extends as written, and the scope from
-- which that name is looked up
pub record ExtensionSyntax : Type 0 where
  pub extendee : Text
  pub scope : Scope
  pub field : FieldStatementSyntax

-- an extension that is declared
abbrev pub DeclaredExtension : Type 0
DeclaredExtension = Declared ExtensionSyntax

-- those of an `extend`
abbrev pub extend_extensions : Scope → ExtendSyntax → List DeclaredExtension
extend_extensions scope e =
    map (λ (f : FieldStatementSyntax). declare scope (field_statement_name f)
    (record { extendee = e.extendee; scope = scope; field = f })) e.fields

abbrev mutual
  -- those of a statement of a body
  pub extensions_of : Scope → MessageStatementSyntax → List DeclaredExtension
  extensions_of scope (message_extend e) = extend_extensions scope e
  extensions_of scope (message_message place name body) = extensions_in (inside scope name) body
  extensions_of scope _ = []

  -- those of all statements of a body
  pub extensions_in : Scope → MessageStatementList → List DeclaredExtension
  extensions_in scope no_statements = []
  extensions_in scope (more_statements s ss) = extensions_of scope s ++ extensions_in scope ss

-- those of a statement of a file
abbrev pub statement_extensions : Scope → StatementSyntax → List DeclaredExtension
statement_extensions scope (file_message m) = extensions_of scope (nested_message m)
statement_extensions scope (file_extend e) = extend_extensions scope e
statement_extensions scope _ = []

-- the extensions that a file declares, in source order
abbrev pub file_extensions : FileSyntax → List DeclaredExtension
file_extensions t = flat_map (statement_extensions (file_scope t)) t.statements

-- ---- the messages behind maps and groups, of an `extend` those of its groups alone: no name that
-- a file writes means one of them

-- the full name of the message behind a field, if one stands there
abbrev pub generated_by : Scope → FieldStatementSyntax → List Text
generated_by scope (field f) = if is_map f.type_ then full_name scope (entry_name f.name) ∷ []
    else []
generated_by scope (group place label name number fields) = full_name scope name ∷ []

abbrev mutual
  -- those behind the fields of a statement of a body
  pub generated_of : Scope → MessageStatementSyntax → List Text
  generated_of scope (message_field f) = generated_by scope f
  generated_of scope (message_oneof o) =
      flat_map (generated_by scope) (flat_map oneof_fields o.body)
  generated_of scope (message_extend e) = flat_map (generated_by scope) (flat_map groups e.fields)
  generated_of scope (message_message place name body) = generated_in (inside scope name) body
  generated_of scope _ = []

  -- those behind the fields of all statements of a body
  pub generated_in : Scope → MessageStatementList → List Text
  generated_in scope no_statements = []
  generated_in scope (more_statements s ss) = generated_of scope s ++ generated_in scope ss

-- those behind the fields of a statement of a file
abbrev pub statement_generated : Scope → StatementSyntax → List Text
statement_generated scope (file_message m) = generated_of scope (nested_message m)
statement_generated scope (file_extend e) = generated_of scope (message_extend e)
statement_generated scope _ = []

-- the full names of all such messages of a file, in source order
abbrev pub file_generated : FileSyntax → List Text
file_generated t = flat_map (statement_generated (file_scope t)) t.statements
