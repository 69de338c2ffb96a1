-- What a file declares, in the order of its text: full names, each with what it is declared as and
-- where that begins. That is at a message, an enum, or a field of an `extend`; what stands behind a
-- map or a group is declared at the map or the group.
use Rattle.std.specs.Prelude.{List, [], ◌∷◌, ◌++◌, flat_map, if◌then◌else◌}
use Rattle.protobuf_parse_lexer.specs.declared.lexer.token.Place.{Place}
use Rattle.protobuf_parse_syntax.specs.Trees.{FieldStatementSyntax, field, group, FileSyntax}
use Rattle.protobuf_parse_syntax.specs.Trees.{StatementSyntax, file_enum, file_extend, file_message}
use Rattle.protobuf_parse_syntax.specs.Trees.{nested_message, MessageStatementSyntax, message_enum}
use Rattle.protobuf_parse_syntax.specs.Trees.{message_extend, message_field, message_message}
use Rattle.protobuf_parse_syntax.specs.Trees.{message_oneof, MessageStatementList, no_statements}
use Rattle.protobuf_parse_syntax.specs.Trees.{more_statements, OneofStatementSyntax, oneof_field}
use Rattle.protobuf_parse_syntax.specs.Trees.{oneof_option}
use Rattle.protobuf_parse_model.specs.declared.scope.seen.DeclarationKind.{DeclarationKind}
use Rattle.protobuf_parse_model.specs.declared.scope.seen.DeclarationKind.TheVariants as kind
use Rattle.protobuf_parse_model.specs.Descriptors.{Text}
use Rattle.protobuf_parse_model.specs.Declarations.{Declared, Scope, declare, file_scope, inside}
use Rattle.protobuf_parse_model.specs.Statements.{entry_name, group_field_name, is_map}

-- as what a name is declared, and where
pub record Standing : Type 0 where
  pub kind : DeclarationKind
  pub place : Place

-- a name that is declared, as what and where
abbrev pub DeclaredAt : Type 0
DeclaredAt = Declared Standing

-- that of the name in the scope
abbrev pub declare_at : Scope → Text → DeclarationKind → Place → DeclaredAt
declare_at scope name kind place = declare scope name (record { kind = kind; place = place })

-- the message behind a map or a group
abbrev pub behind_at : Scope → FieldStatementSyntax → List DeclaredAt
behind_at scope (field f) =
    if is_map f.type_ then declare_at scope (entry_name f.name) kind.Generated f.place ∷ [] else []
behind_at scope (group place label name number fields) =
    declare_at scope name kind.Generated place ∷ []

-- what stands behind a field of a oneof
abbrev pub oneof_at : Scope → OneofStatementSyntax → List DeclaredAt
oneof_at scope (oneof_field f) = behind_at scope f
oneof_at scope (oneof_option o) = []

-- an extension, behind its message where it is a group
abbrev pub extend_at : Scope → FieldStatementSyntax → List DeclaredAt
extend_at scope (field f) = declare_at scope f.name kind.Extension f.place ∷ []
extend_at scope (group place label name number fields) =
    declare_at scope name kind.Generated place
    ∷ declare_at scope (group_field_name name) kind.Extension place ∷ []

abbrev mutual
  -- what a statement of a body declares
  pub body_at : Scope → MessageStatementSyntax → List DeclaredAt
  body_at scope (message_field f) = behind_at scope f
  body_at scope (message_oneof o) = flat_map (oneof_at scope) o.body
  body_at scope (message_extend e) = flat_map (extend_at scope) e.fields
  body_at scope (message_enum e) = declare_at scope e.name kind.Enum e.place ∷ []
  body_at scope (message_message place name body) =
      declare_at scope name kind.Message place ∷ inside_at (inside scope name) body
  body_at scope _ = []

  -- what all statements of a body declare
  pub inside_at : Scope → MessageStatementList → List DeclaredAt
  inside_at scope no_statements = []
  inside_at scope (more_statements s ss) = body_at scope s ++ inside_at scope ss

-- what a statement of a file declares
abbrev pub statement_at : Scope → StatementSyntax → List DeclaredAt
statement_at scope (file_message m) = body_at scope (nested_message m)
statement_at scope (file_enum e) = body_at scope (message_enum e)
statement_at scope (file_extend e) = body_at scope (message_extend e)
statement_at scope _ = []

-- what a file declares
abbrev pub file_at : FileSyntax → List DeclaredAt
file_at t = flat_map (statement_at (file_scope t)) t.statements
