-- The constructs of a file whose options can be set, in source order, each with its full name and
-- with the scope from which the names of its custom options are looked up: of a message, an enum or
-- an enum's value the scope that encloses the message or the enum; of what stands in a message
-- (fields, oneofs, extensions, the fields of groups) the message's own; of all else the package.
use Rattle.std.specs.Prelude.{List, [], ◌∷◌, ◌++◌, map, flat_map}
use Rattle.protobuf_parse_syntax.specs.Trees.{OptionSyntax, FieldStatementSyntax, field, group}
use Rattle.protobuf_parse_syntax.specs.Trees.{OneofSyntax, ExtendSyntax, EnumValueSyntax}
use Rattle.protobuf_parse_syntax.specs.Trees.{EnumSyntax, MessageStatementSyntax, message_oneof}
use Rattle.protobuf_parse_syntax.specs.Trees.{message_extend, message_message, message_enum}
use Rattle.protobuf_parse_syntax.specs.Trees.{message_field, MessageStatementList, no_statements}
use Rattle.protobuf_parse_syntax.specs.Trees.{more_statements, nested_message, MethodSyntax}
use Rattle.protobuf_parse_syntax.specs.Trees.{ServiceSyntax, StatementSyntax, file_message}
use Rattle.protobuf_parse_syntax.specs.Trees.{file_enum, file_extend, file_service, FileSyntax}
use Rattle.protobuf_parse_model.specs.Statements.{group_body, message_body, oneof_fields}
use Rattle.protobuf_parse_model.specs.Descriptors.{Text}
use Rattle.protobuf_parse_model.specs.Declarations.{Scope, inside, full_name, file_scope}
use Rattle.protobuf_parse_model.specs.declared.customs.Construct.{Construct}
use Rattle.protobuf_parse_model.specs.declared.customs.Construct.TheVariants as of
use Rattle.protobuf_parse_elaboration.specs.Enums.{enum_values, options_of_enum}
use Rattle.protobuf_parse_elaboration.specs.Services.{methods_in, options_of_method}
use Rattle.protobuf_parse_elaboration.specs.Services.{options_of_service}
use Rattle.protobuf_parse_elaboration.specs.Messages.{options_in_oneof, options_of_body}
use Rattle.protobuf_parse_elaboration.specs.FileDescriptor.{options_of_statements}

-- the options of one construct, as they are written
pub record OptionSet : Type 0 where
  pub construct : Construct
  -- its full name; a value's has that of its enum before it, and a file has none
  pub name : Text
  pub scope : Scope
  pub statements : List OptionSyntax

-- such options
abbrev pub a_set : Construct → Text → Scope → List OptionSyntax → OptionSet
a_set construct name scope statements =
    record { construct = construct; name = name; scope = scope; statements = statements }

-- A group has no options of its own, and none stands in a group, whose message is the scope
-- `within`.
abbrev pub sets_in_group : Scope → (within : Scope) → FieldStatementSyntax → List OptionSet
sets_in_group scope within (field f) =
    a_set of.Field (full_name within f.name) scope f.options ∷ []
sets_in_group scope within (group place label name number fields) = []

-- of a field, or of the fields of a group
abbrev pub field_sets : Scope → FieldStatementSyntax → List OptionSet
field_sets scope (field f) = a_set of.Field (full_name scope f.name) scope f.options ∷ []
field_sets scope (group place label name number fields) =
    flat_map (sets_in_group scope (inside scope name)) (group_body fields)

-- of a oneof and of its fields
abbrev pub oneof_sets : Scope → OneofSyntax → List OptionSet
oneof_sets scope o = a_set of.Oneof (full_name scope o.name) scope (options_in_oneof o)
    ∷ flat_map (field_sets scope) (flat_map oneof_fields o.body)

-- of the extensions of an `extend`
abbrev pub extend_sets : Scope → ExtendSyntax → List OptionSet
extend_sets scope e = flat_map (field_sets scope) e.fields

-- of an enum that is the scope `within`
abbrev pub value_set : Scope → (within : Scope) → EnumValueSyntax → OptionSet
value_set scope within v = a_set of.EnumValue (full_name within v.name) scope v.options

-- of an enum and of its values
abbrev pub enum_sets : Scope → EnumSyntax → List OptionSet
enum_sets scope e = a_set of.Enum (full_name scope e.name) scope (options_of_enum e)
    ∷ map (value_set scope (inside scope e.name)) (flat_map enum_values e.body)

abbrev mutual
  -- of a statement of a body
  pub sets_of : Scope → MessageStatementSyntax → List OptionSet
  sets_of scope (message_message place name body) =
      a_set of.Message (full_name scope name) scope (options_of_body (message_body body))
      ∷ sets_in (inside scope name) body
  sets_of scope (message_field f) = field_sets scope f
  sets_of scope (message_oneof o) = oneof_sets scope o
  sets_of scope (message_extend e) = extend_sets scope e
  sets_of scope (message_enum e) = enum_sets scope e
  sets_of scope _ = []

  -- of all statements of a body
  pub sets_in : Scope → MessageStatementList → List OptionSet
  sets_in scope no_statements = []
  sets_in scope (more_statements s ss) = sets_of scope s ++ sets_in scope ss

-- of a service that is the scope `within`
abbrev pub method_set : Scope → (within : Scope) → MethodSyntax → OptionSet
method_set scope within m = a_set of.Method (full_name within m.name) scope (options_of_method m)

-- of a service and of its methods
abbrev pub service_sets : Scope → ServiceSyntax → List OptionSet
service_sets scope s = a_set of.Service (full_name scope s.name) scope (options_of_service s)
    ∷ map (method_set scope (inside scope s.name)) (flat_map methods_in s.body)

-- of a statement of a file; a message has those that it has inside another
abbrev pub statement_sets : Scope → StatementSyntax → List OptionSet
statement_sets scope (file_message m) = sets_of scope (nested_message m)
statement_sets scope (file_enum e) = enum_sets scope e
statement_sets scope (file_extend e) = extend_sets scope e
statement_sets scope (file_service s) = service_sets scope s
statement_sets scope _ = []

-- those of a whole file, the file's own first
abbrev pub option_sets : FileSyntax → List OptionSet
option_sets t = a_set of.File [] (file_scope t) (options_of_statements t.statements)
    ∷ flat_map (statement_sets (file_scope t)) t.statements
