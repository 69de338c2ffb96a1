-- What is wrong with the names and the constants of a file, in the order of the text: of each
-- declaration first its names, then its options, then what stands inside. Names are looked up from
-- the scopes that `protobuf_parse_option_paths` says: those of a message's options from around it,
-- and all that stands in it from inside.
use Rattle.std.specs.Prelude.{Bool, List, [], ◌++◌, flat_map, map}
use Rattle.protobuf_parse_syntax.specs.Trees.{EnumStatementSyntax, EnumSyntax, ExtendSyntax}
use Rattle.protobuf_parse_syntax.specs.Trees.{FieldStatementList, FieldStatementSyntax, FieldSyntax}
use Rattle.protobuf_parse_syntax.specs.Trees.{FileSyntax, MessageStatementList}
use Rattle.protobuf_parse_syntax.specs.Trees.{MessageStatementSyntax, MethodSyntax}
use Rattle.protobuf_parse_syntax.specs.Trees.{OneofStatementSyntax, OneofSyntax, ServiceSyntax}
use Rattle.protobuf_parse_syntax.specs.Trees.{ServiceStatementSyntax, StatementSyntax}
use Rattle.protobuf_parse_syntax.specs.Trees.{enum_value, field, file_enum, file_extend}
use Rattle.protobuf_parse_syntax.specs.Trees.{file_message, file_service, group, message_enum}
use Rattle.protobuf_parse_syntax.specs.Trees.{message_extend, message_field, message_message}
use Rattle.protobuf_parse_syntax.specs.Trees.{message_oneof, more_field_statements}
use Rattle.protobuf_parse_syntax.specs.Trees.{more_statements, nested_message, no_field_statements}
use Rattle.protobuf_parse_syntax.specs.Trees.{no_statements, oneof_field, oneof_option}
use Rattle.protobuf_parse_syntax.specs.Trees.{service_method, service_option}
use Rattle.protobuf_parse_model.specs.Declarations.{file_scope}
use Rattle.protobuf_parse_model.specs.Descriptors.{Text}
use Rattle.protobuf_parse_model.specs.declared.customs.Construct.TheVariants as of
use Rattle.protobuf_parse_text_rules.specs.Breaches.{TextBreach}
use Rattle.protobuf_parse_text_rules.specs.Files.{option_in_enum, option_in_file, option_in_oneof}
use Rattle.protobuf_parse_text_rules.specs.Files.{option_in_service, option_of, options_among}
use Rattle.protobuf_parse_name_rules.specs.Lookups.{NameFiles, Viewpoint, sight_of, within}
use Rattle.protobuf_parse_name_rules.specs.Names.{is_method, method_types_breaches, type_breaches}
use Rattle.protobuf_parse_name_rules.specs.Names.{type_name_breaches}
use Rattle.protobuf_parse_name_rules.specs.Options.{option_breaches}

-- ---- fields

-- of a field
abbrev pub field_breaches : Viewpoint → FieldSyntax → List TextBreach
field_breaches at f =
    type_breaches at f.place f.type_ ++ option_breaches at of.Field f.options

abbrev mutual
  -- of a field, or of those in a group, whose message they stand in
  pub statement_breaches : Viewpoint → FieldStatementSyntax → List TextBreach
  statement_breaches at (field f) = field_breaches at f
  statement_breaches at (group place label name number fs) = all_breaches (within at name) fs

  -- of all of these
  pub all_breaches : Viewpoint → FieldStatementList → List TextBreach
  all_breaches at no_field_statements = []
  all_breaches at (more_field_statements f fs) = statement_breaches at f ++ all_breaches at fs

-- of an `extend`: the name of the message, and the extensions
abbrev pub extend_breaches : Viewpoint → ExtendSyntax → List TextBreach
extend_breaches at e =
    type_name_breaches at e.place e.extendee ++ flat_map (statement_breaches at) e.fields

-- ---- oneofs and enums

-- of the field of a statement of a oneof
abbrev pub inside_oneof : Viewpoint → OneofStatementSyntax → List TextBreach
inside_oneof at (oneof_option o) = []
inside_oneof at (oneof_field f) = statement_breaches at f

-- of a oneof
abbrev pub oneof_breaches : Viewpoint → OneofSyntax → List TextBreach
oneof_breaches at o =
    option_breaches at of.Oneof (flat_map option_in_oneof o.body)
    ++ flat_map (inside_oneof at) o.body

-- of the value of a statement of an enum
abbrev pub inside_enum : Viewpoint → EnumStatementSyntax → List TextBreach
inside_enum at (enum_value v) = option_breaches at of.EnumValue v.options
inside_enum at _ = []

-- of an enum
abbrev pub enum_breaches : Viewpoint → EnumSyntax → List TextBreach
enum_breaches at e =
    option_breaches at of.Enum (flat_map option_in_enum e.body) ++ flat_map (inside_enum at) e.body

-- ---- messages

abbrev mutual
  -- of a statement of a message
  pub inside_message : Viewpoint → MessageStatementSyntax → List TextBreach
  inside_message at (message_field f) = statement_breaches at f
  inside_message at (message_oneof o) = oneof_breaches at o
  inside_message at (message_extend e) = extend_breaches at e
  inside_message at (message_enum e) = enum_breaches at e
  inside_message at (message_message place name body) =
      option_breaches at of.Message (options_among body) ++ all_inside (within at name) body
  inside_message at _ = []

  -- of all statements of a body
  pub all_inside : Viewpoint → MessageStatementList → List TextBreach
  all_inside at no_statements = []
  all_inside at (more_statements s ss) = inside_message at s ++ all_inside at ss

-- ---- services

-- of a method of a service that is the scope inside: its options are looked up from around it
abbrev pub method_breaches : (at inside : Viewpoint) → (is_method : Text → Bool) → MethodSyntax
    → List TextBreach
method_breaches at inside is_method m =
    method_types_breaches inside is_method m
    ++ option_breaches at of.Method (map option_of m.options)

-- of a statement of such a service
abbrev pub inside_service : (at inside : Viewpoint) → (is_method : Text → Bool)
    → ServiceStatementSyntax → List TextBreach
inside_service at inside is_method (service_method m) = method_breaches at inside is_method m
inside_service at inside is_method (service_option o) = []

-- of a service
abbrev pub service_breaches : Viewpoint → ServiceSyntax → List TextBreach
service_breaches at s =
    option_breaches at of.Service (flat_map option_in_service s.body)
    ++ flat_map (inside_service at (within at s.name) (is_method s.body)) s.body

-- ---- files

-- of a statement of a file
abbrev pub inside_file : Viewpoint → StatementSyntax → List TextBreach
inside_file at (file_message m) = inside_message at (nested_message m)
inside_file at (file_enum e) = enum_breaches at e
inside_file at (file_extend e) = extend_breaches at e
inside_file at (file_service s) = service_breaches at s
inside_file at _ = []

-- of all statements
abbrev pub statements_breaches : Viewpoint → List StatementSyntax → List TextBreach
statements_breaches at ss =
    option_breaches at of.File (flat_map option_in_file ss) ++ flat_map (inside_file at) ss

-- of a file
abbrev pub name_breaches : NameFiles → FileSyntax → List TextBreach
name_breaches files t =
    statements_breaches (record { sight = sight_of files; scope = file_scope t }) t.statements
