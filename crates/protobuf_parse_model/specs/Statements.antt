-- The statements of bodies as lists, and what the same words mean wherever they stand.
use Rattle.std.specs.Prelude.{◌++◌, List, [], ◌∷◌, map, Bool, true, false, codes}
use Rattle.std.specs.Char.{to_ascii_lowercase}
use Rattle.protobuf_parse_base.specs.Cases.{camel_case_text}
use Rattle.protobuf_parse_syntax.specs.Trees.{OptionSyntax, TypeSyntax, scalar, map_of, named}
use Rattle.protobuf_parse_syntax.specs.Trees.{FieldStatementSyntax, field, group}
use Rattle.protobuf_parse_syntax.specs.Trees.{FieldStatementList, no_field_statements}
use Rattle.protobuf_parse_syntax.specs.Trees.{more_field_statements}
use Rattle.protobuf_parse_syntax.specs.Trees.{MessageStatementSyntax, MessageStatementList}
use Rattle.protobuf_parse_syntax.specs.Trees.{no_statements, more_statements}
use Rattle.protobuf_parse_syntax.specs.Trees.{OneofStatementSyntax, oneof_option, oneof_field}
use Rattle.protobuf_parse_model.specs.Descriptors.{Text}

-- the statements of a group's body
abbrev pub group_body : FieldStatementList → List FieldStatementSyntax
group_body no_field_statements = []
group_body (more_field_statements f fs) = f ∷ group_body fs

-- those of a message inside another
abbrev pub message_body : MessageStatementList → List MessageStatementSyntax
message_body no_statements = []
message_body (more_statements s ss) = s ∷ message_body ss

-- A group's field has the name of the group in lower case.
abbrev pub group_field_name : Text → Text
group_field_name name = map to_ascii_lowercase name

-- the name of a field, or of a group's field
abbrev pub field_statement_name : FieldStatementSyntax → Text
field_statement_name (field f) = f.name
field_statement_name (group place label name number fields) = group_field_name name

-- The entry of the map `foo_bar` is the message `FooBarEntry`.
abbrev pub entry_name : Text → Text
entry_name name = camel_case_text name ++ codes "Entry"

-- whether a type is a map
abbrev pub is_map : TypeSyntax → Bool
is_map (map_of key value) = true
is_map (scalar s) = false
is_map (named n) = false

-- the field that a statement of a oneof declares, if it declares one
abbrev pub oneof_fields : OneofStatementSyntax → List FieldStatementSyntax
oneof_fields (oneof_field f) = f ∷ []
oneof_fields (oneof_option o) = []

-- the option that a statement of a oneof sets, if it sets one
abbrev pub oneof_statement_options : OneofStatementSyntax → List OptionSyntax
oneof_statement_options (oneof_option o) = o.option ∷ []
oneof_statement_options (oneof_field f) = []

-- the groups among the statements of an `extend`: a message stands behind each, and no map stands
-- there
abbrev pub groups : FieldStatementSyntax → List FieldStatementSyntax
groups (field f) = []
groups (group place label name number fields) = group place label name number fields ∷ []
