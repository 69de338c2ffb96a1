-- What the declaration of a message becomes: a DescriptorProto of google/protobuf/descriptor.proto;
-- and the faults that stand in it: those of the statements of its body, each at its statement; its
-- names that stand twice; and those of its ranges and its options. Where one stands the descriptor
-- says nothing of what it was to be. A message of a file becomes what the same message inside
-- another does, in the file's environment.
--
-- Every list is in source order. Behind a map stands the message of its entries, behind a group a
-- message with the group's fields; they stand among the nested messages where the field stands. In
-- proto3 each field of the body with the label `optional` is alone in a oneof of its own. Ranges
-- end behind their last number. Protocol Buffers Language Specification (proto2), "Message
-- definition", "Reserved", "Extensions", "Oneof and oneof field", "Group field", "Map field",
-- "Extend"; Protocol Buffers Language Guide, "Maps", "Backwards compatibility", and "Field Presence
-- in proto3" (https://protobuf.dev).
use Rattle.std.specs.Prelude.{ℕ, ℤ, pos, ◌+◌, ◌+ℤ◌, Bool, false, List, [], ◌∷◌, ◌++◌, map, flat_map}
use Rattle.std.specs.Prelude.{length, codes, Option, Some, None, if◌then◌else◌}
use Rattle.std.specs.Ordering.{int_eq}
use Rattle.std.specs.List.{list_any}
use Rattle.protobuf_parse_lexer.specs.declared.lexer.token.Place.{Place}
use Rattle.protobuf_parse_syntax.specs.Trees.{OptionSyntax, TypeSyntax, scalar, map_of, named}
use Rattle.protobuf_parse_syntax.specs.Trees.{FieldStatementSyntax, field, group, RangeSyntax}
use Rattle.protobuf_parse_syntax.specs.Trees.{ReservedSyntax, OneofSyntax, ExtendSyntax}
use Rattle.protobuf_parse_syntax.specs.Trees.{MessageStatementSyntax, message_reserved}
use Rattle.protobuf_parse_syntax.specs.Trees.{message_oneof, message_extend, message_message}
use Rattle.protobuf_parse_syntax.specs.Trees.{message_enum, message_extensions, message_option}
use Rattle.protobuf_parse_syntax.specs.Trees.{message_field, MessageStatementList, no_statements}
use Rattle.protobuf_parse_syntax.specs.Trees.{more_statements}
use Rattle.protobuf_parse_syntax.specs.declared.tree.Syntax.{Syntax}
use Rattle.protobuf_parse_syntax.specs.declared.tree.field.Label.{Label}
use Rattle.protobuf_parse_syntax.specs.declared.tree.field.Label.TheVariants.{Optional}
use Rattle.protobuf_parse_model.specs.declared.error.ElabErrorKind.TheVariants.{RangeEndOverflow}
use Rattle.protobuf_parse_model.specs.Options.{MessageOptionValues}
use Rattle.protobuf_parse_model.specs.Descriptors.{Text, Range, FieldDescriptor, OneofDescriptor}
use Rattle.protobuf_parse_model.specs.Descriptors.{EnumDescriptor, MessageDescriptor, a_message}
use Rattle.protobuf_parse_model.specs.Descriptors.{no_messages, messages_of_list}
use Rattle.protobuf_parse_model.specs.Faults.{Wrong, Fault, placed}
use Rattle.protobuf_parse_model.specs.Statements.{group_body, message_body, entry_name}
use Rattle.protobuf_parse_model.specs.Statements.{field_statement_name, oneof_fields, groups}
use Rattle.protobuf_parse_model.specs.Statements as statements
use Rattle.protobuf_parse_model.specs.Duplicates.{NamedAt, fault_when, duplicates}
use Rattle.protobuf_parse_model.specs.declared.customs.Construct.TheVariants as of
use Rattle.protobuf_parse_model.specs.Environment.{Environment, customs_bytes, env_inside}
use Rattle.protobuf_parse_model.specs.Environment.{type_full_name, type_missing}
use Rattle.protobuf_parse_model.specs.BuiltinOptions.{message_table, oneof_table}
use Rattle.protobuf_parse_model.specs.OptionMessages.{message_options, entry_options, oneof_options}
use Rattle.protobuf_parse_elaboration.specs.ConstructOptions.{construct_faults}
use Rattle.protobuf_parse_elaboration.specs.Fields.{FieldTypeOf, type_of, says_optional, FieldOwner}
use Rattle.protobuf_parse_elaboration.specs.Fields.{of_message, field_statement_of, field_named}
use Rattle.protobuf_parse_elaboration.specs.Fields.{fields_of_group, field_statement_faults}
use Rattle.protobuf_parse_elaboration.specs.Fields.{extension_faults}
use Rattle.protobuf_parse_elaboration.specs.Enums.{enum_of, enum_faults, ranges_reserved}
use Rattle.protobuf_parse_elaboration.specs.Enums.{names_reserved}

-- ---- the messages behind maps and groups

-- a message with fields and options alone
abbrev pub message_with : Text → List FieldDescriptor → Option MessageOptionValues
    → MessageDescriptor
message_with name fields options = a_message (record {
  name = name;
  field = fields;
  oneof_decl = [];
  enum_type = [];
  extension = [];
  extension_range = [];
  reserved_range = [];
  reserved_name = [];
  options = options;
}) no_messages

-- `key` and `value`: the types are those of the map, looked up from where it stands
abbrev pub entry_field : Text → ℤ → FieldTypeOf → FieldDescriptor
entry_field name number type_ = record {
  name = name;
  number = number;
  label = Optional;
  type_ = type_.kind;
  type_name = type_.name;
  extendee = None;
  default_value = None;
  oneof_index = None;
  json_name = name;
  proto3_optional = false;
  options = None;
}

-- the message of a map's entries, by the name of the field and the types of key and value
abbrev pub entry_message : Text → FieldTypeOf → FieldTypeOf → MessageDescriptor
entry_message name key value =
    message_with (entry_name name)
    (entry_field (codes "key") (pos 1) key ∷ entry_field (codes "value") (pos 2) value ∷ [])
    entry_options

-- the same by the types as they are written
abbrev pub entry_of : Environment → Text → TypeSyntax → TypeSyntax → MessageDescriptor
entry_of env name key value = entry_message name (type_of env name key) (type_of env name value)

-- the message of the entries, where the field of that name and type is a map
abbrev pub entries_of : Environment → Text → TypeSyntax → List MessageDescriptor
entries_of env name (map_of key value) = entry_of env name key value ∷ []
entries_of env name (scalar s) = []
entries_of env name (named n) = []

-- the message of a group
abbrev pub group_message : Environment → Text → List FieldStatementSyntax → MessageDescriptor
group_message env name fields = message_with name (fields_of_group env fields) None

-- the message behind a field, if one stands there
abbrev pub messages_behind : Environment → FieldStatementSyntax → List MessageDescriptor
messages_behind env (field f) = entries_of env f.name f.type_
messages_behind env (group at label name number fields) =
    group_message env name (group_body fields) ∷ []

-- ---- oneofs

-- the label of a field or a group, as it is written
abbrev pub statement_label : FieldStatementSyntax → Option Label
statement_label (field f) = f.label
statement_label (group at label name number fields) = label

-- in proto3 a field with the label `optional` has a oneof of its own
abbrev pub has_own_oneof : Environment → FieldStatementSyntax → Bool
has_own_oneof env f = says_optional env.syntax (statement_label f)

-- the oneof of the field of that name: its name has an underscore before it
abbrev pub own_oneof_of : Text → OneofDescriptor
own_oneof_of name = record { name = codes "_" ++ name; options = None }

-- the oneof that the field is alone in
abbrev pub own_oneof : FieldStatementSyntax → OneofDescriptor
own_oneof f = own_oneof_of (field_statement_name f)

-- the options of a oneof, in source order
abbrev pub options_in_oneof : OneofSyntax → List OptionSyntax
options_in_oneof o = flat_map statements.oneof_statement_options o.body

-- the descriptor of a oneof
abbrev pub oneof_of : Environment → OneofSyntax → OneofDescriptor
oneof_of env o =
    record {
      name = o.name;
      options =
          oneof_options (customs_bytes env of.Oneof (options_in_oneof o)) (options_in_oneof o);
    }

-- the oneofs of a statement: the one that it declares, or that of its field
abbrev pub oneofs_of : Environment → MessageStatementSyntax → List OneofDescriptor
oneofs_of env (message_oneof o) = oneof_of env o ∷ []
oneofs_of env (message_field f) = if has_own_oneof env f then own_oneof f ∷ [] else []
oneofs_of env _ = []

-- ---- fields

-- in the oneof at that place
abbrev pub at_oneof : ℕ → FieldOwner
at_oneof index = record { extendee = None; oneof_index = Some index }

-- the fields of a statement before which so many oneofs stand
abbrev pub fields_of : Environment → ℕ → MessageStatementSyntax → List FieldDescriptor
fields_of env index (message_field f) =
    field_statement_of env (if has_own_oneof env f then at_oneof index else of_message) f ∷ []
fields_of env index (message_oneof o) =
    map (field_statement_of env (at_oneof index)) (flat_map oneof_fields o.body)
fields_of env index _ = []

-- the fields of these statements, before which so many oneofs stand
abbrev pub fields_from : Environment → ℕ → List MessageStatementSyntax → List FieldDescriptor
fields_from env index [] = []
fields_from env index (s ∷ ss) = fields_of env index s
    ++ fields_from env (index + length (oneofs_of env s)) ss

-- ---- extensions

-- a field that extends the message of that name
abbrev pub extending : Environment → Text → FieldOwner
extending env extendee = record { extendee = type_full_name env extendee; oneof_index = None }

-- the extensions of an `extend`
abbrev pub extend_fields : Environment → ExtendSyntax → List FieldDescriptor
extend_fields env e = map (field_statement_of env (extending env e.extendee)) e.fields

-- E2 or E3 for an extendee that means nothing, where something extends it
abbrev pub extendee_faults : Environment → Text → List FieldStatementSyntax → List Wrong
extendee_faults env extendee [] = []
extendee_faults env extendee (f ∷ fs) = type_missing env extendee

-- what is wrong in an `extend`
abbrev pub extend_faults : Environment → ExtendSyntax → List Fault
extend_faults env e = placed e.place (extendee_faults env e.extendee e.fields)
    ++ flat_map (extension_faults env) e.fields

-- the extensions of a statement
abbrev pub extended_of : Environment → MessageStatementSyntax → List FieldDescriptor
extended_of env (message_extend e) = extend_fields env e
extended_of env _ = []

-- ---- ranges, names, enums and options

-- the ranges that a statement keeps for extensions
abbrev pub extension_ranges : MessageStatementSyntax → List RangeSyntax
extension_ranges (message_extensions e) = e.ranges
extension_ranges _ = []

-- what it reserves
abbrev pub reserves : MessageStatementSyntax → List ReservedSyntax
reserves (message_reserved r) = r.reserved ∷ []
reserves _ = []

-- whether the last number of the range is the largest
abbrev pub is_endless : RangeSyntax → Bool
is_endless r = int_eq r.to (pos 2147483647)

-- up to before the number behind the last
abbrev pub exclusive : RangeSyntax → Range
exclusive r =
    record { start = r.from; end = if is_endless r then r.to else r.to +ℤ pos 1 }

-- E7 for a statement with a range whose last number is the largest
abbrev pub ranges_faults : Text → List RangeSyntax → List Wrong
ranges_faults name rs = fault_when (list_any is_endless rs) RangeEndOverflow name

-- what is wrong in the ranges of a statement of the message of that name
abbrev pub range_faults : Text → MessageStatementSyntax → List Fault
range_faults name (message_extensions e) = placed e.place (ranges_faults name e.ranges)
range_faults name (message_reserved r) =
    placed r.place (ranges_faults name (ranges_reserved r.reserved))
range_faults name _ = []

-- the enum of a statement
abbrev pub enums_of : Environment → MessageStatementSyntax → List EnumDescriptor
enums_of env (message_enum e) = enum_of env e ∷ []
enums_of env _ = []

-- the option that it sets
abbrev pub options_in_message : MessageStatementSyntax → List OptionSyntax
options_in_message (message_option o) = o.option ∷ []
options_in_message _ = []

-- the options of a message, in source order
abbrev pub options_of_body : List MessageStatementSyntax → List OptionSyntax
options_of_body body = flat_map options_in_message body

-- ---- messages

-- the message of that name with that body and those messages inside it; its own options are seen
-- from where it stands
abbrev pub message_from : Environment → Text → List MessageStatementSyntax → List MessageDescriptor
    → MessageDescriptor
message_from env name body nested = a_message (record {
  name = name;
  field = fields_from (env_inside env name) 0 body;
  oneof_decl = flat_map (oneofs_of (env_inside env name)) body;
  enum_type = flat_map (enums_of (env_inside env name)) body;
  extension = flat_map (extended_of (env_inside env name)) body;
  extension_range = map exclusive (flat_map extension_ranges body);
  reserved_range = map exclusive (flat_map ranges_reserved (flat_map reserves body));
  reserved_name = flat_map names_reserved (flat_map reserves body);
  options = message_options (customs_bytes env of.Message (options_of_body body))
      (options_of_body body);
}) (messages_of_list nested)

abbrev mutual
  -- the messages of a statement: those written there, and those behind maps and groups, of an
  -- `extend` behind its groups alone
  pub nested_of : Environment → MessageStatementSyntax → List MessageDescriptor
  nested_of env (message_message at name body) =
      message_from env name (message_body body) (nested_in (env_inside env name) body) ∷ []
  nested_of env (message_field f) = messages_behind env f
  nested_of env (message_oneof o) = flat_map (messages_behind env) (flat_map oneof_fields o.body)
  nested_of env (message_extend e) = flat_map (messages_behind env) (flat_map groups e.fields)
  nested_of env _ = []

  -- those of all statements of a body
  pub nested_in : Environment → MessageStatementList → List MessageDescriptor
  nested_in env no_statements = []
  nested_in env (more_statements s ss) = nested_of env s ++ nested_in env ss

-- ---- what the statements of a body declare, as declarations

-- its fields
abbrev pub fields_named : MessageStatementSyntax → List NamedAt
fields_named (message_field f) = field_named f ∷ []
fields_named (message_oneof o) = map field_named (flat_map oneof_fields o.body)
fields_named _ = []

-- the oneof that a field is alone in stands where the field stands
abbrev pub own_oneof_named : FieldStatementSyntax → NamedAt
own_oneof_named f =
    record { place = (field_named f).place; name = codes "_" ++ field_statement_name f }

-- its oneofs
abbrev pub oneofs_named : Syntax → MessageStatementSyntax → List NamedAt
oneofs_named syntax (message_oneof o) = record { place = o.place; name = o.name } ∷ []
oneofs_named syntax (message_field f) =
    if says_optional syntax (statement_label f) then own_oneof_named f ∷ [] else []
oneofs_named syntax _ = []

-- its extensions
abbrev pub extensions_named : MessageStatementSyntax → List NamedAt
extensions_named (message_extend e) = map field_named e.fields
extensions_named _ = []

-- its enum
abbrev pub enums_named : MessageStatementSyntax → List NamedAt
enums_named (message_enum e) = record { place = e.place; name = e.name } ∷ []
enums_named _ = []

-- the message behind a map stands where the field stands
abbrev pub entries_named : Place → Text → TypeSyntax → List NamedAt
entries_named place name (map_of key value) =
    record { place = place; name = entry_name name } ∷ []
entries_named place name (scalar s) = []
entries_named place name (named n) = []

-- the message behind a map or a group
abbrev pub behind_named : FieldStatementSyntax → List NamedAt
behind_named (field f) = entries_named f.place f.name f.type_
behind_named (group at label name number fields) = record { place = at; name = name } ∷ []

-- its messages, those behind maps and groups among them
abbrev pub messages_named : MessageStatementSyntax → List NamedAt
messages_named (message_message at name body) = record { place = at; name = name } ∷ []
messages_named (message_field f) = behind_named f
messages_named (message_oneof o) = flat_map behind_named (flat_map oneof_fields o.body)
messages_named (message_extend e) = flat_map behind_named (flat_map groups e.fields)
messages_named _ = []

-- ---- faults

-- E1 for two fields, oneofs, extensions, enums or messages of one body that have one name
abbrev pub body_duplicates : Syntax → List MessageStatementSyntax → List Fault
body_duplicates syntax body =
    duplicates (flat_map fields_named body)
    ++ duplicates (flat_map (oneofs_named syntax) body)
    ++ duplicates (flat_map extensions_named body)
    ++ duplicates (flat_map enums_named body)
    ++ duplicates (flat_map messages_named body)

-- of the message of that name, in its ranges and its options
abbrev pub rest_faults : Environment → Text → List MessageStatementSyntax → List Fault
rest_faults env name body = flat_map (range_faults name) body
    ++ construct_faults env of.Message message_table (options_of_body body)

-- of the message of that name, but those that stand in one statement of its body
abbrev pub whole_faults : Environment → Text → List MessageStatementSyntax → List Fault
whole_faults env name body = body_duplicates env.syntax body ++ rest_faults env name body

-- of a oneof
abbrev pub oneof_faults : Environment → OneofSyntax → List Fault
oneof_faults env o =
    flat_map (field_statement_faults env) (flat_map oneof_fields o.body)
    ++ construct_faults env of.Oneof oneof_table (options_in_oneof o)

abbrev mutual
  -- of a statement of a body
  pub statement_faults : Environment → MessageStatementSyntax → List Fault
  statement_faults env (message_message at name body) =
      faults_in (env_inside env name) body ++ whole_faults env name (message_body body)
  statement_faults env (message_field f) = field_statement_faults env f
  statement_faults env (message_oneof o) = oneof_faults env o
  statement_faults env (message_extend e) = extend_faults env e
  statement_faults env (message_enum e) = enum_faults env e
  statement_faults env _ = []

  -- of all statements of a body
  pub faults_in : Environment → MessageStatementList → List Fault
  faults_in env no_statements = []
  faults_in env (more_statements s ss) = statement_faults env s ++ faults_in env ss
