-- No public clause rests on this file.
-- What the parts that the code makes of a construct say.
use Rattle.std.specs.Prelude.{ℕ, List, ◌++◌, map, flat_map, length, string_bytes, String, Option}
use Rattle.std.specs.Prelude.{option_map, option_to_list}
use Rattle.std.specs.Borrow.{Bor}
use Rattle.std.specs.Global.{Global, Vec, Box}
use Rattle.protobuf_parse_base.specs.DeclaredNames.{name_bytes}
use Rattle.protobuf_parse_elaboration.specs.declared.constructs.types.ResolvedType.{ResolvedType}
use Rattle.protobuf_parse_model.specs.Descriptors.{a_message as message_descriptor}
use Rattle.protobuf_parse_model.specs.Descriptors.{messages_of_list, Text, Range}
use Rattle.protobuf_parse_model.specs.Descriptors.{extension_range_view, reserved_range_view}
use Rattle.protobuf_parse_model.specs.Descriptors.{FieldDescriptor, OneofDescriptor, EnumDescriptor}
use Rattle.protobuf_parse_model.specs.Descriptors.{MessageDescriptor, field_view, oneof_view}
use Rattle.protobuf_parse_model.specs.Descriptors.{enum_view, message_view}
use Rattle.protobuf_parse_model.specs.declared.descriptor.FieldType.{FieldType}
use Rattle.protobuf_parse_model.specs.declared.descriptor.DescriptorProto.{DescriptorProto}
use Rattle.protobuf_parse_model.specs.Statements.{groups}
use Rattle.protobuf_parse_model.specs.declared.descriptor.ReservedRange.{ReservedRange}
use Rattle.protobuf_parse_model.specs.Options.{FieldOptionValues, MessageOptionValues}
use Rattle.protobuf_parse_model.specs.Options.{field_options_view, message_options_view}
use Rattle.protobuf_parse_model.specs.OptionMessages.{field_options, message_options}
use Rattle.protobuf_parse_model.specs.declared.customs.Construct.TheVariants as of
use Rattle.protobuf_parse_model.specs.Environment.{Environment, customs_bytes}
use Rattle.protobuf_parse_elaboration.specs.declared.constructs.owner.FieldOwner.{FieldOwner}
use Rattle.protobuf_parse_elaboration.specs.Fields as fields
use Rattle.protobuf_parse_elaboration.specs.declared.constructs.field.FieldSaid.{FieldSaid}
use Rattle.protobuf_parse_elaboration.specs.declared.constructs.statement.DeclaredField.{DeclaredField}
use Rattle.protobuf_parse_elaboration.specs.Messages.{messages_behind, oneofs_of, fields_of}
use Rattle.protobuf_parse_elaboration.specs.Messages.{fields_from, nested_of, enums_of, extended_of}
use Rattle.protobuf_parse_elaboration.specs.Messages.{extension_ranges, reserves, options_of_body}
use Rattle.protobuf_parse_syntax.specs.Trees.{OptionSyntax, FieldStatementSyntax}
use Rattle.protobuf_parse_syntax.specs.Trees.{MessageStatementSyntax}
use Rattle.protobuf_parse_syntax.specs.Trees.{MethodSyntax, method_syntax}
use Rattle.protobuf_parse_syntax.specs.declared.tree.declaration.Method.{Method}
use Rattle.protobuf_parse_elaboration.specs.Messages.{exclusive}
use Rattle.protobuf_parse_elaboration.specs.Enums.{names_reserved, ranges_reserved}
use Rattle.protobuf_parse_elaboration.specs.declared.constructs.rest.Rest.{Rest}
use Rattle.protobuf_parse_elaboration.specs.declared.constructs.lists.DeclaredFields.{DeclaredFields}
use Rattle.protobuf_parse_elaboration.specs.declared.constructs.body.Body.{Body}
use Rattle.protobuf_parse_elaboration.specs.Fields.{FieldTypeOf}

abbrev pub resolved_view : ResolvedType → FieldTypeOf
resolved_view r = record { kind = r.kind; name = option_map string_bytes r.name }

-- what references to methods see
abbrev pub methods_seen : List (Bor Method) → List MethodSyntax
methods_seen ms = map (λ (m : Bor Method). method_syntax m.now) ms

-- a field, and the message behind it, if one stands there
pub record FieldAndMessage : Type 0 where
  pub field : FieldDescriptor
  pub behind : List MessageDescriptor

-- the message behind a field, out of its box
abbrev pub behind_seen : Option (Box DescriptorProto) → List DescriptorProto
behind_seen behind = option_to_list (option_map (λ b. b.value) behind)

abbrev pub declared_view : DeclaredField → FieldAndMessage
declared_view d =
    record { field = field_view d.field; behind = map message_view (behind_seen d.behind) }

abbrev pub field_declared_by : Environment → fields.FieldOwner → FieldStatementSyntax
    → FieldAndMessage
field_declared_by env place s =
    record { field = fields.field_statement_of env place s; behind = messages_behind env s }

-- the same in an `extend`, where a message stands behind a group alone
abbrev pub extension_declared_by : Environment → fields.FieldOwner → FieldStatementSyntax
    → FieldAndMessage
extension_declared_by env place s =
    record {
      field = fields.field_statement_of env place s;
      behind = flat_map (messages_behind env) (groups s);
    }

-- fields, and the messages behind them
pub record FieldsAndMessages : Type 0 where
  pub fields : List FieldDescriptor
  pub behind : List MessageDescriptor

abbrev pub fields_view : DeclaredFields → FieldsAndMessages
fields_view d =
    record { fields = map field_view d.fields.items; behind = map message_view d.behind.items }

abbrev pub extensions_declared : Environment → fields.FieldOwner → List FieldStatementSyntax
    → FieldsAndMessages
extensions_declared env place ss =
    record {
      fields = map (fields.field_statement_of env place) ss;
      behind =
          flat_map (messages_behind env) (flat_map groups ss);
    }

-- what the statements of a body declare, so far
pub record BodyParts : Type 0 where
  pub field : List FieldDescriptor
  pub oneof_decl : List OneofDescriptor
  pub nested_type : List MessageDescriptor
  pub enum_type : List EnumDescriptor
  pub extension : List FieldDescriptor

abbrev pub body_view : Body → BodyParts
body_view b =
    record {
      field = map field_view b.field.items;
      oneof_decl = map oneof_view b.oneof_decl.items;
      nested_type = map message_view b.nested_type.items;
      enum_type = map enum_view b.enum_type.items;
      extension = map field_view b.extension.items;
    }

-- with one statement more
abbrev pub with_body_statement : Environment → BodyParts → MessageStatementSyntax → BodyParts
with_body_statement env b s =
    record {
      field = b.field ++ fields_of env (length b.oneof_decl) s;
      oneof_decl =
          b.oneof_decl ++ oneofs_of env s;
      nested_type = b.nested_type ++ nested_of env s;
      enum_type =
          b.enum_type ++ enums_of env s;
      extension = b.extension ++ extended_of env s;
    }

abbrev pub body_of : Environment → List MessageStatementSyntax → BodyParts
body_of env ss =
    record {
      field = fields_from env 0 ss;
      oneof_decl = flat_map (oneofs_of env) ss;
      nested_type =
          flat_map (nested_of env) ss;
      enum_type = flat_map (enums_of env) ss;
      extension =
          flat_map (extended_of env) ss;
    }

-- the ranges and the options of a message
pub record RestParts : Type 0 where
  pub extension_range : List Range
  pub reserved_range : List Range
  pub reserved_name : List Text
  pub options : Option MessageOptionValues

abbrev pub rest_view : Rest → RestParts
rest_view r =
    record {
      extension_range = map extension_range_view r.extension_range.items;
      reserved_range =
          map reserved_range_view r.reserved_range.items;
      reserved_name =
          map string_bytes r.reserved_name.items;
      options = option_map message_options_view r.options;
    }

abbrev pub reserved_views : Vec ReservedRange × Vec (String Global) → List Range × List Text
reserved_views p = (map reserved_range_view p.0.items, map string_bytes p.1.items)

abbrev pub message_of_both : Text → BodyParts → RestParts → MessageDescriptor
message_of_both name b r =
    message_descriptor
    (record {
      name = name;
      field = b.field;
      oneof_decl = b.oneof_decl;
      enum_type = b.enum_type;
      extension = b.extension;
      extension_range = r.extension_range;
      reserved_range = r.reserved_range;
      reserved_name = r.reserved_name;
      options = r.options;
    }) (messages_of_list b.nested_type)

abbrev pub rest_of : Environment → List MessageStatementSyntax → RestParts
rest_of env body =
    record {
      extension_range = map exclusive (flat_map extension_ranges body);
      reserved_range =
          map exclusive (flat_map ranges_reserved (flat_map reserves body));
      reserved_name =
          flat_map names_reserved (flat_map reserves body);
      options =
          message_options (customs_bytes env of.Message (options_of_body body))
          (options_of_body body);
    }

-- what the options of a field say
pub record Said : Type 0 where
  pub default_value : Option Text
  pub json_name : Text
  pub options : Option FieldOptionValues

abbrev pub said_view : FieldSaid → Said
said_view s =
    record {
      default_value = option_map string_bytes s.default_value;
      json_name =
          name_bytes s.json_name;
      options = option_map field_options_view s.options;
    }

abbrev pub said_by : Environment → FieldType → Text → List OptionSyntax → Said
said_by env type_ name os =
    record {
      default_value = fields.default_of type_ os;
      json_name = fields.field_json_name name os;
      options = field_options (customs_bytes env of.Field os) os;
    }

abbrev pub field_owner_view : FieldOwner → fields.FieldOwner
field_owner_view p =
    record {
      extendee = option_map (λ (s : Bor (List ℕ)). s.now) p.extendee;
      oneof_index =
          p.oneof_index;
    }
