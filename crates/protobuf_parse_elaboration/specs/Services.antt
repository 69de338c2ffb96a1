-- What the declaration of a service becomes: a ServiceDescriptorProto of
-- google/protobuf/descriptor.proto; and the faults that stand in it, at its methods and at its
-- options. The types of a method are looked up from the package. Protocol Buffers Language
-- Specification, "Service definition" (https://protobuf.dev).
use Rattle.std.specs.Prelude.{List, [], ◌∷◌, ◌++◌, map, flat_map, unwrap_or, bytes_eq}
use Rattle.protobuf_parse_syntax.specs.Trees.{OptionSyntax, OptionStatementSyntax, MethodSyntax}
use Rattle.protobuf_parse_syntax.specs.Trees.{ServiceStatementSyntax, service_method}
use Rattle.protobuf_parse_syntax.specs.Trees.{service_option, ServiceSyntax}
use Rattle.protobuf_parse_model.specs.Descriptors.{MethodDescriptor, ServiceDescriptor}
use Rattle.protobuf_parse_model.specs.Faults.{Fault, placed}
use Rattle.protobuf_parse_model.specs.Duplicates.{NamedAt, duplicates}
use Rattle.protobuf_parse_model.specs.declared.customs.Construct.TheVariants as of
use Rattle.protobuf_parse_model.specs.Environment.{Environment, customs_bytes, type_full_name}
use Rattle.protobuf_parse_model.specs.Environment.{type_missing}
use Rattle.protobuf_parse_model.specs.BuiltinOptions.{service_table, method_table}
use Rattle.protobuf_parse_model.specs.OptionMessages.{service_options, method_options}
use Rattle.protobuf_parse_elaboration.specs.ConstructOptions.{construct_faults}
use Rattle.protobuf_parse_elaboration.specs.Fields.{if_not_told}

-- the method that the statement declares, if it declares one
abbrev pub methods_in : ServiceStatementSyntax → List MethodSyntax
methods_in (service_method m) = m ∷ []
methods_in (service_option o) = []

-- the option that it sets, if it sets one
abbrev pub options_in_service : ServiceStatementSyntax → List OptionSyntax
options_in_service (service_option o) = o.option ∷ []
options_in_service (service_method m) = []

-- the option of a statement
abbrev pub statement_option : OptionStatementSyntax → OptionSyntax
statement_option o = o.option

-- the options of a method, in source order
abbrev pub options_of_method : MethodSyntax → List OptionSyntax
options_of_method m = map statement_option m.options

-- those of a service
abbrev pub options_of_service : ServiceSyntax → List OptionSyntax
options_of_service s = flat_map options_in_service s.body

-- the descriptor of a method
abbrev pub method_of : Environment → MethodSyntax → MethodDescriptor
method_of env m = record {
  name = m.name;
  input_type = unwrap_or (type_full_name env m.input) [];
  output_type = unwrap_or (type_full_name env m.output) [];
  client_streaming = m.client_streaming;
  server_streaming = m.server_streaming;
  options = method_options (customs_bytes env of.Method (options_of_method m))
      (options_of_method m);
}

-- the descriptor of a service
abbrev pub service_of : Environment → ServiceSyntax → ServiceDescriptor
service_of env s = record {
  name = s.name;
  method = map (method_of env) (flat_map methods_in s.body);
  options = service_options (customs_bytes env of.Service (options_of_service s))
      (options_of_service s);
}

-- of a method: E2 or E3 for a type whose name means nothing, once where both types have that name
abbrev pub method_faults : Environment → MethodSyntax → List Fault
method_faults env m =
    placed m.place
    (type_missing env m.input
    ++ if_not_told (bytes_eq m.output m.input) (type_missing env m.output))
    ++ construct_faults env of.Method method_table (options_of_method m)

-- a method as a declaration
abbrev pub method_named : MethodSyntax → NamedAt
method_named m = record { place = m.place; name = m.name }

-- E1 for two methods that have one name; then what stands in each
abbrev pub methods_faults : Environment → List MethodSyntax → List Fault
methods_faults env methods =
    duplicates (map method_named methods) ++ flat_map (method_faults env) methods

-- of a service
abbrev pub service_faults : Environment → ServiceSyntax → List Fault
service_faults env s =
    methods_faults env (flat_map methods_in s.body)
    ++ construct_faults env of.Service service_table (options_of_service s)
