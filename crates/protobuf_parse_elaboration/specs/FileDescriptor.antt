-- What a file becomes: a FileDescriptorProto of google/protobuf/descriptor.proto; and the faults
-- that stand in it: those of its options, then those of its statements in source order, then its
-- names that stand twice. Where one stands the descriptor says nothing of what it was to be.
--
-- Which files a file sees, and which it reaches by its imports, are given as lists, the file itself
-- among them. Protocol Buffers Language Specification, "Proto file", "Import Statement", "Package"
-- (https://protobuf.dev).
use Rattle.std.specs.Prelude.{List, [], ◌∷◌, ◌++◌, flat_map, codes, Some}
use Rattle.protobuf_parse_syntax.specs.Trees.{OptionSyntax, StatementSyntax, file_option}
use Rattle.protobuf_parse_syntax.specs.Trees.{file_message, file_enum, file_extend, file_service}
use Rattle.protobuf_parse_syntax.specs.Trees.{FileSyntax, package_of, nested_message}
use Rattle.protobuf_parse_syntax.specs.Trees.{message_enum, message_extend}
use Rattle.protobuf_parse_syntax.specs.Dependencies.{imports, imports_of}
use Rattle.protobuf_parse_syntax.specs.declared.tree.Syntax.{Syntax}
use Rattle.protobuf_parse_syntax.specs.declared.tree.Syntax.TheVariants.{Proto2, Proto3}
use Rattle.protobuf_parse_model.specs.Descriptors.{Text, FieldDescriptor, EnumDescriptor}
use Rattle.protobuf_parse_model.specs.Descriptors.{MessageDescriptor, ServiceDescriptor}
use Rattle.protobuf_parse_model.specs.Descriptors.{FileDescriptor}
use Rattle.protobuf_parse_model.specs.Faults.{Fault}
use Rattle.protobuf_parse_model.specs.Declarations.{DeclaredType, file_scope, file_types}
use Rattle.protobuf_parse_model.specs.Lookup.{declared}
use Rattle.protobuf_parse_model.specs.Duplicates.{NamedAt, duplicates}
use Rattle.protobuf_parse_model.specs.declared.customs.Construct.TheVariants as of
use Rattle.protobuf_parse_model.specs.Environment.{Environment, Customs, customs_bytes}
use Rattle.protobuf_parse_model.specs.BuiltinOptions.{file_table}
use Rattle.protobuf_parse_model.specs.OptionMessages.{file_options}
use Rattle.protobuf_parse_elaboration.specs.ConstructOptions.{construct_faults}
use Rattle.protobuf_parse_elaboration.specs.Enums.{enum_of, enum_faults}
use Rattle.protobuf_parse_elaboration.specs.Messages.{nested_of, statement_faults}
use Rattle.protobuf_parse_elaboration.specs.Messages.{extend_fields, extend_faults, enums_named}
use Rattle.protobuf_parse_elaboration.specs.Messages.{extensions_named, messages_named}
use Rattle.protobuf_parse_elaboration.specs.Services.{service_of, service_faults}

-- ---- the statements of a file

-- the option that the statement sets, if it sets one
abbrev pub options_in_file : StatementSyntax → List OptionSyntax
options_in_file (file_option o) = o.option ∷ []
options_in_file _ = []

-- the options of a file, in source order
abbrev pub options_of_statements : List StatementSyntax → List OptionSyntax
options_of_statements ss = flat_map options_in_file ss

-- ---- what the file sees

-- the messages and enums that files declare
abbrev pub types_of_files : List FileSyntax → List DeclaredType
types_of_files files = flat_map file_types files

-- The file's environment, where it sees these files.
abbrev pub environment : List FileSyntax → Customs → FileSyntax → Environment
environment seen customs t = record {
  syntax = t.syntax;
  types = declared (types_of_files seen);
  scope = file_scope t;
  customs = customs;
}

-- ---- the descriptor

-- the messages of a statement: those written there, and those behind the groups of an `extend`, as
-- the same statement of a message has them
abbrev pub file_messages_of : Environment → StatementSyntax → List MessageDescriptor
file_messages_of env (file_message m) = nested_of env (nested_message m)
file_messages_of env (file_extend e) = nested_of env (message_extend e)
file_messages_of env _ = []

-- the extensions of a statement
abbrev pub file_extensions_of : Environment → StatementSyntax → List FieldDescriptor
file_extensions_of env (file_extend e) = extend_fields env e
file_extensions_of env _ = []

-- its enum
abbrev pub file_enums_of : Environment → StatementSyntax → List EnumDescriptor
file_enums_of env (file_enum e) = enum_of env e ∷ []
file_enums_of env _ = []

-- its service
abbrev pub services_of : Environment → StatementSyntax → List ServiceDescriptor
services_of env (file_service s) = service_of env s ∷ []
services_of env _ = []

-- the language as descriptors say it
abbrev pub syntax_text : Syntax → Text
syntax_text Proto2 = codes "proto2"
syntax_text Proto3 = codes "proto3"

-- the file that is known by the path
abbrev pub file_of : Environment → Text → FileSyntax → FileDescriptor
file_of env path t = record {
  name = Some path;
  «package» = package_of t;
  syntax = Some (syntax_text t.syntax);
  dependency = (imports_of (imports t.statements)).paths;
  public_dependency = (imports_of (imports t.statements)).public;
  weak_dependency = (imports_of (imports t.statements)).weak;
  message_type = flat_map (file_messages_of env) t.statements;
  enum_type = flat_map (file_enums_of env) t.statements;
  service = flat_map (services_of env) t.statements;
  extension = flat_map (file_extensions_of env) t.statements;
  options = file_options (customs_bytes env of.File (options_of_statements t.statements))
      (options_of_statements t.statements);
}

-- ---- faults

-- of a statement of a file; a message has those that it has inside another
abbrev pub file_faults_of : Environment → StatementSyntax → List Fault
file_faults_of env (file_message m) = statement_faults env (nested_message m)
file_faults_of env (file_enum e) = enum_faults env e
file_faults_of env (file_extend e) = extend_faults env e
file_faults_of env (file_service s) = service_faults env s
file_faults_of env _ = []

-- what the statements of a file declare; those that a message may have too declare the same there
abbrev pub file_messages_named : StatementSyntax → List NamedAt
file_messages_named (file_message m) = messages_named (nested_message m)
file_messages_named (file_extend e) = messages_named (message_extend e)
file_messages_named _ = []

-- its enum, as a declaration
abbrev pub file_enums_named : StatementSyntax → List NamedAt
file_enums_named (file_enum e) = enums_named (message_enum e)
file_enums_named _ = []

-- its extensions, as declarations
abbrev pub file_extensions_named : StatementSyntax → List NamedAt
file_extensions_named (file_extend e) = extensions_named (message_extend e)
file_extensions_named _ = []

-- its service, as a declaration
abbrev pub services_named : StatementSyntax → List NamedAt
services_named (file_service s) = record { place = s.place; name = s.name } ∷ []
services_named _ = []

-- E1 for two messages, enums, extensions or services of the file that have one name
abbrev pub file_duplicates : List StatementSyntax → List Fault
file_duplicates ss =
    duplicates (flat_map file_messages_named ss)
    ++ duplicates (flat_map file_enums_named ss)
    ++ duplicates (flat_map file_extensions_named ss)
    ++ duplicates (flat_map services_named ss)

-- of the file alone
abbrev pub file_faults : Environment → FileSyntax → List Fault
file_faults env t =
    construct_faults env of.File file_table (options_of_statements t.statements)
    ++ flat_map (file_faults_of env) t.statements
    ++ file_duplicates t.statements
