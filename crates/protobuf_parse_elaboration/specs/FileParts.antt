-- No public clause rests on this file.
-- What a file says of itself and what its statements declare, as the code collects it.
use Rattle.std.specs.Prelude.{◌≡◌, List, [], ◌++◌, map, flat_map, Option, Some, option_map}
use Rattle.std.specs.Prelude.{string_bytes}
use Rattle.protobuf_parse_syntax.specs.Dependencies.{FileImports, dependencies_view, imports}
use Rattle.protobuf_parse_syntax.specs.Dependencies.{imports_of}
use Rattle.protobuf_parse_syntax.specs.Trees.{StatementSyntax, FileSyntax, package_of}
use Rattle.protobuf_parse_model.specs.Descriptors.{Text, FieldDescriptor, EnumDescriptor}
use Rattle.protobuf_parse_model.specs.Descriptors.{MessageDescriptor, ServiceDescriptor, enum_view}
use Rattle.protobuf_parse_model.specs.Descriptors.{field_view, message_view, service_view}
use Rattle.protobuf_parse_model.specs.Descriptors.{FileDescriptor}
use Rattle.protobuf_parse_model.specs.Options.{FileOptionValues, file_options_view}
use Rattle.protobuf_parse_model.specs.OptionMessages.{file_options}
use Rattle.protobuf_parse_model.specs.BuiltinOptions.{file_table}
use Rattle.protobuf_parse_model.specs.Environment.{Environment, customs_bytes}
use Rattle.protobuf_parse_model.specs.Faults.{Fault}
use Rattle.protobuf_parse_model.specs.declared.customs.Construct.TheVariants as of
use Rattle.protobuf_parse_lexer.specs.declared.lexer.token.Place.{Place}
use Rattle.protobuf_parse_model.specs.Duplicates.{NamedAt}
use Rattle.protobuf_parse_elaboration.specs.declared.constructs.contents.Contents.{Contents}
use Rattle.protobuf_parse_elaboration.specs.declared.constructs.contents.FilePlaces.{FilePlaces}
use Rattle.protobuf_parse_elaboration.specs.FileDescriptor.{file_messages_named, file_enums_named}
use Rattle.protobuf_parse_elaboration.specs.FileDescriptor.{file_extensions_named, services_named}
use Rattle.protobuf_parse_elaboration.specs.declared.constructs.heading.Heading.{Heading}
use Rattle.protobuf_parse_elaboration.specs.ConstructOptions.{construct_faults}
use Rattle.protobuf_parse_elaboration.specs.FileDescriptor.{file_enums_of, file_extensions_of}
use Rattle.protobuf_parse_elaboration.specs.FileDescriptor.{file_messages_of, services_of}
use Rattle.protobuf_parse_elaboration.specs.FileDescriptor.{options_of_statements, syntax_text}

pub record FileParts : Type 0 where
  pub message_type : List MessageDescriptor
  pub enum_type : List EnumDescriptor
  pub service : List ServiceDescriptor
  pub extension : List FieldDescriptor

abbrev pub parts_view : Contents → FileParts
parts_view c =
    record {
      message_type = map message_view c.message_type.items;
      enum_type =
          map enum_view c.enum_type.items;
      service = map service_view c.service.items;
      extension =
          map field_view c.extension.items;
    }

abbrev pub no_parts : FileParts
no_parts = record { message_type = []; enum_type = []; service = []; extension = [] }

-- with one statement more
abbrev pub with_file_statement : Environment → FileParts → StatementSyntax → FileParts
with_file_statement env p s =
    record {
      message_type = p.message_type ++ file_messages_of env s;
      enum_type =
          p.enum_type ++ file_enums_of env s;
      service = p.service ++ services_of env s;
      extension =
          p.extension ++ file_extensions_of env s;
    }

abbrev pub parts_of_file : Environment → List StatementSyntax → FileParts
parts_of_file env ss =
    record {
      message_type = flat_map (file_messages_of env) ss;
      enum_type = flat_map (file_enums_of env) ss;
      service = flat_map (services_of env) ss;
      extension = flat_map (file_extensions_of env) ss;
    }

-- ---- where it declares

abbrev pub places : List NamedAt → List Place
places declared = map (λ (d : NamedAt). d.place) declared

-- the places of what the statements declare
pub record AreFilePlaces (p : FilePlaces) (ss : List StatementSyntax) : Type 0 where
  pub messages : p.messages.items ≡ places (flat_map file_messages_named ss)
  pub enums : p.enums.items ≡ places (flat_map file_enums_named ss)
  pub extensions : p.extensions.items ≡ places (flat_map file_extensions_named ss)
  pub services : p.services.items ≡ places (flat_map services_named ss)

-- ---- what it says of itself

pub record FileHeading : Type 0 where
  pub name : Text
  pub syntax : Text
  pub package_name : Option Text
  pub dependencies : FileImports
  pub options : Option FileOptionValues

abbrev pub heading_view : Heading → FileHeading
heading_view h = record {
  name = string_bytes h.name;
  syntax = string_bytes h.syntax;
  package_name = option_map string_bytes h.package_name;
  dependencies = dependencies_view h.imports;
  options = option_map file_options_view h.options;
}

-- that of the file that is known by the path
abbrev pub heading_of : Environment → Text → FileSyntax → FileHeading
heading_of env path t = record {
  name = path;
  syntax = syntax_text t.syntax;
  package_name = package_of t;
  dependencies = imports_of (imports t.statements);
  options = file_options (customs_bytes env of.File (options_of_statements t.statements))
      (options_of_statements t.statements);
}

-- what is wrong in its options
abbrev pub heading_faults : Environment → FileSyntax → List Fault
heading_faults env t =
    construct_faults env of.File file_table (options_of_statements t.statements)

-- a file of this heading and these parts
abbrev pub file_with : FileHeading → FileParts → FileDescriptor
file_with heading parts = record {
  name = Some heading.name;
  «package» = heading.package_name;
  syntax = Some heading.syntax;
  dependency = heading.dependencies.paths;
  public_dependency = heading.dependencies.public;
  weak_dependency = heading.dependencies.weak;
  message_type = parts.message_type;
  enum_type = parts.enum_type;
  service = parts.service;
  extension = parts.extension;
  options = heading.options;
}
