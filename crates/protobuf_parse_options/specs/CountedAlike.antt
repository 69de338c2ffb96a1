-- No public clause rests on this file.
-- That a descriptor declares each name as often as its tree.
use Rattle.std.specs.Prelude.{◌≡◌, List, ◌++◌, map}
use Rattle.protobuf_parse_syntax.specs.Trees.{FileSyntax}
use Rattle.protobuf_parse_model.specs.Descriptors.{Text, FieldDescriptor, EnumDescriptor}
use Rattle.protobuf_parse_model.specs.Descriptors.{FileDescriptor}
use Rattle.protobuf_parse_model.specs.Declarations.{Declared, file_scope}
use Rattle.protobuf_parse_model.specs.Linking.{type_names, extension_names, occurrences}
use Rattle.protobuf_parse_model.specs.Environment.{Environment}
use Rattle.protobuf_parse_elaboration.specs.FileDescriptor.{file_of}
use Rattle.protobuf_parse_wire.specs.Declarations.{Declaration, messages_declared_in}
use Rattle.protobuf_parse_wire.specs.Declarations.{declared_extensions}
use Rattle.protobuf_parse_options.specs.OptionFields.{declared_enums}
use Rattle.protobuf_parse_options.specs.NamesAlike.{HasPackageName}

-- the full names of the messages of a descriptor and of its enums, those of the messages behind
-- maps and groups among them; and of its extensions
abbrev pub message_names : FileDescriptor → List Text
message_names file = map (λ (d : Declaration). d.name) (messages_declared_in file)

abbrev pub enum_names : FileDescriptor → List Text
enum_names file = map (λ (e : Declared EnumDescriptor). e.name) (declared_enums file)

abbrev pub described_types : FileDescriptor → List Text
described_types file = message_names file ++ enum_names file

abbrev pub described_extensions : FileDescriptor → List Text
described_extensions file =
    map (λ (d : Declared FieldDescriptor). d.name) (declared_extensions file)

abbrev pub TypesAreCountedAlike : Type 0
TypesAreCountedAlike =
    (env : Environment) (path : Text) (t : FileSyntax) (name : Text)
    → env.scope ≡ file_scope t → HasPackageName t
    → occurrences name (described_types (file_of env path t)) ≡ occurrences name (type_names t)

abbrev pub ExtensionsAreCountedAlike : Type 0
ExtensionsAreCountedAlike =
    (env : Environment) (path : Text) (t : FileSyntax) (name : Text)
    → env.scope ≡ file_scope t → HasPackageName t
    → occurrences name (described_extensions (file_of env path t))
    ≡ occurrences name (extension_names t)
