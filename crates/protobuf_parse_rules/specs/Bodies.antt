-- Where fields, extensions and enums stand: in a message, or in a file outside of its messages.
use Rattle.std.specs.Prelude.{Bool, List, [], ◌∷◌, ◌++◌, map, unwrap_or}
use Rattle.std.specs.Prelude.{bytes_eq, codes}
use Rattle.protobuf_parse_model.specs.Descriptors.{Text, FileDescriptor, FieldDescriptor}
use Rattle.protobuf_parse_model.specs.Descriptors.{EnumDescriptor, MessageParts, Range}
use Rattle.protobuf_parse_model.specs.Descriptors.{ServiceDescriptor}
use Rattle.protobuf_parse_wire.specs.Declarations.{Declaration, messages_declared_in}
use Rattle.protobuf_parse_wire.specs.Declarations.{package_scope}

-- what stands there: what a message has, or what a file has
pub data Content : Type 0 where
  of_message : MessageParts → Content
  of_file : FileDescriptor → Content

-- the path of the file, the scope of what stands there, and what stands there
pub record BodyParts : Type 0 where
  pub file : Text
  pub proto3 : Bool
  pub scope : Text
  pub content : Content

-- the fields of a message
abbrev pub fields_of : Content → List FieldDescriptor
fields_of (of_message m) = m.field
fields_of (of_file f) = []

-- the extensions that stand there
abbrev pub extensions_of : Content → List FieldDescriptor
extensions_of (of_message m) = m.extension
extensions_of (of_file f) = f.extension

-- the enums that stand there
abbrev pub enums_of : Content → List EnumDescriptor
enums_of (of_message m) = m.enum_type
enums_of (of_file f) = f.enum_type

-- the ranges that a message keeps for extensions
abbrev pub extension_ranges : Content → List Range
extension_ranges (of_message m) = m.extension_range
extension_ranges (of_file f) = []

-- the ranges of numbers that a message reserves
abbrev pub reserved_ranges : Content → List Range
reserved_ranges (of_message m) = m.reserved_range
reserved_ranges (of_file f) = []

-- the names that a message reserves
abbrev pub reserved_names : Content → List Text
reserved_names (of_message m) = m.reserved_name
reserved_names (of_file f) = []

-- the services of a file
abbrev pub services_of : Content → List ServiceDescriptor
services_of (of_message m) = []
services_of (of_file f) = f.service

-- the paths that a file imports
abbrev pub imports_of : Content → List Text
imports_of (of_message m) = []
imports_of (of_file f) = f.dependency

-- the proto path of a file
abbrev pub file_path : FileDescriptor → Text
file_path file = unwrap_or file.name []

-- whether a file is one of proto3
abbrev pub is_proto3 : FileDescriptor → Bool
is_proto3 file = bytes_eq (unwrap_or file.syntax []) (codes "proto3")

-- a message of the file with that path
abbrev pub message_body : (path : Text) → (proto3 : Bool) → Declaration → BodyParts
message_body path proto3 d = record {
  file = path;
  proto3 = proto3;
  scope = d.name;
  content = of_message d.parts;
}

-- outside of the file's messages
abbrev pub outer_body : FileDescriptor → BodyParts
outer_body file = record {
  file = file_path file;
  proto3 = is_proto3 file;
  scope = package_scope file.«package»;
  content = of_file file;
}

-- the messages of a file in the order of declaration, each before those inside it; then the file
abbrev pub bodies_in : FileDescriptor → List BodyParts
bodies_in file =
    map (message_body (file_path file) (is_proto3 file)) (messages_declared_in file)
    ++ outer_body file ∷ []
