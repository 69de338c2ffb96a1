-- What files declare, by full names, in the order of files and of what stands in them: the messages
-- of a file, each before those inside it; enums and extensions by what they stand in, those of the
-- messages first and then those of the file.
use Rattle.std.specs.Prelude.{List, [], ◌∷◌, ◌++◌, map, flat_map, unwrap_or}
use Rattle.protobuf_parse_model.specs.Descriptors.{Text, FileDescriptor, FieldDescriptor}
use Rattle.protobuf_parse_model.specs.Descriptors.{EnumDescriptor, MessageDescriptor}
use Rattle.protobuf_parse_model.specs.Descriptors.{ServiceDescriptor}
use Rattle.protobuf_parse_model.specs.Descriptors.{MessageDescriptors, a_message, no_messages}
use Rattle.protobuf_parse_model.specs.Descriptors.{messages, parts_seen}
use Rattle.protobuf_parse_wire.specs.Declarations.{name_within, package_scope}

-- a declaration: the path of its file, its full name, and what is declared
pub record Standing (X : Type 0) : Type 0 where
  pub file : Text
  pub name : Text
  pub what : X

-- ---- messages

abbrev mutual
  -- the message and those inside it
  pub message_within : (path scope : Text) → MessageDescriptor → List (Standing MessageDescriptor)
  message_within path scope (a_message parts nested) =
      record {
        file = path;
        name = name_within scope parts.name;
        what = a_message parts nested;
      }
      ∷ messages_within path (name_within scope parts.name) nested

  -- of messages that stand side by side
  pub messages_within : (path scope : Text) → MessageDescriptors
      → List (Standing MessageDescriptor)
  messages_within path scope no_messages = []
  messages_within path scope (messages m ms) =
      message_within path scope m ++ messages_within path scope ms

-- the proto path of a file
abbrev pub path_of : FileDescriptor → Text
path_of file = unwrap_or file.name []

-- the messages of a file
abbrev pub messages_of : FileDescriptor → List (Standing MessageDescriptor)
messages_of file =
    flat_map (message_within (path_of file) (package_scope file.«package»)) file.message_type

-- ---- enums

-- the enums of a list, in that scope
abbrev pub enums_within : (path scope : Text) → List EnumDescriptor
    → List (Standing EnumDescriptor)
enums_within path scope es = map
    (λ (e : EnumDescriptor).
    record { file = path; name = name_within scope e.name; what = e }) es

-- those of a message
abbrev pub enums_inside : Standing MessageDescriptor → List (Standing EnumDescriptor)
enums_inside m = enums_within m.file m.name (parts_seen m.what).enum_type

-- the enums of a file
abbrev pub enums_of : FileDescriptor → List (Standing EnumDescriptor)
enums_of file = flat_map enums_inside (messages_of file)
    ++ enums_within (path_of file) (package_scope file.«package») file.enum_type

-- ---- extensions

-- the extensions of a list, in that scope
abbrev pub extensions_within : (path scope : Text) → List FieldDescriptor
    → List (Standing FieldDescriptor)
extensions_within path scope fs = map
    (λ (f : FieldDescriptor).
    record { file = path; name = name_within scope f.name; what = f }) fs

-- those that a message declares
abbrev pub extensions_inside : Standing MessageDescriptor → List (Standing FieldDescriptor)
extensions_inside m = extensions_within m.file m.name (parts_seen m.what).extension

-- the extensions of a file
abbrev pub extensions_of : FileDescriptor → List (Standing FieldDescriptor)
extensions_of file = flat_map extensions_inside (messages_of file)
    ++ extensions_within (path_of file) (package_scope file.«package») file.extension

-- ---- services

-- the services of a file
abbrev pub services_of : FileDescriptor → List (Standing ServiceDescriptor)
services_of file = map
    (λ (s : ServiceDescriptor).
    record {
      file = path_of file;
      name = name_within (package_scope file.«package») s.name;
      what = s;
    })
    file.service

-- ---- all files

-- every message that some file declares
abbrev pub all_messages : List FileDescriptor → List (Standing MessageDescriptor)
all_messages files = flat_map messages_of files

-- every enum that some file declares
abbrev pub all_enums : List FileDescriptor → List (Standing EnumDescriptor)
all_enums files = flat_map enums_of files

-- every extension that some file declares
abbrev pub all_extensions : List FileDescriptor → List (Standing FieldDescriptor)
all_extensions files = flat_map extensions_of files

-- every service that some file declares
abbrev pub all_services : List FileDescriptor → List (Standing ServiceDescriptor)
all_services files = flat_map services_of files
