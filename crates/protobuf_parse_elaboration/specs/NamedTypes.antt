-- The names of types that a file's descriptor says, and what they are the names of.
--
-- A descriptor says by full names what the type of a field is, which message an extension extends,
-- and what a method takes and returns: the fields `type_name` and `extendee` of
-- FieldDescriptorProto, `input_type` and `output_type` of MethodDescriptorProto
-- (google/protobuf/descriptor.proto).
use Rattle.std.specs.Prelude.{◌≡◌, Bool, true, false, List, [], ◌∷◌, ◌++◌, map, flat_map, Some}
use Rattle.std.specs.Prelude.{is_some, IsSome, option_to_list}
use Rattle.protobuf_parse_syntax.specs.Trees.{FileSyntax}
use Rattle.protobuf_parse_model.specs.declared.descriptor.FieldType.{FieldType}
use Rattle.protobuf_parse_model.specs.declared.descriptor.FieldType.TheVariants as kind
use Rattle.protobuf_parse_model.specs.Descriptors.{Text, FieldDescriptor, MessageParts}
use Rattle.protobuf_parse_model.specs.Descriptors.{MessageDescriptor, MessageDescriptors, a_message}
use Rattle.protobuf_parse_model.specs.Descriptors.{no_messages, messages, MethodDescriptor}
use Rattle.protobuf_parse_model.specs.Descriptors.{ServiceDescriptor, FileDescriptor}
use Rattle.protobuf_parse_model.specs.Faults.{Among}
use Rattle.protobuf_parse_model.specs.Declarations as declarations
use Rattle.protobuf_parse_model.specs.Declarations.{DeclaredType, MessageOrEnum, file_generated}
use Rattle.protobuf_parse_model.specs.Environment.{Customs}
use Rattle.protobuf_parse_elaboration.specs.FileDescriptor.{types_of_files, environment, file_of}
use Rattle.protobuf_parse_elaboration.specs.FileDescriptor.{file_faults}

-- ---- the fields and the extensions of a descriptor

abbrev mutual
  -- those in one of the lists of a message, and in that of each message inside it
  pub down_from : (MessageParts → List FieldDescriptor) → MessageDescriptor → List FieldDescriptor
  down_from list (a_message parts inside) = list parts ++ down_from_all list inside

  -- the same of messages that stand side by side
  pub down_from_all : (MessageParts → List FieldDescriptor) → MessageDescriptors
      → List FieldDescriptor
  down_from_all list no_messages = []
  down_from_all list (messages m ms) = down_from list m ++ down_from_all list ms

-- also those of the messages behind maps and groups
abbrev pub fields_in : FileDescriptor → List FieldDescriptor
fields_in f = flat_map (down_from (λ (m : MessageParts). m.field)) f.message_type

-- the extensions of a file, those that its messages declare among them
abbrev pub extended_in : FileDescriptor → List FieldDescriptor
extended_in f = flat_map (down_from (λ (m : MessageParts). m.extension)) f.message_type
    ++ f.extension

-- ---- the names

-- of the type, and of the message that is extended
abbrev pub names_of_field : FieldDescriptor → List Text
names_of_field f = option_to_list f.type_name ++ option_to_list f.extendee

-- of what the method takes, and of what it returns
abbrev pub names_of_method : MethodDescriptor → List Text
names_of_method m = m.input_type ∷ m.output_type ∷ []

-- of all its methods
abbrev pub names_of_service : ServiceDescriptor → List Text
names_of_service s = flat_map names_of_method s.method

-- all that a file's descriptor says
abbrev pub type_names_in : FileDescriptor → List Text
type_names_in f = flat_map names_of_field (fields_in f) ++ flat_map names_of_field (extended_in f)
    ++ flat_map names_of_service f.service

-- the types of which a field says the name, and not the kind alone
abbrev pub has_name : FieldType → Bool
has_name kind.Message = true
has_name kind.Enum = true
has_name kind.Group = true
has_name _ = false

-- ---- the laws: of a file in which no fault stands, whatever files it sees and however its custom
-- options are spelled

-- the full names of the messages and the enums that are written in files
abbrev pub names_declared : List FileSyntax → List Text
names_declared files = map (λ (d : DeclaredType). d.name) (types_of_files files)

-- the name, where it is that of a message
abbrev pub if_message : MessageOrEnum → Text → List Text
if_message declarations.a_message name = name ∷ []
if_message declarations.an_enum name = []

-- the name of a declaration, where it is one of a message
abbrev pub declared_message_name : DeclaredType → List Text
declared_message_name d = if_message d.what d.name

-- those of the messages alone
abbrev pub messages_declared : List FileSyntax → List Text
messages_declared files = flat_map declared_message_name (types_of_files files)

-- Each name of a type is that of a message or an enum that a file declares that it sees, or of a
-- message behind one of its own maps and groups.
abbrev pub NamesAreDeclared : Type 0
NamesAreDeclared = (seen : List FileSyntax) (checked customs : Customs) (path : Text)
    (t : FileSyntax) (name : Text)
    → file_faults (environment seen checked t) t ≡ []
    → Among (type_names_in (file_of (environment seen customs t) path t)) name
    → Among (names_declared seen ++ file_generated t) name

-- Just those fields and extensions say the name of their type whose type has one.
abbrev pub TypesAreNamed : Type 0
TypesAreNamed = (seen : List FileSyntax) (checked customs : Customs) (path : Text) (t : FileSyntax)
    (f : FieldDescriptor)
    → file_faults (environment seen checked t) t ≡ []
    → Among (fields_in (file_of (environment seen customs t) path t)
    ++ extended_in (file_of (environment seen customs t) path t)) f
    → is_some f.type_name ≡ has_name f.type_

-- Each extension says what it extends.
abbrev pub ExtendeesAreNamed : Type 0
ExtendeesAreNamed = (seen : List FileSyntax) (checked customs : Customs) (path : Text)
    (t : FileSyntax) (f : FieldDescriptor)
    → file_faults (environment seen checked t) t ≡ []
    → Among (extended_in (file_of (environment seen customs t) path t)) f
    → IsSome f.extendee

-- What says that its type is a message names a message, and no enum.
abbrev pub MessagesAreNamed : Type 0
MessagesAreNamed = (seen : List FileSyntax) (checked customs : Customs) (path : Text)
    (t : FileSyntax) (f : FieldDescriptor) (name : Text)
    → file_faults (environment seen checked t) t ≡ []
    → Among (fields_in (file_of (environment seen customs t) path t)
    ++ extended_in (file_of (environment seen customs t) path t)) f
    → f.type_ ≡ kind.Message → f.type_name ≡ Some name
    → Among (messages_declared seen ++ file_generated t) name
