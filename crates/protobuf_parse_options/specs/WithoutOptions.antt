-- By files that are the same but for their options the same bytes are read as the same, and custom
-- options mean the same.
--
-- No option of a descriptor says how bytes are read: a record goes by the number and the type of
-- its field. None says what a name means: that is decided by full names and by extendees. What the
-- custom options of a file become stands in the options of its descriptor alone, so it makes no
-- difference to what is read by that descriptor, nor to what custom options mean.
-- Protocol Buffers Encoding, "Message Structure"; Protocol Buffers Language Guide (proto2), "Custom
-- Options", "Packages and Name Resolution" (https://protobuf.dev).
use Rattle.std.specs.Prelude.{◌≡◌, ℕ, List, map, None}
use Rattle.protobuf_parse_syntax.specs.Trees.{FileSyntax, OptionSyntax}
use Rattle.protobuf_parse_model.specs.Descriptors.{Text, FieldDescriptor, OneofDescriptor}
use Rattle.protobuf_parse_model.specs.Descriptors.{EnumValueDescriptor, EnumDescriptor}
use Rattle.protobuf_parse_model.specs.Descriptors.{MessageParts, MessageDescriptor}
use Rattle.protobuf_parse_model.specs.Descriptors.{MessageDescriptors, a_message, no_messages}
use Rattle.protobuf_parse_model.specs.Descriptors.{messages, MethodDescriptor, ServiceDescriptor}
use Rattle.protobuf_parse_model.specs.Descriptors.{FileDescriptor}
use Rattle.protobuf_parse_model.specs.Declarations.{Scope}
use Rattle.protobuf_parse_model.specs.declared.customs.Construct.{Construct}
use Rattle.protobuf_parse_elaboration.specs.FilesByPath.{Trees}
use Rattle.protobuf_parse_wire.specs.Reading.{reader}
use Rattle.protobuf_parse_options.specs.CustomOptions.{denotes}
use Rattle.protobuf_parse_options.specs.DescriptorsByPath.{Environments, descriptors_at}
use Rattle.protobuf_parse_options.specs.OptionBytes.{customs_by_files}
use Rattle.protobuf_parse_options.specs.Recovery.{HaveDistinctNumbers}

-- ---- descriptors without their options, and without those of what stands in them

-- a field or an extension
abbrev pub bare_field : FieldDescriptor → FieldDescriptor
bare_field f = record f { options = None }

-- a oneof
abbrev pub bare_oneof : OneofDescriptor → OneofDescriptor
bare_oneof o = record o { options = None }

-- a value of an enum
abbrev pub bare_value : EnumValueDescriptor → EnumValueDescriptor
bare_value v = record v { options = None }

-- an enum with its values
abbrev pub bare_enum : EnumDescriptor → EnumDescriptor
bare_enum e = record e { value = map bare_value e.value; options = None }

-- what stands in a message, but for the messages
abbrev pub bare_parts : MessageParts → MessageParts
bare_parts m = record m {
  field = map bare_field m.field;
  oneof_decl = map bare_oneof m.oneof_decl;
  enum_type = map bare_enum m.enum_type;
  extension = map bare_field m.extension;
  options = None;
}

abbrev mutual
  -- a message with those inside it
  pub bare_message : MessageDescriptor → MessageDescriptor
  bare_message (a_message parts nested) = a_message (bare_parts parts) (bare_messages nested)

  -- messages that stand side by side
  pub bare_messages : MessageDescriptors → MessageDescriptors
  bare_messages no_messages = no_messages
  bare_messages (messages m ms) = messages (bare_message m) (bare_messages ms)

-- a method
abbrev pub bare_method : MethodDescriptor → MethodDescriptor
bare_method m = record m { options = None }

-- a service with its methods
abbrev pub bare_service : ServiceDescriptor → ServiceDescriptor
bare_service s = record s { method = map bare_method s.method; options = None }

-- a file with all that stands in it
abbrev pub bare_file : FileDescriptor → FileDescriptor
bare_file file = record file {
  message_type = map bare_message file.message_type;
  enum_type = map bare_enum file.enum_type;
  service = map bare_service file.service;
  extension = map bare_field file.extension;
  options = None;
}

-- The files are the same but for options.
abbrev pub DifferOnlyInOptions : (files files' : List FileDescriptor) → Type 0
DifferOnlyInOptions files files' = map bare_file files ≡ map bare_file files'

-- ---- the laws, of such files

-- The same bytes are read as the same, or the same is wrong in them.
abbrev pub ReadingIgnoresOptions : Type 0
ReadingIgnoresOptions =
    (files files' : List FileDescriptor) → DifferOnlyInOptions files files'
    → (message : Text) (bytes : List ℕ) → reader files message bytes ≡ reader files' message bytes

-- Numbers of fields are distinct in both or in neither.
abbrev pub NumbersIgnoreOptions : Type 0
NumbersIgnoreOptions =
    (files files' : List FileDescriptor) → DifferOnlyInOptions files files'
    → HaveDistinctNumbers files → HaveDistinctNumbers files'

-- Custom options denote the same.
abbrev pub MeaningIgnoresOptions : Type 0
MeaningIgnoresOptions =
    (files files' visible visible' : List FileDescriptor)
    → DifferOnlyInOptions files files' → DifferOnlyInOptions visible visible'
    → (scope : Scope) (construct : Construct) (os : List OptionSyntax)
    → denotes (record { files = files; visible = visible; scope = scope }) construct os
    ≡ denotes (record { files = files'; visible = visible'; scope = scope }) construct os

-- The same is wrong in them, and they become the same bytes.
abbrev pub CustomsIgnoreOptions : Type 0
CustomsIgnoreOptions =
    (files files' visible visible' : List FileDescriptor)
    → DifferOnlyInOptions files files' → DifferOnlyInOptions visible visible'
    → customs_by_files files visible ≡ customs_by_files files' visible'

-- ---- and of the files at paths, whatever custom options they set themselves

-- the same environments, but for the custom options of each file
abbrev pub DifferOnlyInCustoms : (env env' : Environments) → Type 0
DifferOnlyInCustoms env env' =
    (p : Text) (t : FileSyntax) → env p t ≡ record (env' p t) { customs = (env p t).customs }

-- Custom options change nothing in descriptors but options.
abbrev pub CustomsAreOptions : Type 0
CustomsAreOptions =
    (trees : Trees) (env env' : Environments) (paths : List Text) → DifferOnlyInCustoms env env'
    → DifferOnlyInOptions (descriptors_at trees env paths) (descriptors_at trees env' paths)

-- So they make no difference to what is read, nor to what custom options mean.
abbrev pub CustomsMakeNoDifference : Type 0
CustomsMakeNoDifference =
    (trees : Trees) (env env' : Environments) (reached seen : List Text)
    → DifferOnlyInCustoms env env'
    → ((message : Text) (bytes : List ℕ)
    → reader (descriptors_at trees env reached) message bytes
    ≡ reader (descriptors_at trees env' reached) message bytes)
    × (customs_by_files (descriptors_at trees env reached) (descriptors_at trees env seen)
    ≡ customs_by_files (descriptors_at trees env' reached) (descriptors_at trees env' seen))
