-- Descriptors as they come back from a set that was written of them, and which of them come back.
use Rattle.std.specs.Prelude.{◌≡◌, ℕ, zero, suc, ◌<◌, ◌^◌, true, false, List, [], ◌∷◌, length, map}
use Rattle.std.specs.Prelude.{Option, Some, None, Ok, IfSome, bytes_eq, codes, if◌then◌else◌, Bool}
use Rattle.std.specs.Str.{is_utf8}
use Rattle.std.specs.Int.{w32}
use Rattle.std.specs.Int.RustNames.{FitsSigned}
use Rattle.std.specs.List.{AllByRecursion}
use Rattle.protobuf_parse_records.specs.Views.{WireRecord}
use Rattle.protobuf_parse_records.specs.Splitting.{records_of}
use Rattle.protobuf_parse_model.specs.Descriptors.{Text, Range, FieldDescriptor, OneofDescriptor}
use Rattle.protobuf_parse_model.specs.Descriptors.{EnumDescriptor, EnumValueDescriptor}
use Rattle.protobuf_parse_model.specs.Descriptors.{MessageParts, MessageDescriptor, a_message}
use Rattle.protobuf_parse_model.specs.Descriptors.{MessageDescriptors, no_messages, messages}
use Rattle.protobuf_parse_model.specs.Descriptors.{MethodDescriptor, ServiceDescriptor}
use Rattle.protobuf_parse_model.specs.Descriptors.{FileDescriptor}
use Rattle.protobuf_parse_model.specs.Options.{FileOptionValues, MessageOptionValues}
use Rattle.protobuf_parse_model.specs.Options.{FieldOptionValues, OneofOptionValues}
use Rattle.protobuf_parse_model.specs.Options.{EnumOptionValues, EnumValueOptionValues}
use Rattle.protobuf_parse_model.specs.Options.{ServiceOptionValues, MethodOptionValues}
use Rattle.protobuf_parse_descriptor_set.specs.OneofOrder.{fields_in_set, oneofs_in_set}
use Rattle.protobuf_parse_descriptor_set.specs.RangeEnds.{ranges_in_set}
use Rattle.protobuf_parse_descriptor_set.specs.OptionItems as options
use Rattle.protobuf_parse_descriptor_set.specs.DescriptorItems.{FileAndInfo, set_bytes}
use Rattle.protobuf_parse_descriptor_set.specs.DescriptorItems.{set_bytes_with_info}
use Rattle.protobuf_parse_set_reader.specs.OptionReading as reading
use Rattle.protobuf_parse_set_reader.specs.Reading.{SetFileView, set_of, set_with_info_of}

-- ---- as they come back

-- something, or nothing where it has no bytes
abbrev pub unless_empty : {A : Type 0} → List ℕ → A → Option A
unless_empty [] x = None
unless_empty (b ∷ bs) x = Some x

-- an options message, by its bytes: none where nothing is set
abbrev pub options_back : {A : Type 0} → (A → List ℕ) → Option A → Option A
options_back bytes None = None
options_back bytes (Some o) = unless_empty (bytes o) o

-- a field
abbrev pub field_back : FieldDescriptor → FieldDescriptor
field_back f = record f { options = options_back options.field_option_bytes f.options }

-- a oneof
abbrev pub oneof_back : OneofDescriptor → OneofDescriptor
oneof_back o = record o { options = options_back options.oneof_option_bytes o.options }

-- a value of an enum
abbrev pub enum_value_back : EnumValueDescriptor → EnumValueDescriptor
enum_value_back v = record v { options = options_back options.enum_value_option_bytes v.options }

-- an enum
abbrev pub enum_back : EnumDescriptor → EnumDescriptor
enum_back e = record {
  name = e.name;
  value = map enum_value_back e.value;
  reserved_range = e.reserved_range;
  reserved_name = e.reserved_name;
  options = options_back options.enum_option_bytes e.options;
}

-- a message without those inside it: with its oneofs in the order of sets, and ends of `max` as
-- there
abbrev pub parts_back : MessageParts → MessageParts
parts_back m = record {
  name = m.name;
  field = map field_back (fields_in_set m);
  oneof_decl = map oneof_back (oneofs_in_set m);
  enum_type = map enum_back m.enum_type;
  extension = map field_back m.extension;
  extension_range = ranges_in_set m m.extension_range;
  reserved_range = ranges_in_set m m.reserved_range;
  reserved_name = m.reserved_name;
  options = options_back options.message_option_bytes m.options;
}

abbrev mutual
  -- a message
  pub message_back : MessageDescriptor → MessageDescriptor
  message_back (a_message m inside) = a_message (parts_back m) (messages_back inside)

  -- messages that stand side by side
  pub messages_back : MessageDescriptors → MessageDescriptors
  messages_back no_messages = no_messages
  messages_back (messages m ms) = messages (message_back m) (messages_back ms)

-- a method
abbrev pub method_back : MethodDescriptor → MethodDescriptor
method_back m = record m { options = options_back options.method_option_bytes m.options }

-- a service
abbrev pub service_back : ServiceDescriptor → ServiceDescriptor
service_back s = record {
  name = s.name;
  method = map method_back s.method;
  options = options_back options.service_option_bytes s.options;
}

-- a syntax, which is written where it is proto3
abbrev pub syntax_back : Option Text → Option Text
syntax_back None = None
syntax_back (Some s) = if bytes_eq s (codes "proto3") then Some s else None

-- a file
abbrev pub file_back : FileDescriptor → FileDescriptor
file_back f = record f {
  syntax = syntax_back f.syntax;
  message_type = map message_back f.message_type;
  enum_type = map enum_back f.enum_type;
  service = map service_back f.service;
  extension = map field_back f.extension;
  options = options_back options.file_option_bytes f.options;
}

-- a file with its source info
abbrev pub with_info_back : FileAndInfo → SetFileView
with_info_back f = record { file = file_back f.file; source_code_info = f.source_code_info }

-- ---- which come back: those whose texts are UTF-8 and whose numbers are int32, as Rust's types
-- say, with at most 100 messages inside one another, whose custom options set no built-in one, and
-- whose files have names

-- Bytes are a text.
abbrev pub IsText : Text → Type 0
IsText t = is_utf8 t ≡ true

-- Bytes are records, none of which sets a built-in option.
pub record AreOthers (sets : WireRecord → Bool) (bs : List ℕ) : Type 0 where
  pub records : List WireRecord
  pub read : records_of bs ≡ Ok records
  pub other : AllByRecursion (λ (r : WireRecord). sets r ≡ false) records

-- Options of a file come back.
pub record FileOptionsKept (o : FileOptionValues) : Type 0 where
  pub java_package : IfSome o.java_package IsText
  pub java_outer_classname : IfSome o.java_outer_classname IsText
  pub go_package : IfSome o.go_package IsText
  pub objc_class_prefix : IfSome o.objc_class_prefix IsText
  pub csharp_namespace : IfSome o.csharp_namespace IsText
  pub swift_prefix : IfSome o.swift_prefix IsText
  pub php_class_prefix : IfSome o.php_class_prefix IsText
  pub php_namespace : IfSome o.php_namespace IsText
  pub php_metadata_namespace : IfSome o.php_metadata_namespace IsText
  pub ruby_package : IfSome o.ruby_package IsText
  pub custom : AreOthers reading.sets_file_option o.custom

-- A field comes back.
pub record FieldKept (f : FieldDescriptor) : Type 0 where
  pub name : IsText f.name
  pub extendee : IfSome f.extendee IsText
  pub number : FitsSigned w32 f.number
  pub type_name : IfSome f.type_name IsText
  pub default_value : IfSome f.default_value IsText
  pub options : IfSome f.options
      (λ (o : FieldOptionValues). AreOthers reading.sets_field_option o.custom)
  pub oneof_index : IfSome f.oneof_index (FitsSigned w32)
  pub json_name : IsText f.json_name

-- A oneof comes back.
pub record OneofKept (o : OneofDescriptor) : Type 0 where
  pub name : IsText o.name
  pub options : IfSome o.options
      (λ (p : OneofOptionValues). AreOthers reading.sets_oneof_option p.custom)

-- A range comes back.
pub record RangeKept (r : Range) : Type 0 where
  pub start : FitsSigned w32 r.start
  pub end : FitsSigned w32 r.end

-- A value of an enum comes back.
pub record EnumValueKept (v : EnumValueDescriptor) : Type 0 where
  pub name : IsText v.name
  pub number : FitsSigned w32 v.number
  pub options : IfSome v.options
      (λ (o : EnumValueOptionValues). AreOthers reading.sets_enum_value_option o.custom)

-- An enum comes back.
pub record EnumKept (e : EnumDescriptor) : Type 0 where
  pub name : IsText e.name
  pub value : AllByRecursion EnumValueKept e.value
  pub options : IfSome e.options
      (λ (o : EnumOptionValues). AreOthers reading.sets_enum_option o.custom)
  pub reserved_range : AllByRecursion RangeKept e.reserved_range
  pub reserved_name : AllByRecursion IsText e.reserved_name

-- A message without those inside it comes back; its fields and ranges are as the set has them.
pub record PartsKept (m : MessageParts) : Type 0 where
  pub name : IsText m.name
  pub field : AllByRecursion FieldKept (fields_in_set m)
  pub enum_type : AllByRecursion EnumKept m.enum_type
  pub extension_range : AllByRecursion RangeKept (ranges_in_set m m.extension_range)
  pub extension : AllByRecursion FieldKept m.extension
  pub options : IfSome m.options
      (λ (o : MessageOptionValues). AreOthers reading.sets_message_option o.custom)
  pub oneof_decl : AllByRecursion OneofKept (oneofs_in_set m)
  pub reserved_range : AllByRecursion RangeKept (ranges_in_set m m.reserved_range)
  pub reserved_name : AllByRecursion IsText m.reserved_name

abbrev mutual
  -- A message comes back with those inside it, of which at most so many levels stand inside one
  -- another, itself one.
  pub MessageKept : ℕ → MessageDescriptor → Type 0
  MessageKept zero (a_message m inside) = ⊥
  MessageKept (suc levels) (a_message m inside) = PartsKept m × MessagesKept levels inside

  -- Messages that stand side by side do.
  pub MessagesKept : ℕ → MessageDescriptors → Type 0
  MessagesKept levels no_messages = Unit {0}
  MessagesKept levels (messages m ms) = MessageKept levels m × MessagesKept levels ms

-- A method comes back.
pub record MethodKept (m : MethodDescriptor) : Type 0 where
  pub name : IsText m.name
  pub input_type : IsText m.input_type
  pub output_type : IsText m.output_type
  pub options : IfSome m.options
      (λ (o : MethodOptionValues). AreOthers reading.sets_method_option o.custom)

-- A service comes back.
pub record ServiceKept (s : ServiceDescriptor) : Type 0 where
  pub name : IsText s.name
  pub method : AllByRecursion MethodKept s.method
  pub options : IfSome s.options
      (λ (o : ServiceOptionValues). AreOthers reading.sets_service_option o.custom)

-- There is a name, which is a text.
abbrev pub HasName : Option Text → Type 0
HasName None = ⊥
HasName (Some t) = IsText t

-- A file comes back.
pub record FileKept (f : FileDescriptor) : Type 0 where
  pub name : HasName f.name
  pub «package» : IfSome f.«package» IsText
  pub dependency : AllByRecursion IsText f.dependency
  pub message_type : AllByRecursion (MessageKept 100) f.message_type
  pub enum_type : AllByRecursion EnumKept f.enum_type
  pub service : AllByRecursion ServiceKept f.service
  pub extension : AllByRecursion FieldKept f.extension
  pub public_dependency : AllByRecursion (FitsSigned w32) f.public_dependency
  pub weak_dependency : AllByRecursion (FitsSigned w32) f.weak_dependency
  pub syntax : IfSome f.syntax IsText
  pub options : IfSome f.options FileOptionsKept

-- What is written of such files, in fewer than 2 ^ 64 bytes, is read as these.
abbrev pub SetsAreReadBack : Type 0
SetsAreReadBack = (files : List FileDescriptor) → AllByRecursion FileKept files
    → length (set_bytes files) < 2 ^ 64 → set_of (set_bytes files) ≡ Ok (map file_back files)

-- What is written of such files with source info, which may have any bytes, is read as these, with
-- the source info and without.
pub record AreReadBack (files : List FileAndInfo) : Type 0 where
  pub without_info : set_of (set_bytes_with_info files)
      ≡ Ok (map (λ (f : FileAndInfo). file_back f.file) files)
  pub with_info : set_with_info_of (set_bytes_with_info files) ≡ Ok (map with_info_back files)

-- The same for all such files in fewer than 2 ^ 64 bytes.
abbrev pub SetsWithInfoAreReadBack : Type 0
SetsWithInfoAreReadBack = (files : List FileAndInfo)
    → AllByRecursion (λ (f : FileAndInfo). FileKept f.file) files
    → length (set_bytes_with_info files) < 2 ^ 64 → AreReadBack files
