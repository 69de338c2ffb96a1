-- Descriptors as the messages of google/protobuf/descriptor.proto: a line a field, with its number
-- there, in the order of numbers. What has no line is never written. Numbers of ranges, indices of
-- imports and of oneofs are int32, as there; labels and types are enums.
use Rattle.std.specs.Prelude.{ℕ, List, [], ◌++◌, Option, Some, None}
use Rattle.std.specs.Prelude.{bytes_eq, codes, flat_map, if◌then◌else◌}
use Rattle.protobuf_parse_model.specs.Descriptors.{Text, Range, FieldDescriptor, OneofDescriptor}
use Rattle.protobuf_parse_model.specs.Descriptors.{EnumValueDescriptor, EnumDescriptor}
use Rattle.protobuf_parse_model.specs.Descriptors.{MessageParts, MessageDescriptor, a_message}
use Rattle.protobuf_parse_model.specs.Descriptors.{MessageDescriptors, no_messages, messages}
use Rattle.protobuf_parse_model.specs.Descriptors.{MethodDescriptor, ServiceDescriptor}
use Rattle.protobuf_parse_model.specs.Descriptors.{FileDescriptor}
use Rattle.protobuf_parse_wire.specs.Trees.{Entries}
use Rattle.protobuf_parse_wire.specs.Views.{entries_of_list}
use Rattle.protobuf_parse_descriptor_set.specs.Items.{Items, bytes_of, text, int, choice, part}
use Rattle.protobuf_parse_descriptor_set.specs.Items.{options, some, flag_if, whole}
use Rattle.protobuf_parse_descriptor_set.specs.Numbers.{label_number, type_number}
use Rattle.protobuf_parse_descriptor_set.specs.OneofOrder.{fields_in_set, oneofs_in_set}
use Rattle.protobuf_parse_descriptor_set.specs.RangeEnds.{ranges_in_set}
use Rattle.protobuf_parse_descriptor_set.specs.OptionItems.{file_option_bytes, message_option_bytes}
use Rattle.protobuf_parse_descriptor_set.specs.OptionItems.{field_option_bytes, oneof_option_bytes}
use Rattle.protobuf_parse_descriptor_set.specs.OptionItems.{enum_option_bytes}
use Rattle.protobuf_parse_descriptor_set.specs.OptionItems.{enum_value_option_bytes}
use Rattle.protobuf_parse_descriptor_set.specs.OptionItems.{service_option_bytes}
use Rattle.protobuf_parse_descriptor_set.specs.OptionItems.{method_option_bytes}

-- FieldDescriptorProto
unfoldable pub field_items : FieldDescriptor → Items
field_items f =
    text 1 f.name
    ++ some (text 2) f.extendee
    ++ int 3 f.number
    ++ choice 4 (label_number f.label)
    ++ choice 5 (type_number f.type_)
    ++ some (text 6) f.type_name
    ++ some (text 7) f.default_value
    ++ some (λ o. options 8 (field_option_bytes o)) f.options
    ++ some (int 9) f.oneof_index
    ++ text 10 f.json_name
    ++ flag_if 17 f.proto3_optional

-- OneofDescriptorProto
unfoldable pub oneof_items : OneofDescriptor → Items
oneof_items o = text 1 o.name ++ some (λ p. options 2 (oneof_option_bytes p)) o.options

-- DescriptorProto.ExtensionRange, DescriptorProto.ReservedRange and
-- EnumDescriptorProto.EnumReservedRange
unfoldable pub range_items : Range → Items
range_items r = int 1 r.start ++ int 2 r.end

-- EnumValueDescriptorProto
unfoldable pub enum_value_items : EnumValueDescriptor → Items
enum_value_items v = text 1 v.name ++ int 2 v.number
    ++ some (λ o. options 3 (enum_value_option_bytes o)) v.options

-- EnumDescriptorProto
unfoldable pub enum_items : EnumDescriptor → Items
enum_items e =
    text 1 e.name
    ++ flat_map (λ v. part 2 (enum_value_items v)) e.value
    ++ some (λ o. options 3 (enum_option_bytes o)) e.options
    ++ flat_map (λ r. part 4 (range_items r)) e.reserved_range
    ++ flat_map (text 5) e.reserved_name

-- a message's fields before the messages inside it, and behind them
unfoldable pub message_front : MessageParts → Items
message_front m = text 1 m.name ++ flat_map (λ f. part 2 (field_items f)) (fields_in_set m)

-- enums, ranges, extensions, options, oneofs and reserved names
unfoldable pub message_back : MessageParts → Items
message_back m =
    flat_map (λ e. part 4 (enum_items e)) m.enum_type
    ++ flat_map (λ r. part 5 (range_items r)) (ranges_in_set m m.extension_range)
    ++ flat_map (λ f. part 6 (field_items f)) m.extension
    ++ some (λ o. options 7 (message_option_bytes o)) m.options
    ++ flat_map (λ o. part 8 (oneof_items o)) (oneofs_in_set m)
    ++ flat_map (λ r. part 9 (range_items r)) (ranges_in_set m m.reserved_range)
    ++ flat_map (text 10) m.reserved_name

abbrev mutual
  -- DescriptorProto
  pub message_items : MessageDescriptor → Items
  message_items (a_message m inside) = message_front m ++ nested_items inside ++ message_back m

  -- the messages inside it
  pub nested_items : MessageDescriptors → Items
  nested_items no_messages = []
  nested_items (messages m ms) = part 3 (message_items m) ++ nested_items ms

-- MethodDescriptorProto
unfoldable pub method_items : MethodDescriptor → Items
method_items m =
    text 1 m.name
    ++ text 2 m.input_type
    ++ text 3 m.output_type
    ++ some (λ o. options 4 (method_option_bytes o)) m.options
    ++ flag_if 5 m.client_streaming
    ++ flag_if 6 m.server_streaming

-- ServiceDescriptorProto
unfoldable pub service_items : ServiceDescriptor → Items
service_items s =
    text 1 s.name
    ++ flat_map (λ m. part 2 (method_items m)) s.method
    ++ some (λ o. options 3 (service_option_bytes o)) s.options

-- the syntax is written where it is this, as protoc does
abbrev pub syntax_items : Option Text → Items
syntax_items None = []
syntax_items (Some s) = if bytes_eq s (codes "proto3") then text 12 s else []

-- FileDescriptorProto, with the bytes of its SourceCodeInfo, if it is to have one
unfoldable pub file_with : Option Text → FileDescriptor → Items
file_with info f =
    some (text 1) f.name
    ++ some (text 2) f.«package»
    ++ flat_map (text 3) f.dependency
    ++ flat_map (λ m. part 4 (message_items m)) f.message_type
    ++ flat_map (λ e. part 5 (enum_items e)) f.enum_type
    ++ flat_map (λ s. part 6 (service_items s)) f.service
    ++ flat_map (λ e. part 7 (field_items e)) f.extension
    ++ some (λ o. options 8 (file_option_bytes o)) f.options
    ++ some (whole 9) info
    ++ flat_map (int 10) f.public_dependency
    ++ flat_map (int 11) f.weak_dependency
    ++ syntax_items f.syntax

-- the same without one
unfoldable pub file_items : FileDescriptor → Items
file_items f = file_with None f

-- a FileDescriptorSet
abbrev pub set_items : List FileDescriptor → Items
set_items files = flat_map (λ f. part 1 (file_items f)) files

-- the same as a tree of entries, which the bytes of a set spell
abbrev pub set_entries : List FileDescriptor → Entries
set_entries files = entries_of_list (set_items files)

-- the bytes of a set
abbrev pub set_bytes : List FileDescriptor → List ℕ
set_bytes files = bytes_of (set_items files)

-- ---- the same with source info

-- a file, and the bytes of its SourceCodeInfo, if it is to have one
pub record FileAndInfo : Type 0 where
  pub file : FileDescriptor
  pub source_code_info : Option Text

-- FileDescriptorProto
abbrev pub file_and_info_items : FileAndInfo → Items
file_and_info_items f = file_with f.source_code_info f.file

-- a FileDescriptorSet
abbrev pub set_items_with_info : List FileAndInfo → Items
set_items_with_info files = flat_map (λ f. part 1 (file_and_info_items f)) files

-- as a tree of entries
abbrev pub set_entries_with_info : List FileAndInfo → Entries
set_entries_with_info files = entries_of_list (set_items_with_info files)

-- its bytes
abbrev pub set_bytes_with_info : List FileAndInfo → List ℕ
set_bytes_with_info files = bytes_of (set_items_with_info files)
