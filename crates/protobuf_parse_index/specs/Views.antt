-- The code's declarations without where they lie in memory.
use Rattle.std.specs.Prelude.{ℕ, List, Option, option_map, string_bytes}
use Rattle.std.specs.Borrow.{Bor}
use Rattle.protobuf_parse_model.specs.Descriptors.{Text, FieldDescriptor, EnumDescriptor}
use Rattle.protobuf_parse_model.specs.Descriptors.{MessageDescriptor, enum_view, field_view}
use Rattle.protobuf_parse_model.specs.Descriptors.{EnumValueDescriptor, FileDescriptor}
use Rattle.protobuf_parse_model.specs.Descriptors.{MethodDescriptor, OneofDescriptor}
use Rattle.protobuf_parse_model.specs.Descriptors.{ServiceDescriptor, enum_value_view, file_view}
use Rattle.protobuf_parse_model.specs.Descriptors.{message_view, method_view, oneof_view}
use Rattle.protobuf_parse_model.specs.Descriptors.{service_view}
use Rattle.protobuf_parse_model.specs.declared.descriptor.DescriptorProto.{DescriptorProto}
use Rattle.protobuf_parse_model.specs.declared.descriptor.EnumDescriptorProto.{EnumDescriptorProto}
use Rattle.protobuf_parse_model.specs.declared.descriptor.EnumValueDescriptorProto.{EnumValueDescriptorProto}
use Rattle.protobuf_parse_model.specs.declared.descriptor.FieldDescriptorProto.{FieldDescriptorProto}
use Rattle.protobuf_parse_model.specs.declared.descriptor.FileDescriptorProto.{FileDescriptorProto}
use Rattle.protobuf_parse_model.specs.declared.descriptor.MethodDescriptorProto.{MethodDescriptorProto}
use Rattle.protobuf_parse_model.specs.declared.descriptor.OneofDescriptorProto.{OneofDescriptorProto}
use Rattle.protobuf_parse_model.specs.declared.descriptor.ServiceDescriptorProto.{ServiceDescriptorProto}
use Rattle.protobuf_parse_index.specs.Walk.{Standing}
use Rattle.protobuf_parse_index.specs.declared.declared.Declared.{Declared}

-- the path of its file, its full name and what is declared, which the view reads
abbrev pub standing : {T X : Type 0} → (T → X) → Declared T → Standing X
standing view d =
    record { file = d.file.now; name = string_bytes d.full_name; what = view d.descriptor.now }

-- a message that is declared
abbrev pub standing_message : Declared DescriptorProto → Standing MessageDescriptor
standing_message d = standing message_view d

-- an enum that is declared
abbrev pub standing_enum : Declared EnumDescriptorProto → Standing EnumDescriptor
standing_enum d = standing enum_view d

-- an extension that is declared
abbrev pub standing_extension : Declared FieldDescriptorProto → Standing FieldDescriptor
standing_extension d = standing field_view d

-- a service that is declared
abbrev pub standing_service : Declared ServiceDescriptorProto → Standing ServiceDescriptor
standing_service d = standing service_view d

-- ---- what a look-up gives

-- a message, if one is found
abbrev pub message_found : Option (Bor (Declared DescriptorProto))
    → Option (Standing MessageDescriptor)
message_found found =
    option_map (λ (d : Bor (Declared DescriptorProto)). standing_message d.now) found

-- an enum, if one is found
abbrev pub enum_found : Option (Bor (Declared EnumDescriptorProto))
    → Option (Standing EnumDescriptor)
enum_found found =
    option_map (λ (d : Bor (Declared EnumDescriptorProto)). standing_enum d.now) found

-- an extension, if one is found
abbrev pub extension_found : Option (Bor (Declared FieldDescriptorProto))
    → Option (Standing FieldDescriptor)
extension_found found =
    option_map (λ (d : Bor (Declared FieldDescriptorProto)). standing_extension d.now) found

-- a field's descriptor, if one is found
abbrev pub field_found : Option (Bor FieldDescriptorProto) → Option FieldDescriptor
field_found found = option_map (λ (f : Bor FieldDescriptorProto). field_view f.now) found

-- a service, if one is found
abbrev pub service_found : Option (Bor (Declared ServiceDescriptorProto))
    → Option (Standing ServiceDescriptor)
service_found found =
    option_map (λ (d : Bor (Declared ServiceDescriptorProto)). standing_service d.now) found

-- a file's descriptor, if one is found
abbrev pub file_found : Option (Bor FileDescriptorProto) → Option FileDescriptor
file_found found = option_map (λ (f : Bor FileDescriptorProto). file_view f.now) found

-- a method's descriptor, if one is found
abbrev pub method_found : Option (Bor MethodDescriptorProto) → Option MethodDescriptor
method_found found = option_map (λ (m : Bor MethodDescriptorProto). method_view m.now) found

-- a value's descriptor, if one is found
abbrev pub value_found : Option (Bor EnumValueDescriptorProto) → Option EnumValueDescriptor
value_found found = option_map (λ (v : Bor EnumValueDescriptorProto). enum_value_view v.now) found

-- a oneof's descriptor, if one is found
abbrev pub oneof_found : Option (Bor OneofDescriptorProto) → Option OneofDescriptor
oneof_found found = option_map (λ (o : Bor OneofDescriptorProto). oneof_view o.now) found

-- a name, if one is found
abbrev pub text_found : Option (Bor (List ℕ)) → Option Text
text_found found = option_map (λ (t : Bor (List ℕ)). t.now) found
