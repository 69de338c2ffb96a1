-- Copies whose parts say the same.
use Rattle.std.proofs.Common.{◌≡◌, ◌∙◌, List, [], ◌∷◌, map, refl, sym}
use Rattle.std.specs.Prelude.{option_map, string_bytes}
use Rattle.std.specs.List.{AllZip}
use Rattle.protobuf_parse_base.specs.DeclaredNames.{name_bytes}
use Rattle.protobuf_parse_model.specs.Descriptors.{MessageDescriptor, message_step}
use Rattle.protobuf_parse_model.specs.Descriptors.{enum_value_view, enum_view, field_view}
use Rattle.protobuf_parse_model.specs.Descriptors.{file_view, message_view}
use Rattle.protobuf_parse_model.specs.MessageParts.{message_parts}
use Rattle.protobuf_parse_model.specs.Descriptors.{method_view, oneof_view}
use Rattle.protobuf_parse_model.specs.Descriptors.{parts_of_message, service_view}
use Rattle.protobuf_parse_model.specs.Options.{enum_options_view, file_options_view}
use Rattle.protobuf_parse_model.specs.Options.{message_options_view, service_options_view}
use Rattle.protobuf_parse_model.specs.declared.descriptor.DescriptorProto.{DescriptorProto}
use Rattle.protobuf_parse_model.specs.declared.descriptor.DescriptorProto.{out-DescriptorProto}
use Rattle.protobuf_parse_model.specs.declared.descriptor.DescriptorProto.TheFolds.{fold-roll-DescriptorProto}
use Rattle.protobuf_parse_model.specs.declared.descriptor.DescriptorProto.TheOpen.{DescriptorProto-F}
use Rattle.protobuf_parse_model.specs.declared.descriptor.DescriptorProto.TheViews.{roll-DescriptorProto}
use Rattle.protobuf_parse_model.specs.declared.descriptor.EnumDescriptorProto.{EnumDescriptorProto}
use Rattle.protobuf_parse_model.specs.declared.descriptor.FileDescriptorProto.{FileDescriptorProto}
use Rattle.protobuf_parse_model.specs.declared.descriptor.ServiceDescriptorProto.{ServiceDescriptorProto}
use Rattle.protobuf_parse_model.proofs.Levels.{message_view_is}

-- a list of copies says the same
pub list_views : {T X : Type 0} (view : T → X) (xs ys : List T)
    → AllZip (λ x y. view y ≡ view x) xs ys → map view ys ≡ map view xs
list_views view [] [] both = refl
list_views view [] (y ∷ ys) both = absurd both
list_views view (x ∷ xs) [] both = absurd both
list_views view (x ∷ xs) (y ∷ ys) both = rw (both.0, list_views view xs ys both.1) refl

-- an enum whose parts say the same
pub enum_views : (e copy : EnumDescriptorProto) → name_bytes copy.name ≡ name_bytes e.name
    → map enum_value_view copy.value.items ≡ map enum_value_view e.value.items
    → copy.reserved_range.items ≡ e.reserved_range.items
    → map string_bytes copy.reserved_name.items ≡ map string_bytes e.reserved_name.items
    → option_map enum_options_view copy.options ≡ option_map enum_options_view e.options
    → enum_view copy ≡ enum_view e
enum_views e copy name values ranges names options = rw (name, values, ranges, names, options) refl

-- a service whose parts say the same
pub service_views : (s copy : ServiceDescriptorProto) → name_bytes copy.name ≡ name_bytes s.name
    → map method_view copy.method.items ≡ map method_view s.method.items
    → option_map service_options_view copy.options ≡ option_map service_options_view s.options
    → service_view copy ≡ service_view s
service_views s copy name methods options = rw (name, methods, options) refl

-- a message whose parts say the same
pub parts_views : (m copy : DescriptorProto-F DescriptorProto)
    → name_bytes copy.name ≡ name_bytes m.name
    → map field_view copy.field.items ≡ map field_view m.field.items
    → map oneof_view copy.oneof_decl.items ≡ map oneof_view m.oneof_decl.items
    → map enum_view copy.enum_type.items ≡ map enum_view m.enum_type.items
    → map field_view copy.extension.items ≡ map field_view m.extension.items
    → copy.extension_range.items ≡ m.extension_range.items
    → copy.reserved_range.items ≡ m.reserved_range.items
    → map string_bytes copy.reserved_name.items ≡ map string_bytes m.reserved_name.items
    → option_map message_options_view copy.options ≡ option_map message_options_view m.options
    → parts_of_message copy ≡ parts_of_message m
parts_views m copy name fields oneofs enums extensions extension_ranges ranges names options =
    rw (name, fields, oneofs, enums, extensions, extension_ranges, ranges, names, options) refl

-- and the messages inside it
pub message_views : (m : DescriptorProto) (copy : DescriptorProto-F DescriptorProto)
    → parts_of_message copy ≡ message_parts m
    → map message_view copy.nested_type.items
    ≡ map message_view (out-DescriptorProto m).nested_type.items
    → message_view (roll-DescriptorProto copy) ≡ message_view m
message_views m copy parts nested =
    fold-roll-DescriptorProto MessageDescriptor message_step copy
    ∙ rw (parts, nested) refl
    ∙ sym (message_view_is m)

-- a file whose parts say the same
pub file_views : (f copy : FileDescriptorProto)
    → option_map string_bytes copy.name ≡ option_map string_bytes f.name
    → option_map string_bytes copy.«package» ≡ option_map string_bytes f.«package»
    → option_map string_bytes copy.syntax ≡ option_map string_bytes f.syntax
    → map string_bytes copy.dependency.items ≡ map string_bytes f.dependency.items
    → copy.public_dependency.items ≡ f.public_dependency.items
    → copy.weak_dependency.items ≡ f.weak_dependency.items
    → map message_view copy.message_type.items ≡ map message_view f.message_type.items
    → map enum_view copy.enum_type.items ≡ map enum_view f.enum_type.items
    → map service_view copy.service.items ≡ map service_view f.service.items
    → map field_view copy.extension.items ≡ map field_view f.extension.items
    → option_map file_options_view copy.options ≡ option_map file_options_view f.options
    → file_view copy ≡ file_view f
file_views f copy name of syntax files public weak messages enums services extensions options =
    rw (name, of, syntax, files, public, weak, messages, enums, services, extensions, options)
    refl
