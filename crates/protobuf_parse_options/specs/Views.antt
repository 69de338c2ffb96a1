-- No public clause rests on this file.
-- What the code holds of the files' descriptors: references to them, and to what they declare.
use Rattle.std.specs.Prelude.{ℤ, List, [], flat_map, string_bytes, bytes_eq, Option, option_map}
use Rattle.std.specs.Prelude.{if◌then◌else◌}
use Rattle.std.specs.List.{find}
use Rattle.std.specs.Borrow.{Bor}
use Rattle.protobuf_parse_model.specs.declared.descriptor.EnumDescriptorProto.{EnumDescriptorProto}
use Rattle.protobuf_parse_model.specs.declared.descriptor.FieldDescriptorProto.{FieldDescriptorProto}
use Rattle.protobuf_parse_model.specs.Declarations.{Declared}
use Rattle.protobuf_parse_model.specs.Descriptors.{Text, FieldDescriptor, EnumDescriptor}
use Rattle.protobuf_parse_model.specs.Descriptors.{EnumValueDescriptor, enum_view}
use Rattle.protobuf_parse_model.specs.Descriptors.{field_view}
use Rattle.protobuf_parse_options.specs.declared.spots.declared.Spotted.{Spotted}

abbrev pub enum_declared : Spotted (Bor EnumDescriptorProto) → Declared EnumDescriptor
enum_declared k = record { name = string_bytes k.name; what = enum_view k.what.now }

abbrev pub field_seen : Bor FieldDescriptorProto → FieldDescriptor
field_seen f = field_view f.now

-- the first of that name
abbrev pub field_among : List FieldDescriptor → Text → Option FieldDescriptor
field_among fields name = find (λ (f : FieldDescriptor). bytes_eq f.name name) fields

-- the values of the enums among these that have the full name
abbrev pub values_if_named : Text → Declared EnumDescriptor → List EnumValueDescriptor
values_if_named enum_name e = if bytes_eq e.name enum_name then e.what.value else []

abbrev pub values_among : Text → List (Declared EnumDescriptor) → List EnumValueDescriptor
values_among enum_name es = flat_map (values_if_named enum_name) es

abbrev pub number_among : List EnumValueDescriptor → Text → Option ℤ
number_among values name = option_map (λ (v : EnumValueDescriptor). v.number)
    (find (λ (v : EnumValueDescriptor). bytes_eq v.name name) values)

-- the extension, by its full name
abbrev pub extension_under_name : Text → Bor FieldDescriptorProto → Declared FieldDescriptor
extension_under_name name f = record { name = name; what = field_view f.now }

-- what is declared, without its full name
abbrev pub undeclared : Option (Declared FieldDescriptor) → Option FieldDescriptor
undeclared d = option_map (λ (e : Declared FieldDescriptor). e.what) d
