-- No public clause rests on this file.
-- The names of what stands in lists of descriptors.
use Rattle.std.specs.Prelude.{List, map}
use Rattle.protobuf_parse_model.specs.Descriptors.{Text, FieldDescriptor, EnumDescriptor}
use Rattle.protobuf_parse_model.specs.Descriptors.{MessageDescriptor, ServiceDescriptor}
use Rattle.protobuf_parse_model.specs.Descriptors.{OneofDescriptor, a_message}

-- the names of fields
abbrev pub names_of_fields : List FieldDescriptor → List Text
names_of_fields fields = map (λ (f : FieldDescriptor). f.name) fields

abbrev pub names_of_services : List ServiceDescriptor → List Text
names_of_services services = map (λ (s : ServiceDescriptor). s.name) services

abbrev pub message_name : MessageDescriptor → Text
message_name (a_message parts nested) = parts.name

abbrev pub names_of_messages : List MessageDescriptor → List Text
names_of_messages messages = map message_name messages

abbrev pub names_of_oneofs : List OneofDescriptor → List Text
names_of_oneofs oneofs = map (λ (o : OneofDescriptor). o.name) oneofs

abbrev pub names_of_enums : List EnumDescriptor → List Text
names_of_enums enums = map (λ (e : EnumDescriptor). e.name) enums
