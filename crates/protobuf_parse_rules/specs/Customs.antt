-- Which constructs set custom options: those whose options have bytes of them.
use Rattle.std.specs.Prelude.{Bool, true, false, ◌||◌, List, [], ◌∷◌}
use Rattle.std.specs.List.{list_any}
use Rattle.std.specs.Option.{option_map_or}
use Rattle.protobuf_parse_model.specs.Descriptors.{EnumDescriptor, EnumValueDescriptor}
use Rattle.protobuf_parse_model.specs.Descriptors.{FieldDescriptor, FileDescriptor}
use Rattle.protobuf_parse_model.specs.Descriptors.{MessageParts, MethodDescriptor}
use Rattle.protobuf_parse_model.specs.Descriptors.{OneofDescriptor, ServiceDescriptor}
use Rattle.protobuf_parse_model.specs.Options.{EnumOptionValues, EnumValueOptionValues}
use Rattle.protobuf_parse_model.specs.Options.{FieldOptionValues, FileOptionValues}
use Rattle.protobuf_parse_model.specs.Options.{MessageOptionValues, MethodOptionValues}
use Rattle.protobuf_parse_model.specs.Options.{OneofOptionValues, ServiceOptionValues}
use Rattle.protobuf_parse_rules.specs.Bodies.{Content, of_file, of_message}

-- whether a list has elements
abbrev pub are_any : {X : Type 0} → List X → Bool
are_any [] = false
are_any (x ∷ xs) = true

-- a field or an extension
abbrev pub field_sets : FieldDescriptor → Bool
field_sets f = option_map_or (λ (o : FieldOptionValues). are_any o.custom) f.options false

-- a oneof
abbrev pub oneof_sets : OneofDescriptor → Bool
oneof_sets o = option_map_or (λ (v : OneofOptionValues). are_any v.custom) o.options false

-- a value of an enum
abbrev pub value_sets : EnumValueDescriptor → Bool
value_sets v = option_map_or (λ (o : EnumValueOptionValues). are_any o.custom) v.options false

-- an enum itself
abbrev pub enum_itself_sets : EnumDescriptor → Bool
enum_itself_sets e = option_map_or (λ (o : EnumOptionValues). are_any o.custom) e.options false

-- or one of its values
abbrev pub enum_sets : EnumDescriptor → Bool
enum_sets e = enum_itself_sets e || list_any value_sets e.value

-- a method
abbrev pub method_sets : MethodDescriptor → Bool
method_sets m = option_map_or (λ (o : MethodOptionValues). are_any o.custom) m.options false

-- a service itself
abbrev pub service_itself_sets : ServiceDescriptor → Bool
service_itself_sets s =
    option_map_or (λ (o : ServiceOptionValues). are_any o.custom) s.options false

-- or one of its methods
abbrev pub service_sets : ServiceDescriptor → Bool
service_sets s = service_itself_sets s || list_any method_sets s.method

-- a message itself
abbrev pub message_itself_sets : MessageParts → Bool
message_itself_sets m =
    option_map_or (λ (o : MessageOptionValues). are_any o.custom) m.options false

-- or what stands in it, but for messages
abbrev pub message_sets : MessageParts → Bool
message_sets m = message_itself_sets m
    || (list_any field_sets m.field
    || (list_any oneof_sets m.oneof_decl
    || (list_any enum_sets m.enum_type
    || list_any field_sets m.extension)))

-- a file itself
abbrev pub file_itself_sets : FileDescriptor → Bool
file_itself_sets f = option_map_or (λ (o : FileOptionValues). are_any o.custom) f.options false

-- or what stands in it, but for messages
abbrev pub file_sets : FileDescriptor → Bool
file_sets f = file_itself_sets f
    || (list_any enum_sets f.enum_type
    || (list_any service_sets f.service
    || list_any field_sets f.extension))

-- a message or what stands in it, or a file or what stands in it, but for messages
abbrev pub sets_custom : Content → Bool
sets_custom (of_message m) = message_sets m
sets_custom (of_file f) = file_sets f
