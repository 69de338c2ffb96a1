-- What full names and numbers mean in files: of several declarations with one name, or fields or
-- values with one number, the first.
use Rattle.std.specs.Prelude.{ℕ, ℤ, pos, negsuc, ◌&&◌, List, find, Option, Some, None}
use Rattle.std.specs.Prelude.{option_map, bytes_eq, slice_get}
use Rattle.std.specs.Option.{option_and_then, option_or}
use Rattle.std.specs.Ordering.{int_eq}
use Rattle.protobuf_parse_model.specs.Descriptors.{Text, FileDescriptor, FieldDescriptor}
use Rattle.protobuf_parse_model.specs.Descriptors.{EnumDescriptor, EnumValueDescriptor}
use Rattle.protobuf_parse_model.specs.Descriptors.{MessageDescriptor, MethodDescriptor}
use Rattle.protobuf_parse_model.specs.Descriptors.{OneofDescriptor, ServiceDescriptor, parts_seen}
use Rattle.protobuf_parse_wire.specs.Declarations.{extends}
use Rattle.protobuf_parse_wire.specs.Trees.{ValueTree, bytes, message, number, truth}
use Rattle.protobuf_parse_index.specs.Walk.{Standing, all_enums, all_extensions, all_messages}
use Rattle.protobuf_parse_index.specs.Walk.{all_services, path_of}

-- ---- by full names

-- the first that has the full name
abbrev pub named : {X : Type 0} → (name : Text) → List (Standing X) → Option (Standing X)
named {X} name xs = find (λ (x : Standing X). bytes_eq name x.name) xs

-- the message of that full name
abbrev pub message_named : List FileDescriptor → Text → Option (Standing MessageDescriptor)
message_named files name = named name (all_messages files)

-- the enum of that full name
abbrev pub enum_named : List FileDescriptor → Text → Option (Standing EnumDescriptor)
enum_named files name = named name (all_enums files)

-- the extension of that full name
abbrev pub extension_named : List FileDescriptor → Text → Option (Standing FieldDescriptor)
extension_named files name = named name (all_extensions files)

-- the service of that full name
abbrev pub service_named : List FileDescriptor → Text → Option (Standing ServiceDescriptor)
service_named files name = named name (all_services files)

-- the file that is known by that path
abbrev pub file_named : List FileDescriptor → (path : Text) → Option FileDescriptor
file_named files path = find (λ (f : FileDescriptor). bytes_eq path (path_of f)) files

-- ---- by names in a declaration

-- the first of the methods that has the name
abbrev pub method_with : (name : Text) → List MethodDescriptor → Option MethodDescriptor
method_with name methods = find (λ (m : MethodDescriptor). bytes_eq name m.name) methods

-- the method of that name of the service of that full name
abbrev pub method_named : List FileDescriptor → (of name : Text) → Option MethodDescriptor
method_named files of name =
    option_and_then (λ (s : Standing ServiceDescriptor). method_with name s.what.method)
    (service_named files of)

-- the first of the values that has the name
abbrev pub value_called : (name : Text) → List EnumValueDescriptor → Option EnumValueDescriptor
value_called name values = find (λ (v : EnumValueDescriptor). bytes_eq name v.name) values

-- the value of that name of the enum of that full name
abbrev pub value_named : List FileDescriptor → (of name : Text) → Option EnumValueDescriptor
value_named files of name =
    option_and_then (λ (e : Standing EnumDescriptor). value_called name e.what.value)
    (enum_named files of)

-- ---- by positions

-- what stands at the position, if it is one
abbrev pub at_index : {X : Type 0} → List X → ℤ → Option X
at_index xs (pos n) = slice_get xs n
at_index xs (negsuc n) = None

-- the oneof of the message that the field stands in, if it stands in one
abbrev pub oneof_of : MessageDescriptor → FieldDescriptor → Option OneofDescriptor
oneof_of m field = option_and_then (at_index (parts_seen m).oneof_decl) field.oneof_index

-- ---- by numbers

-- the extension of the message of that name that has the number
abbrev pub extension_numbered : List FileDescriptor → (extendee : Text) → ℤ
    → Option (Standing FieldDescriptor)
extension_numbered files extendee n =
    find (λ (e : Standing FieldDescriptor). extends extendee e.what && int_eq n e.what.number)
    (all_extensions files)

-- the first of the fields that has the number
abbrev pub field_with : ℤ → List FieldDescriptor → Option FieldDescriptor
field_with n fields = find (λ (f : FieldDescriptor). int_eq n f.number) fields

-- the field with that number among those that the message of that name declares
abbrev pub own_field : List FileDescriptor → (of : Text) → ℤ → Option FieldDescriptor
own_field files of n =
    option_and_then (λ (m : Standing MessageDescriptor). field_with n (parts_seen m.what).field)
    (message_named files of)

-- that field, or else the extension of the message with that number
abbrev pub field_numbered : List FileDescriptor → (of : Text) → ℤ → Option FieldDescriptor
field_numbered files of n =
    option_or (own_field files of n)
    (option_map (λ (e : Standing FieldDescriptor). e.what) (extension_numbered files of n))

-- the first of the values that has the number
abbrev pub value_with : ℤ → List EnumValueDescriptor → Option EnumValueDescriptor
value_with n values = find (λ (v : EnumValueDescriptor). int_eq n v.number) values

-- the first value with that number of the enum of that name
abbrev pub own_value : List FileDescriptor → (of : Text) → ℤ → Option EnumValueDescriptor
own_value files of n =
    option_and_then (λ (e : Standing EnumDescriptor). value_with n e.what.value)
    (enum_named files of)

-- the name of that value
abbrev pub value_name : List FileDescriptor → (of : Text) → ℤ → Option Text
value_name files of n =
    option_map (λ (v : EnumValueDescriptor). v.name) (own_value files of n)

-- the name of a value that was read, which has one where it is a number
abbrev pub value_read : List FileDescriptor → (of : Text) → ValueTree → Option Text
value_read files of (number n) = value_name files of n
value_read files of (truth b) = None
value_read files of (bytes bs) = None
value_read files of (message inside) = None
