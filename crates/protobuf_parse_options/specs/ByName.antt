-- No public clause rests on this file.
-- What messages and enums of a name have.
use Rattle.std.specs.Prelude.{List, [], ◌∷◌, map, flat_map, filter, bytes_eq, Option, Some, None}
use Rattle.protobuf_parse_model.specs.Declarations.{Declared}
use Rattle.protobuf_parse_model.specs.Descriptors.{Text, FieldDescriptor, EnumDescriptor}
use Rattle.protobuf_parse_model.specs.Descriptors.{EnumValueDescriptor, MessageParts}

abbrev pub first : {T : Type 0} → List T → Option T
first [] = None
first (x ∷ xs) = Some x

-- the fields of all of them
abbrev pub fields_of_all : List MessageParts → List FieldDescriptor
fields_of_all ps = flat_map (λ (parts : MessageParts). parts.field) ps

-- what has the full name
abbrev pub named : {T : Type 0} → Text → List (Declared T) → List T
named {T = T} name ds =
    map (λ (d : Declared T). d.what) (filter (λ (d : Declared T). bytes_eq name d.name) ds)

-- the values of all of the enums
abbrev pub values_of_all : List EnumDescriptor → List EnumValueDescriptor
values_of_all es = flat_map (λ (e : EnumDescriptor). e.value) es
