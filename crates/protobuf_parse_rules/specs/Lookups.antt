-- Messages and enums by their full names: of those that have a name, the first.
use Rattle.std.specs.Prelude.{Bool, List, [], ◌∷◌, map, flat_map, find, Option, bytes_eq}
use Rattle.protobuf_parse_model.specs.Descriptors.{Text, EnumDescriptor}
use Rattle.protobuf_parse_wire.specs.Declarations.{name_within}
use Rattle.protobuf_parse_rules.specs.Bodies.{Content, BodyParts, enums_of, of_file, of_message}

-- a message, by its full name, and the path of its file
pub record NamedMessage : Type 0 where
  pub file : Text
  pub name : Text
  pub what : Content

-- a message, where that is what is there
abbrev pub message_of : (file name : Text) → Content → List NamedMessage
message_of file name (of_message m) =
    record { file = file; name = name; what = of_message m } ∷ []
message_of file name (of_file f) = []

-- the message of a body
abbrev pub message_at : BodyParts → List NamedMessage
message_at p = message_of p.file p.scope p.content

-- the message of that full name
abbrev pub message_named : List BodyParts → Text → Option NamedMessage
message_named all name =
    find (λ (m : NamedMessage). bytes_eq m.name name) (flat_map message_at all)

-- an enum, by its full name, the path of its file, and whether that is one of proto3
pub record NamedEnum : Type 0 where
  pub file : Text
  pub name : Text
  pub proto3 : Bool
  pub what : EnumDescriptor

-- an enum that stands in the scope
abbrev pub enum_of : (file scope : Text) → (proto3 : Bool) → EnumDescriptor → NamedEnum
enum_of file scope proto3 e =
    record { file = file; name = name_within scope e.name; proto3 = proto3; what = e }

-- the enums of a body
abbrev pub enums_at : BodyParts → List NamedEnum
enums_at p = map (enum_of p.file p.scope p.proto3) (enums_of p.content)

-- the enum of that full name
abbrev pub enum_named : List BodyParts → Text → Option NamedEnum
enum_named all name = find (λ (e : NamedEnum). bytes_eq e.name name) (flat_map enums_at all)
