-- What methods take and give: messages. Protocol Buffers Language Guide (proto3), "Defining
-- Services" (https://protobuf.dev). Nothing is told where nothing has the name.
use Rattle.std.specs.Prelude.{Bool, ◌&&◌, if◌then◌else◌, is_none, is_some, List, [], ◌∷◌, flat_map}
use Rattle.std.specs.Prelude.{Option, Some, None}
use Rattle.protobuf_parse_model.specs.Descriptors.{Text, MethodDescriptor, ServiceDescriptor}
use Rattle.protobuf_parse_wire.specs.Declarations.{name_within}
use Rattle.protobuf_parse_rules.specs.Bodies.{BodyParts, services_of}
use Rattle.protobuf_parse_rules.specs.Lookups.{enum_named, message_named}
use Rattle.protobuf_parse_rules.specs.Rules.{Breach, Broken, breaches_at, broken_by}
use Rattle.protobuf_parse_rules.specs.declared.rule.Rule.TheVariants as rule

-- whether an enum has the full name, and no message
abbrev pub is_enum_alone : List BodyParts → Text → Bool
is_enum_alone all name = is_some (enum_named all name) && is_none (message_named all name)

-- C53 for a type of that full name
abbrev pub type_of_method : List BodyParts → Text → Option Broken
type_of_method all name =
    if is_enum_alone all name then Some (broken_by rule.MethodTypeNotMessage name) else None

-- C53 for what a method takes and for what it gives
abbrev pub method_breaches : List BodyParts → (file scope : Text) → MethodDescriptor → List Breach
method_breaches all file scope m =
    breaches_at (record { file = file; construct = name_within scope m.name })
    (type_of_method all m.input_type ∷ type_of_method all m.output_type ∷ [])

-- of a service, which is the scope of its methods
abbrev pub service_breaches : List BodyParts → (file scope : Text) → ServiceDescriptor
    → List Breach
service_breaches all file scope s =
    flat_map (method_breaches all file (name_within scope s.name)) s.method

-- of a body
abbrev pub methods_breaches : List BodyParts → BodyParts → List Breach
methods_breaches all p = flat_map (service_breaches all p.file p.scope) (services_of p.content)
