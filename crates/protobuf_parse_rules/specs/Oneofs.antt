-- Oneofs of messages: in each stands a field. Protocol Buffers Language Specification (proto3),
-- "Oneof and oneof field" (https://protobuf.dev). A field says the position of the oneof that it
-- stands in.
use Rattle.std.specs.Prelude.{ℕ, ℤ, Bool, not, List, [], ◌∷◌, Option, flat_map, option_to_list}
use Rattle.protobuf_parse_model.specs.Descriptors.{Text, FieldDescriptor, OneofDescriptor}
use Rattle.protobuf_parse_wire.specs.Declarations.{name_within}
use Rattle.protobuf_parse_rules.specs.Bodies.{Content, BodyParts, of_file, of_message}
use Rattle.protobuf_parse_rules.specs.Positions.{by_position, is_named}
use Rattle.protobuf_parse_rules.specs.Rules.{Breach, Broken, breaches_at, broken_if}
use Rattle.protobuf_parse_rules.specs.declared.rule.Rule.TheVariants as rule

-- the positions of oneofs that the fields say
abbrev pub oneofs_held : List FieldDescriptor → List ℤ
oneofs_held fields = flat_map (λ (f : FieldDescriptor). option_to_list f.oneof_index) fields

-- C41 where no field says that it stands in the oneof
abbrev pub without_fields : (held : Bool) → Option Broken
without_fields held = broken_if (not held) rule.OneofWithoutFields

-- a oneof at that position, where fields say those
abbrev pub oneof_breaches : (file scope : Text) → (held : List ℤ) → ℕ → OneofDescriptor
    → List Breach
oneof_breaches file scope held n o =
    breaches_at (record { file = file; construct = name_within scope o.name })
    (without_fields (is_named held n) ∷ [])

-- of the oneofs of a message, in order
abbrev pub oneofs_in : (file scope : Text) → Content → List Breach
oneofs_in file scope (of_message m) =
    by_position (oneof_breaches file scope (oneofs_held m.field)) 0 m.oneof_decl
oneofs_in file scope (of_file f) = []

-- each oneof of the body in which no field stands
abbrev pub empty_oneofs : BodyParts → List Breach
empty_oneofs p = oneofs_in p.file p.scope p.content
