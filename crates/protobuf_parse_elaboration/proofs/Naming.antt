-- The names of values are those of what is seen of them.
use Rattle.std.proofs.Common.{◌≡◌, ◌∙◌, Bor, List, [], ◌∷◌, map, refl, ap, sym}
use Rattle.protobuf_parse_syntax.specs.Trees.{EnumValueSyntax, MethodSyntax, method_syntax}
use Rattle.protobuf_parse_syntax.specs.declared.tree.declaration.Method.{Method}
use Rattle.protobuf_parse_model.specs.declared.descriptor.EnumValueDescriptorProto.{EnumValueDescriptorProto}
use Rattle.protobuf_parse_model.specs.Descriptors.{EnumValueDescriptor, enum_value_view}
use Rattle.protobuf_parse_model.specs.Environment.{Environment}
use Rattle.protobuf_parse_elaboration.specs.Enums.{value_of}
use Rattle.protobuf_parse_elaboration.specs.Parts.{methods_seen}
use Rattle.protobuf_parse_model.specs.declared.descriptor.DescriptorProto.{DescriptorProto}
use Rattle.protobuf_parse_model.specs.declared.descriptor.EnumDescriptorProto.{EnumDescriptorProto}
use Rattle.protobuf_parse_model.specs.declared.descriptor.FieldDescriptorProto.{FieldDescriptorProto}
use Rattle.protobuf_parse_model.specs.declared.descriptor.OneofDescriptorProto.{OneofDescriptorProto}
use Rattle.protobuf_parse_model.specs.declared.descriptor.ServiceDescriptorProto.{ServiceDescriptorProto}
use Rattle.protobuf_parse_model.specs.Descriptors.{Text, enum_view, field_view, message_view}
use Rattle.protobuf_parse_model.specs.Descriptors.{oneof_view, service_view}
use Rattle.protobuf_parse_elaboration.specs.NamesOf.{names_of_fields}
use Rattle.protobuf_parse_elaboration.specs.NamesOf.{names_of_services}
use Rattle.protobuf_parse_elaboration.specs.NamesOf.{message_name, names_of_enums}
use Rattle.protobuf_parse_elaboration.specs.NamesOf.{names_of_messages, names_of_oneofs}

names_seen : {A B : Type 0} (name : B → Text) (view : A → B) (xs : List A)
    → map (λ x. name (view x)) xs ≡ map name (map view xs)
names_seen name view [] = refl
names_seen name view (x ∷ xs) = ap (λ l. name (view x) ∷ l) (names_seen name view xs)

pub fields_named : (fs : List FieldDescriptorProto)
    → map (λ (f : FieldDescriptorProto). (field_view f).name) fs
    ≡ names_of_fields (map field_view fs)
fields_named fs = names_seen _ field_view fs

pub oneofs_named : (os : List OneofDescriptorProto)
    → map (λ (o : OneofDescriptorProto). (oneof_view o).name) os
    ≡ names_of_oneofs (map oneof_view os)
oneofs_named os = names_seen _ oneof_view os

pub enums_named : (es : List EnumDescriptorProto)
    → map (λ (e : EnumDescriptorProto). (enum_view e).name) es ≡ names_of_enums (map enum_view es)
enums_named es = names_seen _ enum_view es

pub messages_named : (ms : List DescriptorProto)
    → map (λ (m : DescriptorProto). message_name (message_view m)) ms
    ≡ names_of_messages (map message_view ms)
messages_named ms = names_seen message_name message_view ms

pub services_named : (ss : List ServiceDescriptorProto)
    → map (λ (s : ServiceDescriptorProto). (service_view s).name) ss
    ≡ names_of_services (map service_view ss)
services_named ss = names_seen _ service_view ss

pub values_named : (env : Environment) (vs : List EnumValueDescriptorProto)
    (values : List EnumValueSyntax) → map enum_value_view vs ≡ map (value_of env) values
    → map (λ (v : EnumValueDescriptorProto). (enum_value_view v).name) vs
    ≡ map (λ (v : EnumValueSyntax). v.name) values
values_named env vs values is =
    names_seen (λ (v : EnumValueDescriptor). v.name) enum_value_view vs
    ∙ ap (map (λ (v : EnumValueDescriptor). v.name)) is
    ∙ sym (names_seen (λ (v : EnumValueDescriptor). v.name) (value_of env) values)

pub methods_named : (ms : List (Bor Method))
    → map (λ (m : Bor Method). (method_syntax m.now).name) ms
    ≡ map (λ (m : MethodSyntax). m.name) (methods_seen ms)
methods_named ms =
    names_seen (λ (m : MethodSyntax). m.name) (λ (m : Bor Method). method_syntax m.now) ms
