-- Bodies of messages.
use Rattle.std.proofs.Common.{◌≡◌, List, [], ◌∷◌, ◌++◌, map, refl, sym, ap, ◌∙◌, append_assoc}
use Rattle.std.proofs.Common.{Bool}
use Rattle.std.specs.List.{flat_map}
use Rattle.std.proofs.lemmas.List.{map-append}
use Rattle.protobuf_parse_base.specs.DeclaredNames.{name_bytes}
use Rattle.protobuf_parse_model.specs.declared.descriptor.DescriptorProto.{DescriptorProto}
use Rattle.protobuf_parse_model.specs.declared.descriptor.DescriptorProto.{out-DescriptorProto}
use Rattle.protobuf_parse_model.specs.Descriptors.{Text, MessageDescriptor, messages_of_list}
use Rattle.protobuf_parse_model.specs.Descriptors.{message_view}
use Rattle.protobuf_parse_model.specs.MessageParts.{message_parts}
use Rattle.protobuf_parse_model.proofs.Levels.{message_view_is}
use Rattle.protobuf_parse_wire.specs.Declarations.{Declaration, name_within, declared_message}
use Rattle.protobuf_parse_wire.specs.Declarations.{declared_messages}
use Rattle.protobuf_parse_rules.specs.Bodies.{BodyParts, message_body}

pub declared_list : (scope : Text) (ms : List MessageDescriptor)
    → declared_messages scope (messages_of_list ms) ≡ flat_map (declared_message scope) ms
declared_list scope [] = refl
declared_list scope (m ∷ ms) = ap (λ ds. declared_message scope m ++ ds) (declared_list scope ms)

-- a message, and those inside it
pub message_declared : (scope name : Text) (m : DescriptorProto)
    → name ≡ name_within scope (name_bytes (out-DescriptorProto m).name)
    → declared_message scope (message_view m)
    ≡ record { name = name; parts = message_parts m } ∷ flat_map (declared_message name)
    (map message_view (out-DescriptorProto m).nested_type.items)
message_declared scope name m named =
    ap (declared_message scope) (message_view_is m)
    ∙ ap (λ (n : Text).
    record { name = n; parts = message_parts m }
    ∷ declared_messages n (messages_of_list (map message_view
    (out-DescriptorProto m).nested_type.items))) (sym named)
    ∙ ap (λ ds. record { name = name; parts = message_parts m } ∷ ds)
    (declared_list name (map message_view (out-DescriptorProto m).nested_type.items))

-- bodies behind bodies
pub bodies_more : (path : Text) (proto3 : Bool) (old mid new : List BodyParts)
    (ds es all : List Declaration)
    → mid ≡ old ++ map (message_body path proto3) ds → new ≡ mid
    ++ map (message_body path proto3) es
    → all ≡ ds ++ es → new ≡ old ++ map (message_body path proto3) all
bodies_more path proto3 old mid new ds es all p q e =
    q ∙ ap (λ z. z ++ map (message_body path proto3) es) p
    ∙ append_assoc old (map (message_body path proto3) ds) (map (message_body path proto3) es)
    ∙ ap (λ z. old ++ z) (sym (map-append (message_body path proto3) ds es))
    ∙ ap (λ z. old ++ map (message_body path proto3) z) (sym e)
