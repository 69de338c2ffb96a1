-- No public clause rests on this file.
-- The message that a field makes, and the messages of a body, as the code has them.
use Rattle.std.specs.Prelude.{ℕ, Bool, List, Option, flat_map, length, map, option_map}
use Rattle.std.specs.Borrow.{Bor}
use Rattle.protobuf_parse_model.specs.Descriptors.{Text, FileDescriptor, MessageParts}
use Rattle.protobuf_parse_model.specs.Descriptors.{field_view, file_view, message_view}
use Rattle.protobuf_parse_model.specs.declared.descriptor.FileDescriptorProto.{FileDescriptorProto}
use Rattle.protobuf_parse_model.specs.MessageParts.{message_parts}
use Rattle.protobuf_parse_model.specs.declared.descriptor.DescriptorProto.{DescriptorProto}
use Rattle.protobuf_parse_model.specs.declared.descriptor.DescriptorProto.{out-DescriptorProto}
use Rattle.protobuf_parse_proto_text.specs.Order.{Part, extension_members, message_members}
use Rattle.protobuf_parse_proto_text.specs.Order.{parts_of}
use Rattle.protobuf_parse_proto_text.specs.OrderViews.{all_parts}
use Rattle.protobuf_parse_proto_text.specs.ProtoText.{Inner, inner_of, is_proto3, part_text}

-- what the message that is lent says itself
abbrev pub parts_made : Option (Bor DescriptorProto) → Option MessageParts
parts_made made = option_map (λ (m : Bor DescriptorProto). message_parts m.now) made

-- messages in the scope
abbrev pub inner_seen : List FileDescriptor → (proto3 : Bool) → (scope : Text)
    → List DescriptorProto → List Inner
inner_seen files proto3 scope ms =
    map (λ (m : DescriptorProto). inner_of files proto3 scope (message_view m)) ms

-- the messages inside a message
abbrev pub nested_in : DescriptorProto → List DescriptorProto
nested_in m = (out-DescriptorProto m).nested_type.items

-- what stands in a message that has the full name, in order
abbrev pub order_inside : (scope : Text) → DescriptorProto → List Part
order_inside scope m = parts_of (length (nested_in m))
    (message_members scope (all_parts (nested_in m)) (message_parts m))

-- its text
abbrev pub inside_text : List FileDescriptor → (proto3 : Bool) → ℕ → (scope : Text)
    → DescriptorProto → Text
inside_text files proto3 level scope m =
    flat_map (part_text files proto3 level (inner_seen files proto3 scope (nested_in m)))
    (order_inside scope m)

-- what stands in a file, whose messages are in the scope, in order
abbrev pub order_in_file : (scope : Text) → FileDescriptorProto → List Part
order_in_file scope f = parts_of (length f.message_type.items)
    (extension_members scope (all_parts f.message_type.items)
    (map field_view f.extension.items))

-- its text
abbrev pub text_in_file : List FileDescriptor → (scope : Text) → FileDescriptorProto → Text
text_in_file files scope f =
    let proto3 = is_proto3 (file_view f).syntax in
    flat_map (part_text files proto3 0 (inner_seen files proto3 scope f.message_type.items))
    (order_in_file scope f)
