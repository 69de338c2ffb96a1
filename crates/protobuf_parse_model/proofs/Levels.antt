-- One level of what nests.
use Rattle.std.specs.Prelude.{◌≡◌, List, [], ◌∷◌, map, refl}
use Rattle.protobuf_parse_syntax.specs.Trees.{FieldStatementSyntax, field_statements}
use Rattle.protobuf_parse_syntax.specs.Trees.{MessageStatementSyntax, message_statements}
use Rattle.protobuf_parse_model.specs.declared.descriptor.DescriptorProto.{DescriptorProto}
use Rattle.protobuf_parse_model.specs.declared.descriptor.DescriptorProto.{out-DescriptorProto}
use Rattle.protobuf_parse_model.specs.declared.descriptor.DescriptorProto.TheFolds.{fold_out-DescriptorProto}
use Rattle.protobuf_parse_model.specs.Descriptors.{MessageDescriptor, a_message}
use Rattle.protobuf_parse_model.specs.MessageParts.{message_parts}
use Rattle.protobuf_parse_model.specs.Descriptors.{message_step, message_view, messages_list}
use Rattle.protobuf_parse_model.specs.Descriptors.{messages_of_list}
use Rattle.protobuf_parse_model.specs.Statements.{group_body, message_body}

-- a message seen one level deep
pub message_view_is : (m : DescriptorProto)
    → message_view m ≡ a_message (message_parts m)
    (messages_of_list (map message_view (out-DescriptorProto m).nested_type.items))
message_view_is m = fold_out-DescriptorProto MessageDescriptor message_step m

pub list_of_is : (ms : List MessageDescriptor) → messages_list (messages_of_list ms) ≡ ms
list_of_is [] = refl
list_of_is (m ∷ ms) = rw (list_of_is ms) refl

pub group_body_is : (fs : List FieldStatementSyntax) → group_body (field_statements fs) ≡ fs
group_body_is [] = refl
group_body_is (f ∷ fs) = rw (group_body_is fs) refl

pub message_body_is : (ss : List MessageStatementSyntax) → message_body (message_statements ss) ≡ ss
message_body_is [] = refl
message_body_is (s ∷ ss) = rw (message_body_is ss) refl
