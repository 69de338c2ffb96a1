-- No public clause rests on this file.
-- A message's lines, one level deep, and a field's words after its label.
use Rattle.std.specs.Prelude.{◌≡◌, ℕ, ◌+◌, List, [], ◌∷◌, ◌++◌, codes, flat_map, map, refl}
use Rattle.std.specs.Fmt.{signed_decimal}
use Rattle.std.proofs.Common.{append_assoc}
use Rattle.protobuf_parse_base.specs.DeclaredNames.{name_bytes}
use Rattle.protobuf_parse_model.specs.Descriptors.{FieldDescriptor, MessageDescriptor, Text}
use Rattle.protobuf_parse_model.specs.Descriptors.{messages_of_list}
use Rattle.protobuf_parse_model.specs.Descriptors.{message_view}
use Rattle.protobuf_parse_model.specs.MessageParts.{message_parts}
use Rattle.protobuf_parse_model.proofs.Levels.{message_view_is}
use Rattle.protobuf_parse_model.specs.declared.descriptor.DescriptorProto.{DescriptorProto}
use Rattle.protobuf_parse_model.specs.declared.descriptor.DescriptorProto.{out-DescriptorProto}
use Rattle.protobuf_parse_model.specs.Words.{label_word}
use Rattle.protobuf_parse_listing.specs.Listing.{field_back, field_front, field_words, type_words}
use Rattle.protobuf_parse_listing.specs.Listing.{line, message_lines, all_message_lines}
use Rattle.protobuf_parse_listing.specs.Listing.{message_front, message_middle, message_back}

pub all_message_lines_is : (level : ℕ) (ms : List MessageDescriptor)
    → all_message_lines level (messages_of_list ms) ≡ flat_map (message_lines level) ms
all_message_lines_is level [] = refl
all_message_lines_is level (m ∷ ms) = rw (all_message_lines_is level ms) refl

pub message_lines_is : (level : ℕ) (m : DescriptorProto)
    → message_lines level (message_view m)
    ≡ line level (codes "message " ++ name_bytes (out-DescriptorProto m).name)
    ++ (message_front (level + 1) (message_parts m)
    ++ flat_map (message_lines (level + 1))
    (map message_view (out-DescriptorProto m).nested_type.items)
    ++ message_middle (level + 1) (message_parts m) ++ message_back (level + 1) (message_parts m))
message_lines_is level m = rw (message_view_is m, all_message_lines_is) refl

-- `TYPE NAME = NUMBER`
abbrev pub front_after_label : FieldDescriptor → Text
front_after_label f = type_words f.type_ f.type_name ++ codes " " ++ f.name ++ codes " = "
    ++ signed_decimal f.number

unfoldable pub after_label : FieldDescriptor → Text
after_label f = front_after_label f ++ field_back f

pub field_words_is : (f : FieldDescriptor)
    → field_words f ≡ label_word f.label ++ codes " " ++ after_label f
unfolding after_label field_front
field_words_is f = simp append_assoc refl
