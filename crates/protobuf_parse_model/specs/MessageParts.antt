-- No public clause rests on this file.
-- What a message says besides those inside it, as the code finds it.
use Rattle.protobuf_parse_model.specs.Descriptors.{MessageParts, parts_of_message}
use Rattle.protobuf_parse_model.specs.declared.descriptor.DescriptorProto.{DescriptorProto}
use Rattle.protobuf_parse_model.specs.declared.descriptor.DescriptorProto.{out-DescriptorProto}

-- a message without those inside it
abbrev pub message_parts : DescriptorProto → MessageParts
message_parts m = parts_of_message (out-DescriptorProto m)
