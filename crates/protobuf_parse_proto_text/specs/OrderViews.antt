-- No public clause rests on this file.
-- Members and parts as the code has them.
use Rattle.std.specs.Prelude.{List, map}
use Rattle.protobuf_parse_model.specs.Descriptors.{MessageParts, field_view, oneof_view}
use Rattle.protobuf_parse_model.specs.MessageParts.{message_parts}
use Rattle.protobuf_parse_model.specs.declared.descriptor.DescriptorProto.{DescriptorProto}
use Rattle.protobuf_parse_proto_text.specs.Order as spec
use Rattle.protobuf_parse_proto_text.specs.declared.members.Block.{Block}
use Rattle.protobuf_parse_proto_text.specs.declared.members.Block.TheVariants as block
use Rattle.protobuf_parse_proto_text.specs.declared.members.Member.{Member}
use Rattle.protobuf_parse_proto_text.specs.declared.order.Part.{Part}
use Rattle.protobuf_parse_proto_text.specs.declared.order.Part.TheVariants as part

abbrev pub block_view : Block → spec.Block
block_view block.Alone = spec.alone
block_view (block.Oneof i o) = spec.in_oneof i (oneof_view o.now)
block_view (block.Extend e) = spec.extending e.now

abbrev pub member_view : Member → spec.Member
member_view m = record { field = field_view m.field.now; made = m.made; block = block_view m.block }

abbrev pub part_view : Part → spec.Part
part_view (part.Begins b) = spec.begins (block_view b)
part_view (part.Ends b) = spec.ends (block_view b)
part_view (part.Declares m) = spec.declares (member_view m)
part_view (part.Holds at) = spec.holds at

-- messages without those inside them
abbrev pub all_parts : List DescriptorProto → List MessageParts
all_parts ms = map message_parts ms
