use Rattle.std.proofs.Common.{map, take}
use Rattle.protobuf_parse_model.specs.Descriptors.{field_view}
use Rattle.protobuf_parse_descriptor_set.proofs.Synthetic.{TellsMembers}
use Rattle.protobuf_parse_descriptor_set.proofs.oneofs.synthetic_oneofs.Given as goal

abbrev pub invariant-loop-field : goal.invariant-loop-field
invariant-loop-field l = TellsMembers (map field_view (take l.field-index l.fields)) l.count
    l.synthetic.items l.has_members.items
