use Rattle.std.proofs.Common.{◌≡◌, map, take}
use Rattle.protobuf_parse_model.specs.Descriptors.{message_view}
use Rattle.protobuf_parse_model.proofs.descriptor.clones.DescriptorProtoClone.+clone.Given as goal

abbrev pub invariant-nested : goal.invariant-nested
invariant-nested l =
    map message_view l.nested_type.items ≡ map message_view (take l.nested-index l.nested-items)
