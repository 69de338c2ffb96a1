use Rattle.std.proofs.Common.{map}
use Rattle.protobuf_parse_model.specs.Descriptors.{oneof_view}
use Rattle.protobuf_parse_descriptor_set.specs.Items.{part}
use Rattle.protobuf_parse_descriptor_set.specs.OneofOrder.{marked, unmarked}
use Rattle.protobuf_parse_descriptor_set.specs.DescriptorItems.{oneof_items}
use Rattle.protobuf_parse_descriptor_set.proofs.Joining.{both_lists, on_ok_then}
use Rattle.protobuf_parse_descriptor_set.proofs.messages.put_oneofs.Goals as goal

pub returns : goal.returns
returns c =
    let oneofs = map oneof_view c.args.oneofs.now in
    let marks = c.args.synthetic.now in
    on_ok_then c.put_oneofs_of_kind-2.result
    (both_lists (λ o. part 8 (oneof_items o)) (unmarked marks oneofs) (marked marks oneofs)
    c.in_ok-put_oneofs_of_kind.ensures)
    c.put_oneofs_of_kind-2.ensures
