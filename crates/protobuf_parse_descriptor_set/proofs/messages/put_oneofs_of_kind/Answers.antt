use Rattle.std.proofs.Common.{sym}
use Rattle.protobuf_parse_model.specs.Descriptors.{oneof_view}
use Rattle.protobuf_parse_descriptor_set.specs.Items.{part}
use Rattle.protobuf_parse_descriptor_set.specs.DescriptorItems.{oneof_items}
use Rattle.protobuf_parse_descriptor_set.proofs.Joining.{at_end, none_yet, of_same}
use Rattle.protobuf_parse_descriptor_set.proofs.Indices.{next_of_kind, no_next_of_kind, none_of_kind}
use Rattle.protobuf_parse_descriptor_set.proofs.messages.put_oneofs_of_kind.Goals.{then-synthetic-index+in_ok-put_part}
use Rattle.protobuf_parse_descriptor_set.proofs.messages.put_oneofs_of_kind.Goals.{else-synthetic-index}
use Rattle.protobuf_parse_descriptor_set.proofs.messages.put_oneofs_of_kind.Goals as goal

pub loop-index-init : goal.loop-index-init
loop-index-init c = of_same (λ o. part 8 (oneof_items o)) _ _
    (sym (none_of_kind c.args.kind c.args.synthetic.now)) (none_yet _)

pub loop-index-preserved : goal.loop-index-preserved
loop-index-preserved c =
    let oneof = c.index-oneofs-index in
    let at = c.loop-index.index in
    let before = c.loop-index.invariant in
    let within = c.loop-index-test.true in
    elim c.if-synthetic-index.branch [
      | then-synthetic-index+in_ok-put_part w ↦ rw w.out-is
          (at_end (λ o. part 8 (oneof_items o)) _ _ _
          (next_of_kind oneof_view c.args.kind c.args.synthetic.now c.args.oneofs.now at
          oneof.result c.requires within oneof.is w.if-synthetic-index.true) before
          w.in_ok-put_part.ensures)
      | else-synthetic-index w ↦ rw w.out-is
          (of_same (λ o. part 8 (oneof_items o)) _ _
          (sym (no_next_of_kind oneof_view c.args.kind c.args.synthetic.now c.args.oneofs.now at
          oneof.result c.requires within oneof.is w.if-synthetic-index.false)) before)
    ]
