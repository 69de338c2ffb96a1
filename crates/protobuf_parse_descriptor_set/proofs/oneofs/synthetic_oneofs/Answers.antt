use Rattle.std.proofs.Common.{◌∙◌, ap, not, subst, sym}
use Rattle.protobuf_parse_model.specs.Descriptors.{field_view}
use Rattle.protobuf_parse_descriptor_set.proofs.Synthetic.{TellsMembers, fields_more}
use Rattle.protobuf_parse_descriptor_set.proofs.Synthetic.{no_member_more, optional_more}
use Rattle.protobuf_parse_descriptor_set.proofs.Synthetic.{other_more}
use Rattle.protobuf_parse_descriptor_set.proofs.oneofs.synthetic_oneofs.Goals.{in-Some, in-None}
use Rattle.protobuf_parse_descriptor_set.proofs.oneofs.synthetic_oneofs.Goals.{then-field}
use Rattle.protobuf_parse_descriptor_set.proofs.oneofs.synthetic_oneofs.Goals.{else-field}
use Rattle.protobuf_parse_descriptor_set.proofs.oneofs.synthetic_oneofs.Goals as goal

pub loop-field-preserved : goal.loop-field-preserved
loop-field-preserved c =
    let f = c.field-item.result in
    let before = c.loop-field.invariant in
    let next = fields_more c.args.fields.now c.loop-field.field-index f c.loop-field-test.true
    c.field-item.is in
    let now = c.match-index_among in
    subst (λ fs. TellsMembers fs c.args.count now.synthetic.items now.has_members.items) (sym next)
    (elim now.branch [
      | in-Some w ↦ rw (w.synthetic-is, w.has_members-is)
          (elim w.if-field.branch [
            | then-field v ↦ optional_more _ (field_view f) _ _ _ _ _ _
                (sym c.index_among.ensures ∙ w.in-Some.is) before v.if-field.true
                (v.value-is ∙ ap not v.index.ensures)
            | else-field v ↦ other_more _ (field_view f) _ _ _ _ _
                (sym c.index_among.ensures ∙ w.in-Some.is) before v.if-field.false v.value-is
          ])
      | in-None w ↦ rw (w.synthetic-is, w.has_members-is)
          (no_member_more _ (field_view f) _ _ _ (sym c.index_among.ensures ∙ w.in-None.is) before)
    ])
