use Rattle.std.proofs.Common.{◌∙◌, map, subst, sym, take}
use Rattle.protobuf_parse_model.specs.Descriptors.{field_view}
use Rattle.protobuf_parse_locations.specs.Declarations.{is_synthetic}
use Rattle.protobuf_parse_locations.specs.Marks.{Marks}
use Rattle.protobuf_parse_locations.proofs.Synthetic.{marks_alike, marks_one, fields_more}
use Rattle.protobuf_parse_locations.proofs.oneofs.synthetic_oneofs.Goals.{in-Some, in-None}
use Rattle.protobuf_parse_locations.proofs.oneofs.synthetic_oneofs.Goals as goal

pub fields-preserved : goal.fields-preserved
fields-preserved c =
    let f = c.field-item.result in
    let next = fields_more c.args.fields.now c.fields.field-index f c.fields-test.true
    c.field-item.is in
    let fs = map field_view (take c.fields.field-index c.args.fields.now) in
    let now = c.match-index_of_synthetic in
    subst (λ gs. Marks (is_synthetic gs) c.args.count now.synthetic.items) (sym next)
    (elim now.branch [
      | in-Some w ↦ rw w.synthetic-is
          (marks_one fs (field_view f) c.args.count w.in-Some.oneof c.fields.synthetic.items
          (sym c.index_of_synthetic.ensures ∙ w.in-Some.is)
          c.fields.invariant)
      | in-None w ↦ rw w.synthetic-is
          (marks_alike fs (field_view f) c.args.count c.fields.synthetic.items
          (sym c.index_of_synthetic.ensures ∙ w.in-None.is)
          c.fields.invariant)
    ])
