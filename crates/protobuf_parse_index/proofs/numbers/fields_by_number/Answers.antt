use mir.Syntax.{w32, w128}
use Rattle.std.proofs.Common.{◌≡◌, ◌∙◌, refl, to_z, of_z, rules}
use Rattle.std.specs.Int.RustNames.{FitsSigned}
use Rattle.std.proofs.lemmas.Int.{to_z-of_z}
use Rattle.protobuf_parse_model.specs.Descriptors.{FieldDescriptor, field_view}
use Rattle.protobuf_parse_index.proofs.Putting.{numbers_put}
use Rattle.protobuf_parse_index.proofs.numbers.fields_by_number.Goals as goal

pub fields-preserved : goal.fields-preserved
fields-preserved c =
    let item = c.field-item.result in
    let fits : FitsSigned w128 c.from.result = search rules in
    let narrow : FitsSigned w32 item.number = search rules in
    let number : to_z w128 (of_z w128 c.from.result) ≡ item.number =
    to_z-of_z w128 c.from.result fits ∙ c.from.ensures ∙ to_z-of_z w32 item.number narrow in
    numbers_put field_view (λ (x : FieldDescriptor). x.number) c.args.fields.now
    c.fields.field-index item
    c.fields.numbers c.put_number.new.numbers _ _ c.fields-test.true c.field-item.is
    c.in_ok-put_number.ensures number refl c.fields.invariant
