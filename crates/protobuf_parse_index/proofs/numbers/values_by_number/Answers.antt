use mir.Syntax.{w32, w128}
use Rattle.std.proofs.Common.{◌≡◌, ◌∙◌, refl, to_z, of_z, rules}
use Rattle.std.specs.Int.RustNames.{FitsSigned}
use Rattle.std.proofs.lemmas.Int.{to_z-of_z}
use Rattle.protobuf_parse_model.specs.Descriptors.{EnumValueDescriptor, enum_value_view}
use Rattle.protobuf_parse_index.proofs.Putting.{numbers_put}
use Rattle.protobuf_parse_index.proofs.numbers.values_by_number.Goals as goal

pub values-preserved : goal.values-preserved
values-preserved c =
    let item = c.value-item.result in
    let fits : FitsSigned w128 c.from.result = search rules in
    let narrow : FitsSigned w32 item.number = search rules in
    let number : to_z w128 (of_z w128 c.from.result) ≡ item.number =
    to_z-of_z w128 c.from.result fits ∙ c.from.ensures ∙ to_z-of_z w32 item.number narrow in
    numbers_put enum_value_view (λ (x : EnumValueDescriptor). x.number) c.args.values.now
    c.values.value-index item
    c.values.numbers c.put_number.new.numbers _ _ c.values-test.true c.value-item.is
    c.in_ok-put_number.ensures number refl c.values.invariant
