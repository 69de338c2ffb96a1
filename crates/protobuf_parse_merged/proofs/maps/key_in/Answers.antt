use Rattle.std.proofs.Common.{◌≡◌, ◌∙◌, ap, arith, sym, map, List}
use Rattle.std.proofs.lemmas.Bool.Decides.{nat_tests}
use Rattle.protobuf_parse_merged.specs.declared.message.FieldValue as code
use Rattle.protobuf_parse_merged.specs.Maps as spec
use Rattle.protobuf_parse_merged.specs.Merged.{values_of}
use Rattle.protobuf_parse_merged.specs.Inside.{value_view}
use Rattle.protobuf_parse_merged.proofs.Keys.{found_here}
use Rattle.protobuf_parse_merged.proofs.maps.key_in.Goals as goal

pub returns-then-field-eq-ENTRY_KEY : goal.returns-then-field-eq-ENTRY_KEY
returns-then-field-eq-ENTRY_KEY c =
    let x = c.field-item.result in
    let one : x.number ≡ 1 = grind (arith, nat_tests) in
    c.first_key.ensures
    ∙ ap (λ (vs : List code.FieldValue). spec.key_of_values (values_of (map value_view vs)))
    c.deref.ensures.value
    ∙ sym (found_here c.args.fields.now c.fields.field-index x c.fields-test.true c.field-item.is one)
    ∙ c.fields.invariant
