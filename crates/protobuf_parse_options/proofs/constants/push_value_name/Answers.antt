use Rattle.std.proofs.Common.{◌≡◌, ◌∙◌, [], Option, Some, ap, rules, subst, sym, ℤ}
use Rattle.std.specs.Int.{w32, w128}
use Rattle.std.specs.Int.RustNames.{FitsSigned}
use Rattle.std.specs.Prelude.{nat_abs}
use Rattle.std.proofs.lemmas.Int.{to_z-of_z}
use Rattle.protobuf_parse_model.specs.Descriptors.{field_view, Text}
use Rattle.protobuf_parse_wire.specs.Trees as trees
use Rattle.protobuf_parse_options.specs.CustomFaults.{value_name_faults}
use Rattle.protobuf_parse_options.specs.CustomOptions.{item_of}
use Rattle.protobuf_parse_options.specs.Given.{AreFit, option_scope_view}
use Rattle.protobuf_parse_options.specs.OptionFields.{number_of_value, type_name_of, type_takes}
use Rattle.protobuf_parse_options.proofs.ItemBytes.{number_seen}
use Rattle.protobuf_parse_options.proofs.Writable.{value_fits}
use Rattle.protobuf_parse_options.proofs.constants.push_value_name.Goals as goal

pub push_item-requires : goal.push_item-requires
push_item-requires c =
    let f = field_view c.args.field.now in
    let files = (option_scope_view c.args.at.now).files in
    let name = c.args.name.now in
    let z = c.in-Some.number in
    let known : number_of_value files (type_name_of f) name ≡ Some z =
    sym (ap (λ (t : Text). number_of_value files t name) c.type_name_of.ensures)
    ∙ sym c.number_of_value-number.ensures ∙ c.in-Some.is in
    let small = c.args.at.now.customs.now.small (type_name_of f) name z known in
    let none : value_name_faults f.name (type_takes f.type_) name (Some z) ≡ [] =
    subst (λ (o : Option ℤ). value_name_faults f.name (type_takes f.type_) name o ≡ [])
    c.in-Some.is c.in_ok-check_value_name.ensures.0 in
    let wide : FitsSigned w128 c.from.result = search rules in
    let is = to_z-of_z w128 c.from.result wide ∙ c.from.ensures ∙ to_z-of_z w32 z small in
    subst (λ v. AreFit (item_of f v)) (sym (number_seen _ ∙ ap trees.number is))
    (value_fits f.name name f.type_ (nat_abs f.number) z small none)
