use mir.Syntax.{w128}
use Rattle.std.proofs.Common.{ℤ, ap, sym, ◌∙◌, rules}
use Rattle.std.specs.Int.RustNames.{FitsSigned}
use Rattle.std.specs.Prelude.{option_map}
use Rattle.std.specs.Borrow.{Bor}
use Rattle.std.specs.BTreeMap.{BTreeMap, get}
use Rattle.std.specs.Ordering.{int_cmp}
use Rattle.std.specs.Option.{option_and_then}
use Rattle.std.proofs.lemmas.Int.{to_z-of_z}
use Rattle.protobuf_parse_model.specs.Descriptors.{enum_value_view}
use Rattle.protobuf_parse_model.specs.declared.descriptor.EnumValueDescriptorProto.{EnumValueDescriptorProto}
use Rattle.protobuf_parse_index.specs.Kept.{value_at}
use Rattle.protobuf_parse_index.proofs.Finding.{own_value_there}
use Rattle.protobuf_parse_index.proofs.index.Index.own_value.Goals as goal

pub returns-in-Some : goal.returns-in-Some
returns-in-Some c =
    let fits : FitsSigned w128 c.args.number = search rules in
    ap (option_map (λ (t : Bor EnumValueDescriptorProto). enum_value_view t.now))
    (c.copied.ensures ∙ c.get.ensures.value
    ∙ ap (get int_cmp c.in-Some.numbers.now) (to_z-of_z w128 c.args.number fits))
    ∙ sym (ap (option_and_then (λ (m : Bor (BTreeMap ℤ (Bor EnumValueDescriptorProto))).
    value_at m.now c.args.number)) c.in-Some.is)
    ∙ own_value_there c.self.inside c.args.self.now c.deref.result.now c.at_name.result
    c.args.enumeration.now c.args.number c.self.invariant c.self.view_is c.deref.ensures.value
    c.at_name.ensures

pub returns-in-None : goal.returns-in-None
returns-in-None c =
    sym (ap (option_and_then (λ (m : Bor (BTreeMap ℤ (Bor EnumValueDescriptorProto))).
    value_at m.now c.args.number)) c.in-None.is)
    ∙ own_value_there c.self.inside c.args.self.now c.deref.result.now c.at_name.result
    c.args.enumeration.now c.args.number c.self.invariant c.self.view_is c.deref.ensures.value
    c.at_name.ensures
