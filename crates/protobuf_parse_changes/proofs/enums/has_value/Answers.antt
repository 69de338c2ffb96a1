use Rattle.std.proofs.Common.{◌∙◌, rules, tests}
use Rattle.std.proofs.lemmas.Iterator.{YieldsList-from_slice}
use Rattle.std.proofs.lemmas.Iterator.Search.{any_from_yields_List}
use Rattle.protobuf_parse_model.specs.Descriptors.{enum_value_view}
use Rattle.protobuf_parse_model.specs.declared.descriptor.EnumValueDescriptorProto.{EnumValueDescriptorProto}
use Rattle.protobuf_parse_changes.specs.Enums.{is_same_value}
use Rattle.protobuf_parse_changes.proofs.Lists.{list_any_map}
use Rattle.protobuf_parse_changes.proofs.enums.has_value.Goals as goal

pub returns : goal.returns
returns c =
    let test = is_same_value (enum_value_view c.args.value.now) in
    any_from_yields_List (λ (w : EnumValueDescriptorProto). test (enum_value_view w)) _ _ _
    c.any.ensures.ran
    (YieldsList-from_slice c.args.values.now (cc)) (λ x b q k. search (rules, tests))
    ∙ list_any_map enum_value_view test c.args.values.now
