use Rattle.std.proofs.Common.{◌∙◌, rules, tests}
use Rattle.std.proofs.lemmas.Iterator.{YieldsList-from_slice}
use Rattle.std.proofs.lemmas.Iterator.Search.{any_from_yields_List}
use Rattle.protobuf_parse_model.specs.Descriptors.{reserved_range_view}
use Rattle.protobuf_parse_model.specs.declared.descriptor.ReservedRange.{ReservedRange}
use Rattle.protobuf_parse_changes.specs.Reserved.{in_range}
use Rattle.protobuf_parse_changes.proofs.Lists.{list_any_map}
use Rattle.protobuf_parse_changes.proofs.reserved.in_ranges.Goals as goal

pub returns : goal.returns
returns c =
    let test = in_range c.args.number in
    any_from_yields_List (λ (r : ReservedRange). test (reserved_range_view r)) _ _ _ c.any.ensures.ran
    (YieldsList-from_slice c.args.ranges.now (cc)) (λ x b q k. search (rules, tests))
    ∙ list_any_map reserved_range_view test c.args.ranges.now
