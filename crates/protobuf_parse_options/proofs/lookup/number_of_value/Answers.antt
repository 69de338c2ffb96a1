use Rattle.std.proofs.Common.{◌∙◌, ap, map}
use Rattle.protobuf_parse_options.specs.Holding.{spot_view}
use Rattle.protobuf_parse_options.specs.HoldingParts.{found_by, number_there}
use Rattle.protobuf_parse_options.proofs.lookup.number_of_value.Goals as goal

pub returns : goal.returns
returns c =
    let customs = c.args.customs.now in
    let name = c.args.name.now in
    c.number_of.ensures
    ∙ ap (λ ps. found_by (number_there customs.reach name) (map spot_view ps))
    c.values-enums.ensures
    ∙ customs.all_values c.args.enum_name.now name
