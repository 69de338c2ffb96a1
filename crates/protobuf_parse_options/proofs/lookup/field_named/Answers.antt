use Rattle.std.proofs.Common.{◌∙◌, ap, map}
use Rattle.protobuf_parse_options.specs.Holding.{spot_view}
use Rattle.protobuf_parse_options.specs.HoldingParts.{field_there, found_by}
use Rattle.protobuf_parse_options.proofs.lookup.field_named.Goals as goal

pub returns : goal.returns
returns c =
    let customs = c.args.customs.now in
    let name = c.args.name.now in
    c.field_of.ensures
    ∙ ap (λ ps. found_by (field_there customs.reach name) (map spot_view ps)) c.values.ensures
    ∙ customs.all_fields c.args.message.now name
