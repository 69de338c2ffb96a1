use Rattle.std.proofs.Common.{◌∙◌, ap, flat_map, map, option_map}
use Rattle.protobuf_parse_options.specs.ByName.{first}
use Rattle.protobuf_parse_wire.specs.Declarations.{declared_extensions}
use Rattle.protobuf_parse_options.specs.Holding.{files_seen, spot_view}
use Rattle.protobuf_parse_options.specs.HoldingParts.{at_spots}
use Rattle.protobuf_parse_options.specs.Spots.{extensions_inside}
use Rattle.protobuf_parse_options.proofs.ByName.{first_named, named_twice, with_name}
use Rattle.protobuf_parse_options.proofs.lookup.declared.Goals as goal

pub returns : goal.returns
returns c =
    let sight = c.args.customs.now.sight in
    let name = c.args.name.now in
    named_twice name c.first_extension.result
    ∙ ap (option_map (with_name name)) (c.first_extension.ensures
    ∙ ap (λ ps. first (at_spots extensions_inside sight (map spot_view ps))) c.values.ensures
    ∙ ap first (c.args.customs.now.all_extensions name))
    ∙ first_named name (flat_map declared_extensions (files_seen sight))
