use Rattle.std.proofs.Common.{◌∙◌, ◌+◌, ap, drop, map, option_map, sym}
use Rattle.std.specs.Option.{option_or}
use Rattle.protobuf_parse_options.specs.ByName.{first}
use Rattle.protobuf_parse_options.specs.Holding.{spot_view}
use Rattle.protobuf_parse_options.specs.HoldingParts.{at_spots}
use Rattle.protobuf_parse_options.specs.Views.{field_seen}
use Rattle.protobuf_parse_options.specs.Spots.{extensions_inside}
use Rattle.protobuf_parse_options.proofs.ByName.{first_more, is_some_mapped}
use Rattle.protobuf_parse_options.proofs.Found.{first_none, first_some}
use Rattle.protobuf_parse_options.proofs.Holding.{opened}
use Rattle.protobuf_parse_options.proofs.spots.found.first_extension.Goals as goal

pub returns-then-is_some : goal.returns-then-is_some
returns-then-is_some c =
    let picked = c.args.picked.now in
    let xs = c.args.spots.now in
    let i = c.spots.spot-index in
    let o = option_map field_seen c.extension_at-extension.result in
    let later = at_spots extensions_inside picked (map spot_view (drop (i + 1) xs)) in
    let step = ap first (opened extensions_inside picked xs i c.spot-item.result c.spots-test.true
    c.spot-item.is) ∙ first_more _ later in
    first_some o (first later) (is_some_mapped field_seen c.extension_at-extension.result
    ∙ sym c.is_some.ensures
    ∙ c.if-is_some.true)
    ∙ ap (λ q. option_or q (first later)) c.extension_at-extension.ensures
    ∙ sym (c.spots.invariant ∙ step)

pub spots-preserved : goal.spots-preserved
spots-preserved c =
    let picked = c.args.picked.now in
    let xs = c.args.spots.now in
    let i = c.spots.spot-index in
    let o = option_map field_seen c.extension_at-extension.result in
    let later = at_spots extensions_inside picked (map spot_view (drop (i + 1) xs)) in
    let step = ap first (opened extensions_inside picked xs i c.spot-item.result c.spots-test.true
    c.spot-item.is) ∙ first_more _ later in
    c.spots.invariant ∙ step
    ∙ ap (λ q. option_or q (first later)) (sym c.extension_at-extension.ensures)
    ∙ first_none o (first later) (is_some_mapped field_seen c.extension_at-extension.result
    ∙ sym c.is_some.ensures
    ∙ c.if-is_some.false)
