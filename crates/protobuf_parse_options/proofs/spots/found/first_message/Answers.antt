use Rattle.std.proofs.Common.{◌∙◌, ◌+◌, ap, drop, map, option_map, sym}
use Rattle.std.specs.Option.{option_or}
use Rattle.protobuf_parse_options.specs.ByName.{first}
use Rattle.protobuf_parse_options.specs.Holding.{spot_view}
use Rattle.protobuf_parse_options.specs.HoldingParts.{at_spots}
use Rattle.protobuf_parse_options.specs.HoldingParts.{message_seen}
use Rattle.protobuf_parse_options.specs.SpotsInside.{messages_inside}
use Rattle.protobuf_parse_options.proofs.ByName.{first_more, is_some_mapped}
use Rattle.protobuf_parse_options.proofs.Found.{first_none, first_some}
use Rattle.protobuf_parse_options.proofs.Holding.{opened}
use Rattle.protobuf_parse_options.proofs.spots.found.first_message.Goals as goal

pub returns-then-is_some : goal.returns-then-is_some
returns-then-is_some c =
    let picked = c.args.picked.now in
    let xs = c.args.spots.now in
    let i = c.spots.spot-index in
    let o = option_map message_seen c.message_at-message.result in
    let later = at_spots messages_inside picked (map spot_view (drop (i + 1) xs)) in
    let step = ap first (opened messages_inside picked xs i c.spot-item.result c.spots-test.true
    c.spot-item.is) ∙ first_more _ later in
    first_some o (first later) (is_some_mapped message_seen c.message_at-message.result
    ∙ sym c.is_some.ensures
    ∙ c.if-is_some.true)
    ∙ ap (λ q. option_or q (first later)) c.message_at-message.ensures
    ∙ sym (c.spots.invariant ∙ step)

pub spots-preserved : goal.spots-preserved
spots-preserved c =
    let picked = c.args.picked.now in
    let xs = c.args.spots.now in
    let i = c.spots.spot-index in
    let o = option_map message_seen c.message_at-message.result in
    let later = at_spots messages_inside picked (map spot_view (drop (i + 1) xs)) in
    let step = ap first (opened messages_inside picked xs i c.spot-item.result c.spots-test.true
    c.spot-item.is) ∙ first_more _ later in
    c.spots.invariant ∙ step
    ∙ ap (λ q. option_or q (first later)) (sym c.message_at-message.ensures)
    ∙ first_none o (first later) (is_some_mapped message_seen c.message_at-message.result
    ∙ sym c.is_some.ensures
    ∙ c.if-is_some.false)
