use Rattle.std.proofs.Common.{◌∙◌, ◌+◌, ap, drop, map, option_map, sym}
use Rattle.std.specs.Option.{option_or}
use Rattle.protobuf_parse_options.specs.Holding.{spot_view}
use Rattle.protobuf_parse_options.specs.HoldingParts.{field_there, found_by}
use Rattle.protobuf_parse_options.specs.Views.{field_seen}
use Rattle.protobuf_parse_options.proofs.ByName.{is_some_mapped}
use Rattle.protobuf_parse_options.proofs.Found.{first_none, first_some, mapped_rest}
use Rattle.protobuf_parse_options.proofs.spots.found.field_of.Goals as goal

pub returns-then-is_some : goal.returns-then-is_some
returns-then-is_some c =
    let look = field_there c.args.picked.now c.args.name.now in
    let xs = c.args.spots.now in
    let i = c.spots.spot-index in
    let o = option_map field_seen c.field_at-field.result in
    let rest = found_by look (map spot_view (drop (i + 1) xs)) in
    let step = ap (found_by look) (mapped_rest spot_view xs i c.spot-item.result
    c.spots-test.true c.spot-item.is) in
    first_some o rest (is_some_mapped field_seen c.field_at-field.result ∙ sym c.is_some.ensures
    ∙ c.if-is_some.true)
    ∙ ap (λ q. option_or q rest) c.field_at-field.ensures
    ∙ sym (c.spots.invariant ∙ step)

pub spots-preserved : goal.spots-preserved
spots-preserved c =
    let look = field_there c.args.picked.now c.args.name.now in
    let xs = c.args.spots.now in
    let i = c.spots.spot-index in
    let o = option_map field_seen c.field_at-field.result in
    let rest = found_by look (map spot_view (drop (i + 1) xs)) in
    let step = ap (found_by look) (mapped_rest spot_view xs i c.spot-item.result
    c.spots-test.true c.spot-item.is) in
    c.spots.invariant ∙ step ∙ ap (λ q. option_or q rest) (sym c.field_at-field.ensures)
    ∙ first_none o rest (is_some_mapped field_seen c.field_at-field.result ∙ sym c.is_some.ensures
    ∙ c.if-is_some.false)
