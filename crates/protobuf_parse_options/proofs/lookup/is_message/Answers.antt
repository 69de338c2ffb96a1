use Rattle.std.proofs.Common.{◌∙◌, ap, flat_map, is_some, map, sym}
use Rattle.protobuf_parse_options.specs.ByName.{first}
use Rattle.protobuf_parse_wire.specs.Declarations.{messages_declared_in}
use Rattle.protobuf_parse_options.specs.Holding.{files_seen, spot_view}
use Rattle.protobuf_parse_options.specs.HoldingParts.{at_spots, message_seen}
use Rattle.protobuf_parse_model.specs.Descriptors.{parts_seen}
use Rattle.protobuf_parse_options.specs.SpotsInside.{messages_inside}
use Rattle.protobuf_parse_options.proofs.ByName.{any_named, first_mapped, is_some_mapped}
use Rattle.protobuf_parse_options.proofs.lookup.is_message.Goals as goal

pub returns : goal.returns
returns c =
    let reach = c.args.customs.now.reach in
    let name = c.args.name.now in
    let all = ap (λ ps. map parts_seen (at_spots messages_inside reach (map spot_view ps)))
    c.values.ensures ∙ c.args.customs.now.all_messages name in
    c.is_some.ensures
    ∙ sym (is_some_mapped message_seen c.first_message.result)
    ∙ ap is_some c.first_message.ensures
    ∙ sym (first_mapped parts_seen (at_spots messages_inside reach
    (map spot_view c.values.result.now)))
    ∙ ap (λ ps. is_some (first ps)) all
    ∙ sym (any_named name (flat_map messages_declared_in (files_seen reach)))
