use Rattle.std.proofs.Common.{◌≡◌, drop, map}
use Rattle.protobuf_parse_options.specs.ByName.{first}
use Rattle.protobuf_parse_options.specs.Holding.{spot_view}
use Rattle.protobuf_parse_options.specs.HoldingParts.{at_spots}
use Rattle.protobuf_parse_options.specs.SpotsInside.{messages_inside}
use Rattle.protobuf_parse_options.proofs.spots.found.first_message.Given as goal

abbrev pub invariant-spots : goal.invariant-spots
invariant-spots l =
    first (at_spots messages_inside l.picked (map spot_view l.spots)) ≡ first
    (at_spots messages_inside l.picked (map spot_view (drop l.spot-index l.spots)))
