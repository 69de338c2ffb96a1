use Rattle.std.proofs.Common.{◌≡◌, drop, map}
use Rattle.protobuf_parse_options.specs.Holding.{spot_view}
use Rattle.protobuf_parse_options.specs.HoldingParts.{field_there, found_by}
use Rattle.protobuf_parse_options.proofs.spots.found.field_of.Given as goal

abbrev pub invariant-spots : goal.invariant-spots
invariant-spots l =
    found_by (field_there l.picked l.name) (map spot_view l.spots)
    ≡ found_by (field_there l.picked l.name) (map spot_view (drop l.spot-index l.spots))
