use Rattle.std.proofs.Common.{◌≡◌, map}
use Rattle.protobuf_parse_source_info.specs.Info.{location}
use Rattle.protobuf_parse_source_info.specs.InnerViews.{found_view}
use Rattle.protobuf_parse_source_info.specs.Views.{location_view}
use Rattle.protobuf_parse_source_info.proofs.locate.located.Given as goal

abbrev pub invariant-found : goal.invariant-found
invariant-found l =
    map location_view l.locations.items ≡ map (location l.text) (map found_view l.yielded)
