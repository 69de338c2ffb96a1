use Rattle.std.proofs.Common.{◌≡◌, map, take}
use Rattle.protobuf_parse_source_info.specs.Views.{location_view}
use Rattle.protobuf_parse_option_paths.specs.Bytes.{info_bytes}
use Rattle.protobuf_parse_option_paths.proofs.bytes.source_info_bytes.Given as goal

abbrev pub invariant-locations : goal.invariant-locations
invariant-locations l =
    l.out.items ≡ info_bytes (map location_view (take l.location-index l.info.location.items))
