use Rattle.std.proofs.Common.{◌≡◌, map}
use Rattle.protobuf_parse_source_info.specs.Views.{location_view}
use Rattle.protobuf_parse_option_paths.specs.Whole.{nameless}
use Rattle.protobuf_parse_option_paths.proofs.owned.without_names.Given as goal

abbrev pub invariant-locations : goal.invariant-locations
invariant-locations l =
    map location_view l.location.items ≡ map nameless (map location_view l.yielded)
