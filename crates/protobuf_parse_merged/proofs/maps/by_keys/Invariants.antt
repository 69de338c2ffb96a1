use Rattle.std.proofs.Common.{◌≡◌, [], map}
use Rattle.protobuf_parse_merged.specs.Maps as spec
use Rattle.protobuf_parse_merged.specs.Inside.{value_view}
use Rattle.protobuf_parse_merged.specs.Keyed.{entries_seen}
use Rattle.protobuf_parse_merged.proofs.maps.by_keys.Given as goal

abbrev pub invariant-values : goal.invariant-values
invariant-values l =
    entries_seen l.entries.entries ≡ spec.put_all [] (map value_view l.yielded)

abbrev pub invariant-entries : goal.invariant-entries
invariant-entries l = map value_view l.sorted.items ≡ map value_view l.yielded
