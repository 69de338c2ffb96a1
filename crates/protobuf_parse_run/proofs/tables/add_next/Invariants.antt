use Rattle.std.proofs.Common.{◌-◌, length, map}
use Rattle.protobuf_parse_run.specs.Loading.{IndexBegins, descriptor_in}
use Rattle.protobuf_parse_run.proofs.tables.add_next.Given as goal

abbrev pub invariant-files : goal.invariant-files
invariant-files l = IndexBegins l.spots (map descriptor_in l.loaded.entries)

abbrev pub decreases-files : goal.decreases-files
decreases-files l = length l.loaded.entries - l.spots.files
