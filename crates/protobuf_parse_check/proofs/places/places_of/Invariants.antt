-- The places of the faults so far are kept.
use Rattle.std.proofs.Common.{map, take}
use Rattle.protobuf_parse_model.specs.Faults.{fault_view}
use Rattle.protobuf_parse_check.specs.Places.{HavePlaces}
use Rattle.protobuf_parse_check.proofs.places.places_of.Given as goal

abbrev pub invariant-faults : goal.invariant-faults
invariant-faults l = HavePlaces (map fault_view (take l.fault-index l.faults)) l.places
