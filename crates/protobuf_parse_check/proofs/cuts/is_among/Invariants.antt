use Rattle.std.proofs.Common.{◌≡◌, drop}
use Rattle.std.specs.List.{list_any}
use Rattle.protobuf_parse_check.specs.Trimmed.{same_place}
use Rattle.protobuf_parse_check.proofs.cuts.is_among.Given as goal

abbrev pub invariant-loop-other : goal.invariant-loop-other
invariant-loop-other l = list_any (same_place l.place) (drop l.other-index l.places)
    ≡ list_any (same_place l.place) l.places
