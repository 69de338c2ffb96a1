-- Those of the keys so far.
use Rattle.std.proofs.Common.{◌≡◌, take}
use Rattle.std.specs.List.{filter}
use Rattle.protobuf_parse_rules.specs.Crowds.{is_crowded}
use Rattle.protobuf_parse_rules.proofs.crowds.crowded_keys.Given as goal

abbrev pub invariant-keys : goal.invariant-keys
invariant-keys l =
    l.crowded.items ≡ filter (is_crowded l.spread l.counts) (take l.key-index l.keys)
