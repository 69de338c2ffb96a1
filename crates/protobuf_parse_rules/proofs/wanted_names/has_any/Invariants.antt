use Rattle.std.proofs.Common.{◌≡◌, false, take}
use Rattle.std.specs.List.{list_any}
use Rattle.protobuf_parse_rules.specs.Wanted.{has_key}
use Rattle.protobuf_parse_rules.proofs.wanted_names.has_any.Given as goal

abbrev pub invariant-keys : goal.invariant-keys
invariant-keys l = list_any (has_key l.wanted.sorted.items) (take l.key-index l.keys) ≡ false
