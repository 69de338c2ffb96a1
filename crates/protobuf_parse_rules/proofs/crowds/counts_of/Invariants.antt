-- Those of the keys so far are counted.
use Rattle.std.proofs.Common.{◌≡◌, length, take}
use Rattle.protobuf_parse_rules.specs.Crowds.{Counts}
use Rattle.protobuf_parse_rules.proofs.crowds.counts_of.Given as goal

abbrev pub invariant-keys : goal.invariant-keys
invariant-keys l = record {
  len : length l.counts.items ≡ l.slots;
  counted : Counts l.spread (take l.key-index l.keys) l.counts.items;
}
