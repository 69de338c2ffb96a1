-- The key so far is that of the bytes so far.
use Rattle.std.proofs.Common.{◌≡◌, take}
use Rattle.std.specs.List.{fold}
use Rattle.protobuf_parse_rules.specs.Keys.{mixed}
use Rattle.protobuf_parse_rules.proofs.keys.bytes_key.Given as goal

abbrev pub invariant-bytes : goal.invariant-bytes
invariant-bytes l = l.key ≡ fold mixed l.front (take l.byte-index l.bytes)
