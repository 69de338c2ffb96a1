-- The key so far is that of the bytes so far.
use Rattle.std.proofs.Common.{◌≡◌, take}
use Rattle.std.specs.List.{fold}
use Rattle.protobuf_parse_rules.specs.Keys.{squeezed_mixed}
use Rattle.protobuf_parse_rules.proofs.keys.squeezed_bytes_key.Given as goal

abbrev pub invariant-bytes : goal.invariant-bytes
invariant-bytes l = l.key ≡ fold squeezed_mixed l.front (take l.byte-index l.bytes)
