-- The key so far becomes that of the whole name by the bytes that are left.
use Rattle.std.proofs.Common.{◌≡◌, length}
use Rattle.std.specs.List.{fold}
use Rattle.protobuf_parse_rules.specs.Keys.{squeezed_mixed}
use Rattle.protobuf_parse_rules.proofs.keys.squeezed_key.Given as goal

abbrev pub invariant-rest : goal.invariant-rest
invariant-rest l = fold squeezed_mixed l.key l.rest ≡ fold squeezed_mixed l.front l.name

abbrev pub decreases-rest : goal.decreases-rest
decreases-rest l = length l.rest
