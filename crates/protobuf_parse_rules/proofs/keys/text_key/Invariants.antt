-- The key so far becomes that of the whole text by the bytes that are left.
use Rattle.std.proofs.Common.{◌≡◌, length}
use Rattle.std.specs.List.{fold}
use Rattle.protobuf_parse_rules.specs.Keys.{mixed}
use Rattle.protobuf_parse_rules.proofs.keys.text_key.Given as goal

abbrev pub invariant-rest : goal.invariant-rest
invariant-rest l = fold mixed l.key l.rest ≡ fold mixed l.front l.text

abbrev pub decreases-rest : goal.decreases-rest
decreases-rest l = length l.rest
