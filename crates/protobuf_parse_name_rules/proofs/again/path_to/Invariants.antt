use Rattle.std.proofs.Common.{◌≡◌, take}
use Rattle.protobuf_parse_name_rules.proofs.again.path_to.Given as goal

abbrev pub invariant-path : goal.invariant-path
invariant-path l = l.inner.items ≡ take l.number-index l.path
