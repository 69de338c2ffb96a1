use Rattle.std.proofs.Common.{◌≡◌, take}
use Rattle.protobuf_parse_name_rules.proofs.files.scope_within.Given as goal

abbrev pub invariant-names : goal.invariant-names
invariant-names l = l.scope.items ≡ take l.outer-index l.at.scope.now
