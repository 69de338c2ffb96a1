use Rattle.std.proofs.Common.{map, take}
use Rattle.protobuf_parse_rules.specs.ClaimsKept.{Claims}
use Rattle.protobuf_parse_rules.specs.KnownNames.{named_view}
use Rattle.protobuf_parse_rules.specs.Names.{name_claim, name_rule}
use Rattle.protobuf_parse_rules.proofs.names.check_names.Given as goal

abbrev pub invariant-names : goal.invariant-names
invariant-names l = Claims name_rule l.initial.holders l.holders l.fn.told l.told
    (map name_claim (map named_view (take l.named-index l.names)))
