use Rattle.std.proofs.Common.{map, take, string_bytes}
use Rattle.protobuf_parse_rules.specs.ClaimsKept.{Claims}
use Rattle.protobuf_parse_rules.specs.Findings.{site_of}
use Rattle.protobuf_parse_rules.specs.Repeats.{repeat_claim, repeat_rule}
use Rattle.protobuf_parse_rules.proofs.repeats.check_each.Given as goal

abbrev pub invariant-texts : goal.invariant-texts
invariant-texts l = Claims (repeat_rule l.rule) l.initial.seen l.seen l.fn.told l.told
    (map (repeat_claim (site_of l.at)) (map string_bytes (take l.text-index l.texts)))
