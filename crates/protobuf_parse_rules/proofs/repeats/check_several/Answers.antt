use Rattle.std.proofs.Common.{map, string_bytes}
use Rattle.protobuf_parse_rules.specs.Findings.{site_of}
use Rattle.protobuf_parse_rules.specs.Repeats.{repeat_claim, repeat_rule}
use Rattle.protobuf_parse_rules.specs.Rules.{breaches_told}
use Rattle.protobuf_parse_rules.proofs.Keying.{no_text_told}
use Rattle.protobuf_parse_rules.proofs.repeats.check_several.Goals as goal

pub returns-then-are_apart : goal.returns-then-are_apart
returns-then-are_apart c =
    no_text_told (repeat_rule c.args.rule) (breaches_told c.args.told.now)
    (repeat_claim (site_of c.args.at)) (map string_bytes c.args.texts.now)
    c.in_ok-keys.keys.items c.in_ok-keys.ensures (c.are_apart.ensures c.if-are_apart.true)
