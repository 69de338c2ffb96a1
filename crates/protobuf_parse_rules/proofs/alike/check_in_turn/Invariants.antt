use Rattle.std.proofs.Common.{map, take, string_bytes}
use Rattle.protobuf_parse_rules.specs.Alike.{spelled_claim}
use Rattle.protobuf_parse_rules.specs.ClaimsKept.{Claims}
use Rattle.protobuf_parse_rules.specs.Held.{rules_of}
use Rattle.protobuf_parse_rules.specs.KnownNames.{spelled_view}
use Rattle.protobuf_parse_rules.proofs.alike.check_in_turn.Given as goal

abbrev pub invariant-names : goal.invariant-names
invariant-names l = Claims (rules_of l.held) l.initial.holders l.holders l.fn.told l.told
    (map (spelled_claim l.body.file.now (string_bytes l.body.scope))
    (map spelled_view (take l.spelled-index l.names)))
