-- The keys so far are those of what the bodies so far claim.
use Rattle.std.proofs.Common.{◌≡◌, map, take}
use Rattle.std.specs.List.{flat_map}
use Rattle.protobuf_parse_rules.specs.Keys.{claim_key}
use Rattle.protobuf_parse_rules.specs.Numbers.{claims}
use Rattle.protobuf_parse_rules.specs.BodyViews.{body_view}
use Rattle.protobuf_parse_rules.proofs.number_keys.doubled_claims.Given as goal

abbrev pub invariant-bodies : goal.invariant-bodies
invariant-bodies l = l.keys.items
    ≡ map claim_key (flat_map claims (map body_view (take l.body-index l.bodies)))
