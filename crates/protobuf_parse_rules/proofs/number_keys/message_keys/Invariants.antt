-- The keys so far are those of the bodies so far.
use Rattle.std.proofs.Common.{◌≡◌, flat_map, map, take}
use Rattle.protobuf_parse_rules.specs.Ascending.{message_scopes}
use Rattle.protobuf_parse_rules.specs.Keys.{text_key}
use Rattle.protobuf_parse_rules.specs.BodyViews.{body_view}
use Rattle.protobuf_parse_rules.proofs.number_keys.message_keys.Given as goal

abbrev pub invariant-bodies : goal.invariant-bodies
invariant-bodies l = l.keys.items
    ≡ map text_key (flat_map message_scopes (map body_view (take l.body-index l.bodies)))
