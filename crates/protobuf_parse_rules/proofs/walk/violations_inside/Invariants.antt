use Rattle.std.proofs.Common.{◌≡◌, List, map, take}
use Rattle.std.specs.List.{flat_map}
use Rattle.protobuf_parse_rules.specs.KnownTables.{Knows}
use Rattle.protobuf_parse_rules.specs.Bodies.{BodyParts}
use Rattle.protobuf_parse_rules.specs.BodyViews.{body_view}
use Rattle.protobuf_parse_rules.specs.Rules.{breaches_told}
use Rattle.protobuf_parse_rules.specs.Violations.{breaches_inside}
use Rattle.protobuf_parse_rules.proofs.walk.violations_inside.Given as goal

abbrev pub invariant-bodies : goal.invariant-bodies
invariant-bodies l = (all : List BodyParts) → Knows l.tables all →
    breaches_told l.told
    ≡ flat_map (breaches_inside all) (map body_view (take l.body-index l.bodies))
