use Rattle.std.proofs.Common.{List, map, take}
use Rattle.protobuf_parse_rules.specs.KnownTables.{Knows}
use Rattle.protobuf_parse_rules.specs.Bodies.{BodyParts}
use Rattle.protobuf_parse_rules.specs.BodyViews.{body_view}
use Rattle.protobuf_parse_rules.specs.ClaimsKept.{Checks}
use Rattle.protobuf_parse_rules.proofs.walk.violations_in.Given as goal

abbrev pub invariant-bodies : goal.invariant-bodies
invariant-bodies l = (all : List BodyParts) → Knows l.tables all →
    Checks l.wanted.sorted.items all l.initial.numbers l.numbers l.initial.told l.told
    (map body_view (take l.body-index l.bodies))
