use Rattle.std.proofs.Common.{◌≡◌, List, map, take}
use Rattle.std.specs.List.{list_any}
use Rattle.protobuf_parse_rules.specs.Imports.{body_names}
use Rattle.protobuf_parse_rules.specs.Known.{KnowsTypes}
use Rattle.protobuf_parse_rules.specs.KnownUses.{Link, has_link}
use Rattle.protobuf_parse_rules.specs.Bodies.{BodyParts}
use Rattle.protobuf_parse_rules.specs.BodyViews.{body_view}
use Rattle.protobuf_parse_rules.proofs.links.links_of.Given as goal

abbrev pub invariant-bodies : goal.invariant-bodies
invariant-bodies l = (all : List BodyParts) → KnowsTypes l.types all → (k : Link)
    → has_link l.links k
    ≡ list_any (body_names all k.0.now k.1.now) (map body_view (take l.body-index l.bodies))
