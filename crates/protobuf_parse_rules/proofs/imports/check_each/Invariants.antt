use Rattle.std.proofs.Common.{◌≡◌, ◌++◌, ℤ, List, length, map, take, string_bytes}
use Rattle.protobuf_parse_rules.specs.Imports.{import_breaches}
use Rattle.protobuf_parse_rules.specs.KnownUses.{KnowsUses}
use Rattle.protobuf_parse_rules.specs.Marks.{Marks}
use Rattle.protobuf_parse_rules.specs.Bodies.{BodyParts}
use Rattle.protobuf_parse_rules.specs.BodyViews.{body_view}
use Rattle.protobuf_parse_rules.specs.Positions.{by_position}
use Rattle.protobuf_parse_rules.specs.Rules.{breaches_told}
use Rattle.protobuf_parse_rules.specs.Violations.{site_of_body}
use Rattle.protobuf_parse_rules.proofs.imports.check_each.Given as goal

abbrev pub invariant-imports : goal.invariant-imports
invariant-imports l = (all : List BodyParts) (positions : List ℤ) → KnowsUses l.uses all →
    Marks positions (length l.paths) l.publics →
    breaches_told l.told ≡ breaches_told l.fn.told
    ++ by_position (import_breaches all (site_of_body (body_view l.body)) positions) 0
    (map string_bytes (take l.position l.paths))
