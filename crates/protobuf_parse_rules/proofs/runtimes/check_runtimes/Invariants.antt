use Rattle.std.proofs.Common.{◌≡◌, ◌++◌, flat_map, map, take}
use Rattle.protobuf_parse_rules.specs.KnownFiles.{Surroundings, Tells}
use Rattle.protobuf_parse_rules.specs.BodyViews.{body_view}
use Rattle.protobuf_parse_rules.specs.Rules.{breaches_told}
use Rattle.protobuf_parse_rules.specs.Runtimes.{runtimes_among}
use Rattle.protobuf_parse_rules.proofs.runtimes.check_runtimes.Given as goal

abbrev pub invariant-bodies : goal.invariant-bodies
invariant-bodies l = (s : Surroundings) → Tells l.declared s →
    breaches_told l.told ≡ breaches_told l.fn.told
    ++ flat_map (runtimes_among s.named s.all) (map body_view (take l.body-index l.bodies))
