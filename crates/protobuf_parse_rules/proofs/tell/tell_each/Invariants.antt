use Rattle.std.proofs.Common.{◌≡◌, ◌++◌, map, take}
use Rattle.std.specs.Prelude.{option_map}
use Rattle.protobuf_parse_rules.specs.Findings.{finding_view, site_of}
use Rattle.protobuf_parse_rules.specs.Rules.{breaches_at, breaches_told}
use Rattle.protobuf_parse_rules.proofs.tell.tell_each.Given as goal

abbrev pub invariant-found : goal.invariant-found
invariant-found l = breaches_told l.told ≡ breaches_told l.fn.told
    ++ breaches_at (site_of l.at) (map (option_map finding_view) (take l.each-index l.found))
