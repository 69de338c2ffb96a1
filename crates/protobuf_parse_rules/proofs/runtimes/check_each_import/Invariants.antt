use Rattle.std.proofs.Common.{◌≡◌, ◌++◌, flat_map, map, take, string_bytes}
use Rattle.protobuf_parse_rules.specs.Findings.{site_of}
use Rattle.protobuf_parse_rules.specs.KnownFiles.{Surroundings, Tells}
use Rattle.protobuf_parse_rules.specs.Rules.{breaches_told}
use Rattle.protobuf_parse_rules.specs.Runtimes.{lite_import}
use Rattle.protobuf_parse_rules.proofs.runtimes.check_each_import.Given as goal

abbrev pub invariant-imports : goal.invariant-imports
invariant-imports l = (s : Surroundings) → Tells l.declared s →
    breaches_told l.told ≡ breaches_told l.fn.told
    ++ flat_map (lite_import s.all (site_of l.at)) (map string_bytes (take l.path-index l.imports))
