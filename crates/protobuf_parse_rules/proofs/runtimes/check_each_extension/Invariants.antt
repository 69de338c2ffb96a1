use Rattle.std.proofs.Common.{◌≡◌, ◌++◌, flat_map, map, take, string_bytes}
use Rattle.protobuf_parse_model.specs.Descriptors.{field_view}
use Rattle.protobuf_parse_rules.specs.KnownFiles.{Surroundings, Tells}
use Rattle.protobuf_parse_rules.specs.Rules.{breaches_told}
use Rattle.protobuf_parse_rules.specs.Runtimes.{lite_extension}
use Rattle.protobuf_parse_rules.proofs.runtimes.check_each_extension.Given as goal

abbrev pub invariant-extensions : goal.invariant-extensions
invariant-extensions l = (s : Surroundings) → Tells l.declared s →
    breaches_told l.told ≡ breaches_told l.fn.told
    ++ flat_map (lite_extension s.named s.all l.body.file.now (string_bytes l.body.scope))
    (map field_view (take l.extension-index l.extensions))
