use Rattle.std.proofs.Common.{◌≡◌, ◌++◌, flat_map, map, take}
use Rattle.protobuf_parse_model.specs.Descriptors.{method_view}
use Rattle.protobuf_parse_set_rules.specs.Rules.{method_breaches}
use Rattle.protobuf_parse_set_rules.specs.Held.{sight_view}
use Rattle.protobuf_parse_set_rules.specs.Views.{told}
use Rattle.protobuf_parse_set_rules.proofs.services.check_methods.Given as goal

abbrev pub invariant-methods : goal.invariant-methods
invariant-methods l = told l.found ≡ told l.fn.found
    ++ flat_map (method_breaches (sight_view l.sight) l.file l.scope)
    (map method_view (take l.method-index l.methods))
