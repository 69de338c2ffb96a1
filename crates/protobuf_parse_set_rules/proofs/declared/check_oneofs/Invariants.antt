use Rattle.std.proofs.Common.{◌≡◌, ◌++◌, flat_map, map, take}
use Rattle.protobuf_parse_model.specs.Descriptors.{oneof_view}
use Rattle.protobuf_parse_set_rules.specs.Rules.{oneof_name_breaches}
use Rattle.protobuf_parse_set_rules.specs.Views.{told}
use Rattle.protobuf_parse_set_rules.proofs.declared.check_oneofs.Given as goal

abbrev pub invariant-oneofs : goal.invariant-oneofs
invariant-oneofs l = told l.found ≡ told l.fn.found
    ++ flat_map (oneof_name_breaches l.file l.scope)
    (map oneof_view (take l.oneof-index l.oneofs))
