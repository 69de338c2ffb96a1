use Rattle.std.proofs.Common.{◌≡◌, ◌++◌, map, take}
use Rattle.protobuf_parse_model.specs.Descriptors.{enum_view}
use Rattle.protobuf_parse_set_rules.specs.Types.{enum_declared}
use Rattle.protobuf_parse_set_rules.specs.Held.{type_view}
use Rattle.protobuf_parse_set_rules.proofs.types.add_enums.Given as goal

abbrev pub invariant-enums : goal.invariant-enums
invariant-enums l = map type_view l.types.items ≡ map type_view l.fn.types.items
    ++ map (enum_declared l.position l.scope) (map enum_view (take l.each-index l.enums))
