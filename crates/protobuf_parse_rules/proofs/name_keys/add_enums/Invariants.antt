-- The keys so far are those of the names so far.
use Rattle.std.proofs.Common.{◌≡◌, ◌++◌, flat_map, map, take}
use Rattle.protobuf_parse_model.specs.Descriptors.{enum_view}
use Rattle.protobuf_parse_rules.specs.Keys.{enum_keys}
use Rattle.protobuf_parse_rules.proofs.name_keys.add_enums.Given as goal

abbrev pub invariant-enums : goal.invariant-enums
invariant-enums l = l.keys.items
    ≡ l.fn.keys.items ++ flat_map (enum_keys l.inside) (map enum_view (take l.each-index l.enums))
