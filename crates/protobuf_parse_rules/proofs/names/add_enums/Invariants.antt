use Rattle.std.proofs.Common.{◌≡◌, ◌++◌, flat_map, map, take}
use Rattle.protobuf_parse_model.specs.Descriptors.{enum_view}
use Rattle.protobuf_parse_rules.specs.KnownNames.{named_view}
use Rattle.protobuf_parse_rules.specs.Names.{enum_named}
use Rattle.protobuf_parse_rules.proofs.names.add_enums.Given as goal

abbrev pub invariant-enums : goal.invariant-enums
invariant-enums l = map named_view l.names.items ≡ map named_view l.fn.names.items
    ++ flat_map (enum_named l.file l.scope) (map enum_view (take l.each-index l.enums))
