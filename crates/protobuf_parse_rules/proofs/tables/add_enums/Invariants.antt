use Rattle.std.proofs.Common.{◌≡◌, ◌++◌, map, take}
use Rattle.protobuf_parse_model.specs.Descriptors.{enum_view}
use Rattle.protobuf_parse_rules.specs.Known.{owned_enum}
use Rattle.protobuf_parse_rules.specs.Lookups.{enum_of}
use Rattle.protobuf_parse_rules.proofs.tables.add_enums.Given as goal

abbrev pub invariant-declared : goal.invariant-declared
invariant-declared l = map owned_enum l.enums.items ≡ map owned_enum l.fn.enums.items
    ++ map (enum_of l.file l.scope l.proto3) (map enum_view (take l.each-index l.declared))
