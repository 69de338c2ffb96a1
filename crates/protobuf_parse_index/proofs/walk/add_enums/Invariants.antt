use Rattle.std.proofs.Common.{◌≡◌, ◌++◌, map, take}
use Rattle.protobuf_parse_model.specs.Descriptors.{enum_view}
use Rattle.protobuf_parse_index.specs.Views.{standing_enum}
use Rattle.protobuf_parse_index.specs.Walk.{enums_within}
use Rattle.protobuf_parse_index.proofs.walk.add_enums.Given as goal

abbrev pub invariant-declared : goal.invariant-declared
invariant-declared l = map standing_enum l.enums.items ≡ map standing_enum l.fn.enums.items
    ++ enums_within l.path l.scope (map enum_view (take l.each-index l.declared))
