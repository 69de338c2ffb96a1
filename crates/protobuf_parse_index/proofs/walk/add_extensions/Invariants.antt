use Rattle.std.proofs.Common.{◌≡◌, ◌++◌, map, take}
use Rattle.protobuf_parse_model.specs.Descriptors.{field_view}
use Rattle.protobuf_parse_index.specs.Views.{standing_extension}
use Rattle.protobuf_parse_index.specs.Walk.{extensions_within}
use Rattle.protobuf_parse_index.proofs.walk.add_extensions.Given as goal

abbrev pub invariant-declared : goal.invariant-declared
invariant-declared l = map standing_extension l.extensions.items
    ≡ map standing_extension l.fn.extensions.items
    ++ extensions_within l.path l.scope (map field_view (take l.each-index l.declared))
