use Rattle.std.proofs.Common.{◌≡◌, map, take}
use Rattle.protobuf_parse_model.specs.Descriptors.{file_view}
use Rattle.protobuf_parse_set_rules.specs.Positions.{by_position}
use Rattle.protobuf_parse_set_rules.specs.Types.{file_types}
use Rattle.protobuf_parse_set_rules.specs.Held.{type_view}
use Rattle.protobuf_parse_set_rules.proofs.types.types_of.Given as goal

abbrev pub invariant-files : goal.invariant-files
invariant-files l = map type_view l.types.items
    ≡ by_position file_types 0 (map file_view (take l.position l.files))
