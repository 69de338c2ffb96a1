use Rattle.std.proofs.Common.{◌≡◌, ◌++◌, flat_map, map, take}
use Rattle.protobuf_parse_model.specs.Descriptors.{file_view}
use Rattle.protobuf_parse_index.specs.Views.{standing_enum}
use Rattle.protobuf_parse_changes.specs.Enums.{enum_changes}
use Rattle.protobuf_parse_changes.specs.Views.{told}
use Rattle.protobuf_parse_changes.proofs.enums.enums_changes.Given as goal

abbrev pub invariant-enums : goal.invariant-enums
invariant-enums l = told l.changes ≡ told l.fn.changes
    ++ flat_map (enum_changes (map file_view l.old_index) (map file_view l.new_index))
    (map standing_enum (take l.each-index l.enums))
