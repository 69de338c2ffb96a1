use Rattle.std.proofs.Common.{◌≡◌, ◌++◌, flat_map, map, take}
use Rattle.protobuf_parse_model.specs.Descriptors.{file_view}
use Rattle.protobuf_parse_index.specs.Views.{standing_extension}
use Rattle.protobuf_parse_changes.specs.Extensions.{extension_changes}
use Rattle.protobuf_parse_changes.specs.Views.{told}
use Rattle.protobuf_parse_changes.proofs.extensions.extensions_changes.Given as goal

abbrev pub invariant-extensions : goal.invariant-extensions
invariant-extensions l = told l.changes ≡ told l.fn.changes
    ++ flat_map (extension_changes (map file_view l.new_index))
    (map standing_extension (take l.extension-index l.extensions))
