use Rattle.std.proofs.Common.{◌≡◌, ◌++◌, flat_map, map, take}
use Rattle.protobuf_parse_model.specs.Descriptors.{file_view}
use Rattle.protobuf_parse_changes.specs.Files.{file_changes}
use Rattle.protobuf_parse_changes.specs.Views.{told}
use Rattle.protobuf_parse_changes.proofs.files.files_changes.Given as goal

abbrev pub invariant-files : goal.invariant-files
invariant-files l = told l.changes ≡ told l.fn.changes
    ++ flat_map (file_changes (map file_view l.new_index)) (map file_view (take l.file-index l.files))
