use Rattle.std.proofs.Common.{◌≡◌, map, take}
use Rattle.protobuf_parse_model.specs.Descriptors.{file_view}
use Rattle.protobuf_parse_set_rules.specs.Sights.{path_of}
use Rattle.protobuf_parse_set_rules.specs.Held.{texts_of}
use Rattle.protobuf_parse_set_rules.proofs.imports.paths_of.Given as goal

abbrev pub invariant-files : goal.invariant-files
invariant-files l =
    texts_of l.paths.items ≡ map path_of (map file_view (take l.file-index l.files))
