use Rattle.std.proofs.Common.{◌≡◌, map, take}
use Rattle.protobuf_parse_model.specs.Descriptors.{file_view}
use Rattle.protobuf_parse_index.specs.Views.{standing_service}
use Rattle.protobuf_parse_index.specs.Walk.{all_services}
use Rattle.protobuf_parse_index.proofs.services.services_of.Given as goal

abbrev pub invariant-files : goal.invariant-files
invariant-files l = map standing_service l.services.items
    ≡ all_services (map file_view (take l.file-index l.files))
