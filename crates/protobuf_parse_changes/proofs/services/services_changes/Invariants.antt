use Rattle.std.proofs.Common.{◌≡◌, ◌++◌, flat_map, map, take}
use Rattle.protobuf_parse_model.specs.Descriptors.{file_view}
use Rattle.protobuf_parse_index.specs.Views.{standing_service}
use Rattle.protobuf_parse_changes.specs.Services.{service_changes}
use Rattle.protobuf_parse_changes.specs.Views.{told}
use Rattle.protobuf_parse_changes.proofs.services.services_changes.Given as goal

abbrev pub invariant-services : goal.invariant-services
invariant-services l = told l.changes ≡ told l.fn.changes
    ++ flat_map (service_changes (map file_view l.new_index))
    (map standing_service (take l.service-index l.services))
