use Rattle.std.proofs.Common.{◌≡◌, ◌++◌, map, take, string_bytes}
use Rattle.protobuf_parse_model.specs.Descriptors.{ServiceDescriptor, file_view, service_view}
use Rattle.protobuf_parse_wire.specs.Declarations.{name_within}
use Rattle.protobuf_parse_index.specs.Views.{standing_service}
use Rattle.protobuf_parse_index.specs.Walk.{path_of}
use Rattle.protobuf_parse_index.proofs.services.add_services.Given as goal

abbrev pub invariant-declared : goal.invariant-declared
invariant-declared l = map standing_service l.services.items
    ≡ map standing_service l.fn.services.items
    ++ map (λ (s : ServiceDescriptor).
    record { file = l.path; name = name_within (string_bytes l.scope) s.name; what = s })
    (map service_view (take l.each-index l.each-items))
