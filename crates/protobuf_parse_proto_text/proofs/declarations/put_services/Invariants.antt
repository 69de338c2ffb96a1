use Rattle.std.proofs.Common.{◌≡◌, ◌++◌, map, take, flat_map}
use Rattle.std.specs.Prelude.{string_bytes}
use Rattle.protobuf_parse_model.specs.Descriptors.{file_view}
use Rattle.protobuf_parse_model.specs.Descriptors.{service_view}
use Rattle.protobuf_parse_proto_text.specs.ProtoText.{service_text}
use Rattle.protobuf_parse_proto_text.proofs.declarations.put_services.Given as goal

abbrev pub invariant-loop-service : goal.invariant-loop-service
invariant-loop-service l =
    string_bytes l.text ≡ string_bytes l.fn.text
    ++ flat_map (service_text (map file_view l.index))
    (map service_view (take l.service-index l.services))
