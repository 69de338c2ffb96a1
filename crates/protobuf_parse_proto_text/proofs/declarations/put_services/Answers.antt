use Rattle.std.proofs.Common.{sym, append-nil, map}
use Rattle.protobuf_parse_model.specs.Descriptors.{file_view}
use Rattle.protobuf_parse_model.specs.Descriptors.{service_view}
use Rattle.protobuf_parse_proto_text.specs.ProtoText.{service_text}
use Rattle.protobuf_parse_proto_text.proofs.Growing.{grown_all, grown_next}
use Rattle.protobuf_parse_proto_text.proofs.declarations.put_services.Goals as goal

pub loop-service-init : goal.loop-service-init
loop-service-init c = sym (append-nil _)

pub loop-service-preserved : goal.loop-service-preserved
loop-service-preserved c =
    grown_next (service_text (map file_view c.args.index.now)) service_view
    _ _ _ _ _ _ c.loop-service-test.true c.service-item.is c.loop-service.invariant
    c.in_ok-put_service.ensures

pub returns : goal.returns
returns c =
    grown_all (service_text (map file_view c.args.index.now)) service_view
    _ _ _ _ c.loop-service-test.false c.loop-service.invariant
