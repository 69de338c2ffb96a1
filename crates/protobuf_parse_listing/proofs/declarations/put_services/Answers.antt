use Rattle.std.proofs.Common.{sym, append-nil}
use Rattle.protobuf_parse_model.specs.Descriptors.{service_view}
use Rattle.protobuf_parse_listing.specs.Listing.{service_lines}
use Rattle.protobuf_parse_listing.proofs.Appending.{appended_all, appended_next}
use Rattle.protobuf_parse_listing.proofs.declarations.put_services.Goals as goal

pub loop-service-init : goal.loop-service-init
loop-service-init c = sym (append-nil _)

pub loop-service-preserved : goal.loop-service-preserved
loop-service-preserved c =
    appended_next (service_lines c.args.level) service_view _ _ _ _ _ _ c.loop-service-test.true
    c.service-item.is c.loop-service.invariant c.in_ok-put_service.ensures

pub returns : goal.returns
returns c =
    appended_all (service_lines c.args.level) service_view _ _ _ _ c.loop-service-test.false
    c.loop-service.invariant
