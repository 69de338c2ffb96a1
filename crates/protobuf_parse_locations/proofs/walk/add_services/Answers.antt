use Rattle.std.proofs.Common.{ap, refl, []}
use Rattle.protobuf_parse_model.specs.Descriptors.{service_view}
use Rattle.protobuf_parse_source_info.specs.Walks.{Path}
use Rattle.protobuf_parse_locations.specs.Declarations.{service_at}
use Rattle.protobuf_parse_locations.proofs.Going.{adds_alike, item_added, items_added}
use Rattle.protobuf_parse_locations.proofs.walk.add_services.Goals as goal

pub services-init : goal.services-init
services-init c = record { same = refl }

pub services-preserved : goal.services-preserved
services-preserved c =
    item_added service_view (service_at c.args.scope.now) [] 6 c.args.all.now.items
    c.services.all.items
    c.add_service.new.all.items c.services.index c.next-index.result c.services.service-index
    c.args.services.now
    c.service-item.result _ c.services-test.true c.service-item.is c.services.invariant
    (adds_alike _ _ _ _ c.in_ok-add_service.ensures
    (ap (λ (p : Path). service_at c.args.scope.now p (service_view c.service-item.result))
    c.in_ok-here.ensures))
    c.next-index.ensures

pub returns : goal.returns
returns c =
    items_added service_view (service_at c.args.scope.now) [] 6 c.args.all.now.items
    c.services.all.items c.services.index
    c.services.service-index c.args.services.now _ c.services-test.false c.services.invariant
