use Rattle.std.proofs.Common.{ap, refl}
use Rattle.protobuf_parse_model.specs.Descriptors.{enum_view}
use Rattle.protobuf_parse_source_info.specs.Walks.{Path}
use Rattle.protobuf_parse_locations.specs.Declarations.{enum_at}
use Rattle.protobuf_parse_locations.proofs.Going.{adds_alike, item_added, items_added}
use Rattle.protobuf_parse_locations.proofs.walk.add_enums.Goals as goal

pub enums-init : goal.enums-init
enums-init c = record { same = refl }

pub enums-preserved : goal.enums-preserved
enums-preserved c =
    item_added enum_view (enum_at c.args.scope.now) c.args.path.now c.args.list c.args.all.now.items
    c.enums.all.items
    c.add_enum.new.all.items c.enums.index c.next-index.result c.enums.each-index c.args.enums.now
    c.each-item.result _ c.enums-test.true c.each-item.is c.enums.invariant
    (adds_alike _ _ _ _ c.in_ok-add_enum.ensures
    (ap (λ (p : Path). enum_at c.args.scope.now p (enum_view c.each-item.result))
    c.in_ok-here.ensures))
    c.next-index.ensures

pub returns : goal.returns
returns c =
    items_added enum_view (enum_at c.args.scope.now) c.args.path.now c.args.list
    c.args.all.now.items c.enums.all.items c.enums.index
    c.enums.each-index c.args.enums.now _ c.enums-test.false c.enums.invariant
