use Rattle.std.proofs.Common.{refl}
use Rattle.protobuf_parse_model.specs.Descriptors.{field_view}
use Rattle.protobuf_parse_locations.specs.Declarations.{field_at}
use Rattle.protobuf_parse_locations.proofs.Going.{adds_named, item_added, items_added}
use Rattle.protobuf_parse_locations.proofs.walk.add_fields.Goals as goal

pub fields-init : goal.fields-init
fields-init c = record { same = refl }

pub fields-preserved : goal.fields-preserved
fields-preserved c =
    item_added field_view (field_at c.args.kind c.args.scope.now) c.args.path.now c.args.list
    c.args.all.now.items c.fields.all.items
    c.add.new.all.items c.fields.index c.next-index.result c.fields.field-index c.args.fields.now
    c.field-item.result _ c.fields-test.true c.field-item.is c.fields.invariant
    (adds_named _ _ c.args.kind c.args.scope.now _ _ _ _ c.in_ok-add.ensures c.deref.ensures
    c.in_ok-here.ensures)
    c.next-index.ensures

pub returns : goal.returns
returns c =
    items_added field_view (field_at c.args.kind c.args.scope.now) c.args.path.now c.args.list
    c.args.all.now.items c.fields.all.items c.fields.index
    c.fields.field-index c.args.fields.now _ c.fields-test.false c.fields.invariant
