use Rattle.std.proofs.Common.{refl}
use Rattle.protobuf_parse_model.specs.Descriptors.{enum_value_view}
use Rattle.protobuf_parse_locations.specs.Declarations.{value_at}
use Rattle.protobuf_parse_locations.specs.declared.declaration.DeclarationKind.TheVariants as kind
use Rattle.protobuf_parse_locations.proofs.Going.{adds_named, item_added, items_added}
use Rattle.protobuf_parse_locations.proofs.walk.add_values.Goals as goal

pub values-init : goal.values-init
values-init c = record { same = refl }

pub values-preserved : goal.values-preserved
values-preserved c =
    item_added enum_value_view (value_at c.args.scope.now) c.args.path.now 2 c.args.all.now.items
    c.values.all.items
    c.add.new.all.items c.values.index c.next-index.result c.values.value-index c.args.values.now
    c.value-item.result _ c.values-test.true c.value-item.is c.values.invariant
    (adds_named _ _ kind.Value c.args.scope.now _ _ _ _ c.in_ok-add.ensures c.deref.ensures
    c.in_ok-here.ensures)
    c.next-index.ensures

pub returns : goal.returns
returns c =
    items_added enum_value_view (value_at c.args.scope.now) c.args.path.now 2 c.args.all.now.items
    c.values.all.items c.values.index
    c.values.value-index c.args.values.now _ c.values-test.false c.values.invariant
