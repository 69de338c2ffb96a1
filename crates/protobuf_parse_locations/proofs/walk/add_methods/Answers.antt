use Rattle.std.proofs.Common.{refl}
use Rattle.protobuf_parse_model.specs.Descriptors.{method_view}
use Rattle.protobuf_parse_locations.specs.Declarations.{method_at}
use Rattle.protobuf_parse_locations.specs.declared.declaration.DeclarationKind.TheVariants as kind
use Rattle.protobuf_parse_locations.proofs.Going.{adds_named, item_added, items_added}
use Rattle.protobuf_parse_locations.proofs.walk.add_methods.Goals as goal

pub methods-init : goal.methods-init
methods-init c = record { same = refl }

pub methods-preserved : goal.methods-preserved
methods-preserved c =
    item_added method_view (method_at c.args.scope.now) c.args.path.now 2 c.args.all.now.items
    c.methods.all.items
    c.add.new.all.items c.methods.index c.next-index.result c.methods.method-index
    c.args.methods.now
    c.method-item.result _ c.methods-test.true c.method-item.is c.methods.invariant
    (adds_named _ _ kind.Method c.args.scope.now _ _ _ _ c.in_ok-add.ensures c.deref.ensures
    c.in_ok-here.ensures)
    c.next-index.ensures

pub returns : goal.returns
returns c =
    items_added method_view (method_at c.args.scope.now) c.args.path.now 2 c.args.all.now.items
    c.methods.all.items c.methods.index
    c.methods.method-index c.args.methods.now _ c.methods-test.false c.methods.invariant
