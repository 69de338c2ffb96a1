use Rattle.std.proofs.Common.{◌≡◌, ◌∙◌, map, refl, sym}
use Rattle.protobuf_parse_model.specs.Descriptors.{field_view}
use Rattle.protobuf_parse_locations.specs.Declarations.{is_synthetic}
use Rattle.protobuf_parse_locations.specs.declared.declaration.DeclarationKind.TheVariants as kind
use Rattle.protobuf_parse_locations.proofs.Going.{adds_named}
use Rattle.protobuf_parse_locations.proofs.WrittenOneofs.{oneof_added, oneof_left, oneofs_added}
use Rattle.protobuf_parse_locations.proofs.walk.add_oneofs.Goals.{else-not-index}
use Rattle.protobuf_parse_locations.proofs.walk.add_oneofs.Goals.{
  then-not-index+in_ok-here+in_ok-add,
}
use Rattle.protobuf_parse_locations.proofs.walk.add_oneofs.Goals as goal

pub oneofs-init : goal.oneofs-init
oneofs-init c = record { same = refl }

pub oneofs-preserved : goal.oneofs-preserved
oneofs-preserved c =
    let fs = map field_view c.args.fields.now in
    let os = c.args.oneofs.now in
    let k = c.oneofs.at in
    let o = c.index-oneofs-at.result in
    let first = c.args.all.now.items in
    let mark : c.index.result.now ≡ is_synthetic fs k =
    c.index.ensures ∙ c.in_ok-synthetic.ensures.each k c.index.result.now c.oneofs-test.true in
    elim c.if-not-index.branch [
      | then-not-index+in_ok-here+in_ok-add w ↦ rw (w.all-is, w.index-is)
          (oneof_added fs c.args.scope.now c.args.path.now first c.oneofs.all.items
          w.add.new.all.items c.oneofs.index w.next-index.result k os o _ c.oneofs-test.true
          c.index-oneofs-at.is c.oneofs.invariant (sym mark ∙ w.if-not-index.true)
          (adds_named _ _ kind.Oneof c.args.scope.now _ _ _ _ w.in_ok-add.ensures w.deref.ensures
          w.in_ok-here.ensures)
          w.next-index.ensures)
      | else-not-index w ↦ rw (w.all-is, w.index-is)
          (oneof_left fs c.args.scope.now c.args.path.now first c.oneofs.all.items c.oneofs.index k
          os o _ c.oneofs-test.true c.index-oneofs-at.is c.oneofs.invariant
          (sym mark ∙ w.if-not-index.false))
    ]

pub returns : goal.returns
returns c =
    oneofs_added (map field_view c.args.fields.now) c.args.scope.now c.args.path.now
    c.args.all.now.items c.oneofs.all.items c.oneofs.index c.oneofs.at c.args.oneofs.now _
    c.oneofs-test.false c.oneofs.invariant
