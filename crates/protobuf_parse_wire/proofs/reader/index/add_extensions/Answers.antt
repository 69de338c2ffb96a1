use Rattle.std.proofs.Common.{[], sym, subst, List, arith, ◌≤◌, length}
use Rattle.protobuf_parse_model.specs.Descriptors.{FieldDescriptor, field_view}
use Rattle.protobuf_parse_wire.specs.Indexed.{IndexAdds}
use Rattle.protobuf_parse_wire.proofs.Adding.{adds_none, adds_more, mapped_one_more, mapped_all}
use Rattle.protobuf_parse_wire.proofs.reader.index.add_extensions.Goals as goal

pub extensions-init : goal.extensions-init
extensions-init c = adds_none c.args.index.now

pub extensions-preserved : goal.extensions-preserved
extensions-preserved c =
    subst (λ (es : List FieldDescriptor). IndexAdds c.args.index.now c.add_extension.new.index []
    es)
    (sym (mapped_one_more field_view c.args.extensions.now c.extensions.extension-index
    c.extension-item.result c.extensions-test.true c.extension-item.is))
    (adds_more c.args.index.now c.extensions.index c.add_extension.new.index []
    [] _ _ c.extensions.invariant c.in_ok-add_extension.ensures)

pub returns : goal.returns
returns c =
    let past : length c.args.extensions.now ≤ c.extensions.extension-index = omega arith in
    subst (λ (es : List FieldDescriptor). IndexAdds c.args.index.now c.extensions.index [] es)
    (mapped_all field_view c.args.extensions.now c.extensions.extension-index past)
    c.extensions.invariant
