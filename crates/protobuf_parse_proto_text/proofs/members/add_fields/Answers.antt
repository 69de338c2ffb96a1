use Rattle.std.proofs.Common.{◌∙◌, ℕ, List, [], ◌∷◌, ◌++◌, Option, ap, ap₂, append-nil, map, sym}
use Rattle.std.proofs.lemmas.List.{map-append}
use Rattle.std.specs.BTreeMap.{get_by_text}
use Rattle.protobuf_parse_model.specs.Descriptors.{field_view, oneof_view}
use Rattle.protobuf_parse_proto_text.specs.Order.{Block, Member, field_member}
use Rattle.protobuf_parse_proto_text.specs.OrderViews.{all_parts, member_view}
use Rattle.protobuf_parse_proto_text.proofs.Growing.{mapped_all, mapped_more}
use Rattle.protobuf_parse_proto_text.proofs.members.add_fields.Goals as goal

pub loop-field-init : goal.loop-field-init
loop-field-init c = sym (append-nil _)

pub loop-field-preserved : goal.loop-field-preserved
loop-field-preserved c =
    let finds = get_by_text c.args.positions.now in
    let nested = all_parts c.args.nested.now in
    let before = map member_view c.loop-field.members.items in
    let field = field_view c.field-item.result in
    let one : Option ℕ → Block → List Member =
    λ made block. before ++ record { field = field; made = made; block = block } ∷ [] in
    mapped_more (field_member finds nested (map oneof_view c.args.oneofs.now)) field_view
    _ _ _ _ _ _
    c.loop-field-test.true c.field-item.is c.loop-field.invariant
    (ap (map member_view) c.in_ok-push.ensures.items
    ∙ map-append member_view c.loop-field.members.items _
    ∙ ap₂ one c.made_by-made.ensures c.oneof_block-block.ensures)

pub returns : goal.returns
returns c =
    let finds = get_by_text c.args.positions.now in
    let nested = all_parts c.args.nested.now in
    mapped_all (field_member finds nested (map oneof_view c.args.oneofs.now)) field_view _ _ _ _
    c.loop-field-test.false c.loop-field.invariant
