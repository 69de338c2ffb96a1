use Rattle.std.proofs.Common.{◌∙◌, Some, None, ap, cond, sym}
use Rattle.std.specs.Prelude.{bytes_eq}
use Rattle.std.specs.BTreeMap.{get_by_text}
use Rattle.std.specs.Option.{option_or}
use Rattle.protobuf_parse_model.specs.Descriptors.{MessageParts, Text}
use Rattle.protobuf_parse_model.specs.MessageParts.{message_parts}
use Rattle.protobuf_parse_model.specs.declared.descriptor.DescriptorProto.{DescriptorProto}
use Rattle.protobuf_parse_wire.specs.Declarations.{name_within}
use Rattle.protobuf_parse_index.proofs.Positions.{first_at-more}
use Rattle.protobuf_parse_proto_text.proofs.Found.{first_of_all}
use Rattle.protobuf_parse_proto_text.proofs.members.positions_of.Goals as goal

pub nested-preserved : goal.nested-preserved
nested-preserved c = λ q.
    let item = c.index-nested-at.result in
    let name = name_within c.args.scope.now (message_parts item).name in
    c.in_ok-put_position.ensures q
    ∙ ap (λ (t : Text). option_or (get_by_text c.nested.positions q)
    (cond (bytes_eq q t) (Some c.nested.at) None))
    (c.in_ok-name.ensures ∙ ap (name_within c.args.scope.now) c.deref.ensures)
    ∙ ap (λ o. option_or o (cond (bytes_eq q name) (Some c.nested.at) None))
    (c.nested.invariant q)
    ∙ sym (first_at-more (λ (m : DescriptorProto).
    bytes_eq q (name_within c.args.scope.now (message_parts m).name))
    c.args.nested.now c.nested.at item c.nested-test.true c.index-nested-at.is)

pub returns : goal.returns
returns c = λ q.
    c.nested.invariant q
    ∙ first_of_all message_parts
    (λ (m : MessageParts). bytes_eq q (name_within c.args.scope.now m.name))
    c.args.nested.now c.nested.at c.nested-test.false
