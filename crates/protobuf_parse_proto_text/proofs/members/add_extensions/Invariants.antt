use Rattle.std.proofs.Common.{◌≡◌, ◌++◌, map, take}
use Rattle.std.specs.BTreeMap.{get_by_text}
use Rattle.protobuf_parse_model.specs.Descriptors.{field_view}
use Rattle.protobuf_parse_proto_text.specs.Order.{extension_member}
use Rattle.protobuf_parse_proto_text.specs.OrderViews.{all_parts, member_view}
use Rattle.protobuf_parse_proto_text.proofs.members.add_extensions.Given as goal

abbrev pub invariant-loop-field : goal.invariant-loop-field
invariant-loop-field l =
    map member_view l.members.items ≡ map member_view l.fn.members.items
    ++ map (extension_member (get_by_text l.positions) (all_parts l.nested))
    (map field_view (take l.field-index l.extensions))
