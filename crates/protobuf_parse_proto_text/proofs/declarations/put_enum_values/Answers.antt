use Rattle.std.proofs.Common.{sym, append-nil, map}
use Rattle.protobuf_parse_model.specs.Descriptors.{file_view}
use Rattle.protobuf_parse_model.specs.Descriptors.{enum_value_view}
use Rattle.protobuf_parse_proto_text.specs.ProtoText.{value_line}
use Rattle.protobuf_parse_proto_text.proofs.Growing.{grown_all, grown_next}
use Rattle.protobuf_parse_proto_text.proofs.declarations.put_enum_values.Goals as goal

pub loop-value-init : goal.loop-value-init
loop-value-init c = sym (append-nil _)

pub loop-value-preserved : goal.loop-value-preserved
loop-value-preserved c =
    grown_next (value_line (map file_view c.args.index.now) c.args.level) enum_value_view
    _ _ _ _ _ _ c.loop-value-test.true c.value-item.is c.loop-value.invariant
    c.in_ok-put_enum_value.ensures

pub returns : goal.returns
returns c =
    grown_all (value_line (map file_view c.args.index.now) c.args.level) enum_value_view
    _ _ _ _ c.loop-value-test.false c.loop-value.invariant
