use Rattle.std.proofs.Common.{sym, append-nil}
use Rattle.protobuf_parse_model.specs.Descriptors.{enum_range_view}
use Rattle.protobuf_parse_proto_text.specs.ProtoText.{enum_range_line}
use Rattle.protobuf_parse_proto_text.proofs.Growing.{grown_all}
use Rattle.protobuf_parse_proto_text.proofs.declarations.put_enum_ranges.Goals as goal

pub loop-range-init : goal.loop-range-init
loop-range-init c = sym (append-nil _)

pub returns : goal.returns
returns c =
    grown_all (enum_range_line c.args.level) enum_range_view
    _ _ _ _ c.loop-range-test.false c.loop-range.invariant
