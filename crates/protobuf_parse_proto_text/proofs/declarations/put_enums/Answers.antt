use Rattle.std.proofs.Common.{sym, append-nil, map}
use Rattle.protobuf_parse_model.specs.Descriptors.{file_view}
use Rattle.protobuf_parse_model.specs.Descriptors.{enum_view}
use Rattle.protobuf_parse_proto_text.specs.ProtoText.{enum_text}
use Rattle.protobuf_parse_proto_text.proofs.Growing.{grown_all, grown_next}
use Rattle.protobuf_parse_proto_text.proofs.declarations.put_enums.Goals as goal

pub loop-each-init : goal.loop-each-init
loop-each-init c = sym (append-nil _)

pub loop-each-preserved : goal.loop-each-preserved
loop-each-preserved c =
    grown_next (enum_text (map file_view c.args.index.now) c.args.level) enum_view
    _ _ _ _ _ _ c.loop-each-test.true c.each-item.is c.loop-each.invariant
    c.in_ok-put_enum.ensures

pub returns : goal.returns
returns c =
    grown_all (enum_text (map file_view c.args.index.now) c.args.level) enum_view
    _ _ _ _ c.loop-each-test.false c.loop-each.invariant
