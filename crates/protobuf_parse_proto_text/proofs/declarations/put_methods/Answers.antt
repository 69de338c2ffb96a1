use Rattle.std.proofs.Common.{sym, append-nil, map}
use Rattle.protobuf_parse_model.specs.Descriptors.{file_view}
use Rattle.protobuf_parse_model.specs.Descriptors.{method_view}
use Rattle.protobuf_parse_proto_text.specs.ProtoText.{method_text}
use Rattle.protobuf_parse_proto_text.proofs.Growing.{grown_all, grown_next}
use Rattle.protobuf_parse_proto_text.proofs.declarations.put_methods.Goals as goal

pub loop-method-init : goal.loop-method-init
loop-method-init c = sym (append-nil _)

pub loop-method-preserved : goal.loop-method-preserved
loop-method-preserved c =
    grown_next (method_text (map file_view c.args.index.now)) method_view
    _ _ _ _ _ _ c.loop-method-test.true c.method-item.is c.loop-method.invariant
    c.in_ok-put_method.ensures

pub returns : goal.returns
returns c =
    grown_all (method_text (map file_view c.args.index.now)) method_view
    _ _ _ _ c.loop-method-test.false c.loop-method.invariant
