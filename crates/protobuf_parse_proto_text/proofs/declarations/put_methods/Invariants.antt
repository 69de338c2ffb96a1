use Rattle.std.proofs.Common.{◌≡◌, ◌++◌, map, take, flat_map}
use Rattle.std.specs.Prelude.{string_bytes}
use Rattle.protobuf_parse_model.specs.Descriptors.{file_view}
use Rattle.protobuf_parse_model.specs.Descriptors.{method_view}
use Rattle.protobuf_parse_proto_text.specs.ProtoText.{method_text}
use Rattle.protobuf_parse_proto_text.proofs.declarations.put_methods.Given as goal

abbrev pub invariant-loop-method : goal.invariant-loop-method
invariant-loop-method l =
    string_bytes l.text ≡ string_bytes l.fn.text
    ++ flat_map (method_text (map file_view l.index))
    (map method_view (take l.method-index l.methods))
