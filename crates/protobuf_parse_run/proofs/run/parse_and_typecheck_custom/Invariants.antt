use Rattle.std.proofs.Common.{◌≡◌, map, take}
use Rattle.protobuf_parse_base.specs.PathViews.{path_buf_text}
use Rattle.protobuf_parse_base.specs.declared.proto_path.path.ProtoPathBuf.{ProtoPathBuf}
use Rattle.protobuf_parse_run.specs.Walks.{named}
use Rattle.protobuf_parse_run.specs.Run.{input_view}
use Rattle.protobuf_parse_run.proofs.run.parse_and_typecheck_custom.Given as goal

abbrev pub invariant-loop-path : goal.invariant-loop-path
invariant-loop-path g l = map input_view l.inputs.items
    ≡ map (λ (b : ProtoPathBuf). named (path_buf_text b)) (take l.path-index l.input)
