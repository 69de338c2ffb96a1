use Rattle.std.proofs.Common.{◌≡◌, map, take}
use Rattle.std.specs.Prelude.{string_bytes}
use Rattle.protobuf_parse_base.specs.PathViews.{path_buf_text}
use Rattle.protobuf_parse_run.specs.Run.{input_view}
use Rattle.protobuf_parse.specs.Parsers.{inputs_at}
use Rattle.protobuf_parse.proofs.parser.builder.place_inputs.Given as goal

abbrev pub invariant-loop-i : goal.invariant-loop-i
invariant-loop-i l = map input_view l.given.items
    ≡ inputs_at (map path_buf_text (take l.i l.names)) (map string_bytes (take l.i l.inputs))
