-- The inputs so far have their paths.
use Rattle.std.proofs.Common.{◌≡◌, map, take}
use Rattle.protobuf_parse_run.specs.Run.{input_view}
use Rattle.protobuf_parse_run.specs.Walks.{named}
use Rattle.protobuf_parse_c.specs.Handed.{text_bytes}
use Rattle.protobuf_parse_c.proofs.compile.inputs_of.Given as goal

abbrev pub invariant-inputs : goal.invariant-inputs
invariant-inputs l =
    map input_view l.named.items ≡ map named (map text_bytes (take l.input-index l.inputs))
