-- The inputs so far have their proto paths.
use Rattle.std.proofs.Common.{map, take}
use Rattle.std.specs.Prelude.{string_bytes}
use Rattle.protobuf_parse_base.specs.PathViews.{path_buf_text}
use Rattle.protobuf_parse.specs.Includes.{AreNamed}
use Rattle.protobuf_parse.proofs.parser.includes.proto_paths_of.Given as goal

abbrev pub invariant-loop-input : goal.invariant-loop-input
invariant-loop-input l =
    AreNamed (map string_bytes l.includes) (map string_bytes (take l.input-index l.inputs))
    (map path_buf_text l.names.items)
