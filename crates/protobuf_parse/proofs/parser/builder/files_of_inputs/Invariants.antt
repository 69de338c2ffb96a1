-- Those of the files so far are kept.
use Rattle.std.proofs.Common.{◌≡◌, map}
use Rattle.std.specs.Prelude.{filter}
use Rattle.protobuf_parse_base.specs.PathViews.{path_buf_text}
use Rattle.protobuf_parse.specs.Parsers.{is_of_input}
use Rattle.protobuf_parse.proofs.parser.builder.files_of_inputs.Given as goal

abbrev pub invariant-loop-file : goal.invariant-loop-file
invariant-loop-file l = l.kept.items ≡ filter (is_of_input (map path_buf_text l.names)) l.yielded
