-- The set has the names so far.
use Rattle.std.proofs.Common.{map, take}
use Rattle.protobuf_parse_base.specs.PathViews.{path_buf_text}
use Rattle.protobuf_parse.specs.NameSets.{HasNames}
use Rattle.protobuf_parse.proofs.parser.builder.set_of_names.Given as goal

abbrev pub invariant-loop-name : goal.invariant-loop-name
invariant-loop-name l = HasNames l.set (map path_buf_text (take l.name-index l.names))
