use Rattle.std.proofs.Common.{flat_map, map, take}
use Rattle.protobuf_parse_rules.specs.Known.{Finds}
use Rattle.protobuf_parse_rules.specs.KnownFiles.{known_file, path_named}
use Rattle.protobuf_parse_rules.specs.BodyViews.{body_view}
use Rattle.protobuf_parse_rules.specs.Runtimes.{file_at}
use Rattle.protobuf_parse_rules.proofs.runtimes.files_of.Given as goal

abbrev pub invariant-bodies : goal.invariant-bodies
invariant-bodies l = Finds known_file path_named l.files
    (flat_map file_at (map body_view (take l.body-index l.bodies)))
