use Rattle.std.proofs.Common.{◌≡◌, ◌++◌, List, flat_map, map, take}
use Rattle.protobuf_parse_rules.specs.Bodies.{BodyParts}
use Rattle.protobuf_parse_rules.specs.BodyViews.{body_view}
use Rattle.protobuf_parse_rules.specs.Known.{Finds}
use Rattle.protobuf_parse_rules.specs.KnownFiles.{known_file, path_named}
use Rattle.protobuf_parse_rules.specs.Runtimes.{file_at}
use Rattle.protobuf_parse_rules.specs.Wanted.{lite_keys}
use Rattle.protobuf_parse_rules.proofs.extendees.add_lite_keys.Given as goal

abbrev pub invariant-bodies : goal.invariant-bodies
invariant-bodies l = (all : List BodyParts)
    → Finds known_file path_named l.files (flat_map file_at all)
    → l.keys.items ≡ l.fn.keys.items
    ++ flat_map (lite_keys all) (map body_view (take l.body-index l.bodies))
