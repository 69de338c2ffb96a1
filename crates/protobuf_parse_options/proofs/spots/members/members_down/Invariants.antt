use Rattle.std.proofs.Common.{◌≡◌, Some, drop, option_map}
use Rattle.protobuf_parse_model.specs.Descriptors.{file_view}
use Rattle.protobuf_parse_options.specs.HoldingParts.{members_view}
use Rattle.protobuf_parse_options.specs.Spots.{inside_file}
use Rattle.protobuf_parse_options.specs.SpotsInside.{down}
use Rattle.protobuf_parse_options.proofs.spots.members.members_down.Given as goal

abbrev pub invariant-path : goal.invariant-path
invariant-path l =
    down (Some (inside_file (file_view l.file))) l.path ≡ down
    (option_map members_view l.members) (drop l.index-index l.path)
