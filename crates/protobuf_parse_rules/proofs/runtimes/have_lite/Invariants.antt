use Rattle.std.proofs.Common.{◌≡◌, map, take}
use Rattle.std.specs.List.{list_any}
use Rattle.protobuf_parse_rules.specs.KnownFiles.{is_lite_body}
use Rattle.protobuf_parse_rules.specs.BodyViews.{body_view}
use Rattle.protobuf_parse_rules.proofs.runtimes.have_lite.Given as goal

abbrev pub invariant-bodies : goal.invariant-bodies
invariant-bodies l =
    l.lite ≡ list_any is_lite_body (map body_view (take l.body-index l.bodies))
