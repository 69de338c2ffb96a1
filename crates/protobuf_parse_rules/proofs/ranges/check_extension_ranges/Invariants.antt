use Rattle.std.proofs.Common.{◌≡◌, ◌++◌, flat_map, map, take}
use Rattle.protobuf_parse_model.specs.Descriptors.{extension_range_view}
use Rattle.protobuf_parse_rules.specs.MessageSets.{is_message_set}
use Rattle.protobuf_parse_rules.specs.BodyViews.{body_view, content_view}
use Rattle.protobuf_parse_rules.specs.Ranges.{extension_range, ranges_of}
use Rattle.protobuf_parse_rules.specs.Rules.{breaches_told}
use Rattle.protobuf_parse_rules.specs.Violations.{site_of_body}
use Rattle.protobuf_parse_rules.proofs.ranges.check_extension_ranges.Given as goal

abbrev pub invariant-kept : goal.invariant-kept
invariant-kept l = breaches_told l.told ≡ breaches_told l.fn.told
    ++ flat_map (extension_range (site_of_body (body_view l.bars.body.now))
    (is_message_set (content_view l.bars.body.now.holds))
    (ranges_of (content_view l.bars.body.now.holds)))
    (map extension_range_view (take l.range-index l.ranges))
