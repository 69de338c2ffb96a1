use Rattle.protobuf_parse_rules.specs.BodyViews.{content_view}
use Rattle.protobuf_parse_rules.specs.Ranges.{in_range, ranges_for_extensions}
use Rattle.protobuf_parse_rules.proofs.known.KnownMessage.keeps.Goals as goal

pub returns : goal.returns
returns c =
    let message = c.args.self.now in
    c.has.ensures in_range (ranges_for_extensions (content_view message.holds)) message.are_kept
