use Rattle.std.proofs.Common.{◌≡◌, List, true, false, ap, sym, ◌∙◌, ◌||◌}
use Rattle.std.specs.List.{list_any}
use Rattle.std.proofs.lemmas.List.Folds.{list_any-append}
use Rattle.protobuf_parse_model.specs.Descriptors.{Range}
use Rattle.protobuf_parse_rules.specs.Bodies.{extension_ranges, reserved_ranges}
use Rattle.protobuf_parse_rules.specs.BodyViews.{content_view}
use Rattle.protobuf_parse_rules.specs.Ranges.{overlaps_first, ranges_of}
use Rattle.protobuf_parse_rules.proofs.Overlapping.{empty_overlapped, open_overlapped}
use Rattle.protobuf_parse_rules.proofs.ranges.is_overlapped.Goals as goal

pub returns-then-is_below : goal.returns-then-is_below
returns-then-is_below c =
    let r : Range = record { start = c.args.start.now; end = c.args.end.now } in
    c.lie_in_two.ensures
    ∙ open_overlapped (ranges_of (content_view c.args.bars.now.body.now.holds)) r
    (sym c.is_below.ensures ∙ c.if-is_below.true)

pub returns-then-any_reserved_overlaps : goal.returns-then-any_reserved_overlaps
returns-then-any_reserved_overlaps c =
    let r : Range = record { start = c.args.start.now; end = c.args.end.now } in
    let content = content_view c.args.bars.now.body.now.holds in
    let reserved : List Range = reserved_ranges content in
    let kept : List Range = extension_ranges content in
    let there : true ≡ list_any (overlaps_first r) reserved =
    sym c.if-any_reserved_overlaps.true ∙ c.any_reserved_overlaps.ensures
    ∙ ap (list_any (overlaps_first r)) c.reserved_ranges.ensures in
    c.if-any_reserved_overlaps.true
    ∙ ap (λ b. b || list_any (overlaps_first r) kept) there
    ∙ sym (list_any-append (overlaps_first r) reserved kept)
    ∙ empty_overlapped (ranges_of content) r (sym c.is_below.ensures ∙ c.if-is_below.false)

pub returns-else-any_reserved_overlaps : goal.returns-else-any_reserved_overlaps
returns-else-any_reserved_overlaps c =
    let r : Range = record { start = c.args.start.now; end = c.args.end.now } in
    let content = content_view c.args.bars.now.body.now.holds in
    let reserved : List Range = reserved_ranges content in
    let kept : List Range = extension_ranges content in
    let none : false ≡ list_any (overlaps_first r) reserved =
    sym c.if-any_reserved_overlaps.false ∙ c.any_reserved_overlaps.ensures
    ∙ ap (list_any (overlaps_first r)) c.reserved_ranges.ensures in
    c.any_kept_overlaps.ensures
    ∙ ap (list_any (overlaps_first r)) c.extension_ranges.ensures
    ∙ ap (λ b. b || list_any (overlaps_first r) kept) none
    ∙ sym (list_any-append (overlaps_first r) reserved kept)
    ∙ empty_overlapped (ranges_of content) r (sym c.is_below.ensures ∙ c.if-is_below.false)
