use Rattle.std.proofs.Common.{List, ap, sym, ◌∙◌, map}
use Rattle.std.specs.List.{list_any}
use Rattle.protobuf_parse_model.specs.Descriptors.{Range, enum_range_view, enum_view}
use Rattle.protobuf_parse_rules.specs.Enums.{closed_overlaps_first}
use Rattle.protobuf_parse_rules.proofs.Overlapping.{closed_overlapped, none_overlapped}
use Rattle.protobuf_parse_rules.proofs.enum_bars.is_overlapped.Goals as goal

pub returns-then-is_below : goal.returns-then-is_below
returns-then-is_below c =
    let r : Range = record { start = c.args.start.now; end = c.args.end.now } in
    let ranges : List Range = (enum_view c.args.bars.now.each.now).reserved_range in
    c.any_overlaps.ensures
    ∙ ap (λ rs. list_any (closed_overlaps_first r) (map enum_range_view rs))
    c.deref.ensures.value
    ∙ none_overlapped ranges r (sym c.is_below.ensures ∙ c.if-is_below.true)

pub returns-else-is_below : goal.returns-else-is_below
returns-else-is_below c =
    let r : Range = record { start = c.args.start.now; end = c.args.end.now } in
    let ranges : List Range = (enum_view c.args.bars.now.each.now).reserved_range in
    c.have_twice.ensures
    ∙ closed_overlapped ranges r (sym c.is_below.ensures ∙ c.if-is_below.false)
