use Rattle.std.proofs.Common.{◌≤◌, length, suc, ◌∷◌, []}
use Rattle.protobuf_parse_records.specs.Views.{span_view}
use Rattle.protobuf_parse_records.specs.Splitting.{closed_within}
use Rattle.protobuf_parse_records.proofs.GroupLoop.{IsInside}
use Rattle.protobuf_parse_records.proofs.group.group_end.Given as goal

abbrev pub invariant-tags : goal.invariant-tags
invariant-tags l = record {
  inside : IsInside (span_view l.last_tag) l.groups.items (span_view l.rest)
      (closed_within (suc (length l.span.bytes.now)) (span_view l.span) (l.number ∷ [])
      (span_view l.span));
  last_within : length l.last_tag.bytes.now ≤ length l.span.bytes.now;
  rest_within : length l.rest.bytes.now ≤ length l.span.bytes.now;
}

abbrev pub decreases-tags : goal.decreases-tags
decreases-tags l = length l.rest.bytes.now
