use Rattle.std.proofs.Common.{arith}
use Rattle.std.proofs.lemmas.Result.{err_from_is_err_and}
use Rattle.std.proofs.lemmas.Grind.{common_steps}
use Rattle.protobuf_parse_records.specs.Views.{span_view}
use Rattle.protobuf_parse_records.specs.Splitting.{group_end_at}
use Rattle.protobuf_parse_records.proofs.GroupLoop.{goes_on, breaks, ends}
use Rattle.protobuf_parse_records.proofs.group.group_end.Goals as goal

pub returns-in_err-rest-clause-gives : goal.returns-in_err-rest-clause-gives
unfolding group_end_at
returns-in_err-rest-clause-gives c =
    let p = err_from_is_err_and c.from_residual-in_err-rest.result
    c.from_residual-in_err-rest.ensures.1 in
    rw (p.1, p.2)
    (breaks (span_view c.tags.last_tag) c.tags.groups.items (span_view c.tags.rest) _ _
    (grind (arith, common_steps)) c.in_err-rest.ensures.gives c.tags.invariant.inside)

pub tags-preserved : goal.tags-preserved
tags-preserved c = record {
  inside = goes_on (span_view c.tags.last_tag) c.tags.groups.items (span_view c.tags.rest)
      c.step.new.groups.items (span_view c.in_ok-rest.rest) _ (grind (arith, common_steps))
      c.in_ok-rest.ensures.shorter c.in_ok-rest.ensures.gives c.tags.invariant.inside;
  last_within = c.tags.invariant.rest_within;
  rest_within = omega (arith, c.in_ok-rest.ensures.shorter, c.tags.invariant.rest_within);
}

pub returns-clause-gives : goal.returns-clause-gives
unfolding group_end_at
returns-clause-gives c =
    ends (span_view c.tags.last_tag) c.tags.groups.items (span_view c.tags.rest) _
    (grind (arith, common_steps)) c.tags.invariant.inside
