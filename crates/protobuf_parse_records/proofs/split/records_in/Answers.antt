use Rattle.std.proofs.Common.{◌≡◌, ◌++◌, ◌∷◌, [], map, arith}
use Rattle.std.proofs.lemmas.Result.{err_from_is_err_and}
use Rattle.std.proofs.lemmas.List.{map_push}
use Rattle.std.proofs.lemmas.Grind.{common_steps}
use Rattle.protobuf_parse_records.specs.Views.{span_view, record_view}
use Rattle.protobuf_parse_records.proofs.RecordLoop.{goes_on, breaks, ends}
use Rattle.protobuf_parse_records.proofs.split.records_in.Goals as goal

pub returns-in_err-first : goal.returns-in_err-first
returns-in_err-first c =
    let p = err_from_is_err_and c.from_residual.result c.from_residual.ensures.1 in
    rw (p.1, p.2)
    (breaks (map record_view c.rest.found.items) (span_view c.rest.rest) _ _
    (grind (arith, common_steps)) c.in_err-first.ensures.gives c.rest.invariant)

pub rest-preserved : goal.rest-preserved
rest-preserved c =
    let e : map record_view c.push.new.self.items ≡ map record_view c.rest.found.items
    ++ record_view c.in_ok-first.first ∷ [] =
    rw c.in_ok-push.ensures.items (map_push _ c.rest.found.items c.in_ok-first.first) in
    rw e (goes_on (map record_view c.rest.found.items) (span_view c.rest.rest)
    (record_view c.in_ok-first.first) (span_view c.in_ok-first.behind) _
    c.in_ok-first.ensures.shorter c.in_ok-first.ensures.gives c.rest.invariant)

pub returns : goal.returns
returns c = ends (map record_view c.rest.found.items) (span_view c.rest.rest) _
    (grind (arith, common_steps)) c.rest.invariant
