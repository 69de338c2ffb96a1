use Rattle.std.proofs.Common.{◌≡◌, ◌+◌, map, slice_range, ap, ◌∙◌, arith}
use Rattle.std.proofs.lemmas.List.{map_push}
use Rattle.protobuf_parse_merged.specs.declared.occurrences.Occurrence as code
use Rattle.protobuf_parse_merged.specs.Inside.{AreOf, occurrence_view}
use Rattle.protobuf_parse_merged.proofs.Ordered.{one_more, range_more}
use Rattle.protobuf_parse_merged.proofs.runs.run_end.Goals as goal

pub run-preserved : goal.run-preserved
run-preserved c =
    let xs = c.args.occurrences.now in
    let x : code.Occurrence = c.index-occurrences-end.result in
    let more = range_more xs c.args.start c.run.end x (omega arith) c.run-test.true
    c.index-occurrences-end.is in
    let one : x.number ≡ c.args.number =
    ap (λ (o : code.Occurrence). o.number) c.index-occurrences-end.is
    ∙ c.if-occurrences-end.true in
    let all : AreOf c.args.number (map occurrence_view (slice_range xs c.args.start (c.run.end + 1)))
    = rw (more, map_push) (one_more c.args.number
    (map occurrence_view (slice_range xs c.args.start c.run.end)) (occurrence_view x)
    c.run.invariant.2 one) in
    (omega arith, omega arith, all)
