use Rattle.std.proofs.Common.{get_or, arith, ap, sym, ◌∙◌}
use Rattle.protobuf_parse_lexer.specs.Place.{step}
use Rattle.protobuf_parse_lexer.specs.declared.lexer.token.Place.{Place}
use Rattle.protobuf_parse_lexer.proofs.Narrow.{after_next, run_place}
use Rattle.protobuf_parse_lexer.proofs.lexer.place.place_after_runs.Goals as goal

pub loop-at-preserved-then-at-bytes : goal.loop-at-preserved-then-at-bytes
loop-at-preserved-then-at-bytes c =
    let z = c.args.bytes.now in
    let end = c.narrow_run_end-end.result in
    let run = run_place c.args.place c.loop-at.now z c.loop-at.at end c.loop-at.invariant.0
    c.narrow_run_end-end.ensures.after c.narrow_run_end-end.ensures.within
    c.narrow_run_end-end.ensures.passes in (
      c.step-now.ensures.value ∙ ap (λ (q : Place). step q (get_or z end 0)) run
          ∙ sym (after_next c.args.place z end (omega arith)),
      omega arith,
      omega arith,
      omega arith,
    )

pub loop-at-preserved : goal.loop-at-preserved
loop-at-preserved c = (
  run_place c.args.place c.loop-at.now c.args.bytes.now c.loop-at.at c.narrow_run_end-end.result
      c.loop-at.invariant.0 c.narrow_run_end-end.ensures.after c.narrow_run_end-end.ensures.within
      c.narrow_run_end-end.ensures.passes,
  omega arith,
  omega arith,
  omega arith,
)
