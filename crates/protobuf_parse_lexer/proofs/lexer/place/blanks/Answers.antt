use Rattle.std.proofs.Common.{get_or, arith, ap, sym, ◌∙◌}
use Rattle.protobuf_parse_lexer.specs.Place.{step}
use Rattle.protobuf_parse_lexer.specs.declared.lexer.token.Place.{Place}
use Rattle.protobuf_parse_lexer.proofs.Narrow.{after_next, run_place, space_narrow}
use Rattle.protobuf_parse_lexer.proofs.ShortWays.{blank_more, spaces_more}
use Rattle.protobuf_parse_lexer.proofs.lexer.place.blanks.Goals as goal

pub returns-then-at-bytes-clause-value : goal.returns-then-at-bytes-clause-value
returns-then-at-bytes-clause-value c =
    let spaces = c.spaces_end-end.ensures in
    run_place c.args.place c.runs.now c.args.bytes.now c.runs.at c.spaces_end-end.result
    c.runs.invariant.0 spaces.after spaces.within
    (λ k from less. space_narrow _ (spaces.passes k from less))

pub runs-preserved : goal.runs-preserved
runs-preserved c =
    let z = c.args.bytes.now in
    let end = c.spaces_end-end.result in
    let spaces = c.spaces_end-end.ensures in
    let run = run_place c.args.place c.runs.now z c.runs.at end c.runs.invariant.0 spaces.after
    spaces.within (λ k from less. space_narrow _ (spaces.passes k from less)) in
    let each = spaces_more z c.runs.at end c.runs.invariant.2 spaces.passes in (
      c.step-now.ensures.value ∙ ap (λ (q : Place). step q (get_or z end 0)) run
          ∙ sym (after_next c.args.place z end (omega arith)),
      omega arith,
      blank_more z end each (sym c.is_in.ensures ∙ c.if-not-is_in.false),
      omega arith,
      omega arith,
    )
