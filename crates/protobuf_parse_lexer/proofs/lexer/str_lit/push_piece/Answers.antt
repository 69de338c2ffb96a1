use Rattle.std.proofs.Common.{◌++◌, length, refl, sym, ap, ◌∙◌, subst, inr, arith, append_assoc}
use Rattle.std.proofs.lemmas.Bool.{eqb-true}
use Rattle.std.proofs.lemmas.Slice.{between_to_end}
use Rattle.protobuf_parse_lexer.proofs.Escapes.{Goes, goes_wrong, goes_part, goes_end}
use Rattle.protobuf_parse_lexer.proofs.Escapes.{as_is_decodes}
use Rattle.protobuf_parse_lexer.specs.Decoding.{meaning_bytes}
use Rattle.protobuf_parse_lexer.proofs.lexer.str_lit.push_piece.Goals as goal

pub returns-then-has_no_backslash : goal.returns-then-has_no_backslash
returns-then-has_no_backslash c = (
  c.args.piece.now,
  as_is_decodes c.args.piece.now (sym c.has_no_backslash.ensures ∙ c.if-has_no_backslash.true),
  c.in_ok-extend_from_slice.ensures.items,
)

pub returns-in_default : goal.returns-in_default
returns-in_default c =
    let here = c.in_default.ensures in
    inr (
      refl,
      goes_wrong c.args.piece.now c.loop-rest.rest.now c.loop-rest.invariant.0 here.0 here.1
          c.loop-rest.invariant.2,
    )

pub loop-rest-preserved : goal.loop-rest-preserved
loop-rest-preserved c =
    let z = c.loop-rest.rest.now in
    let n = c.in-Some.part.len in
    let w = meaning_bytes c.in-Some.part.meaning in
    let v = c.loop-rest.invariant.0 in (
      v ++ w,
      c.in_ok-push_meaning.ensures ∙ ap (λ x. x ++ w) c.loop-rest.invariant.1
          ∙ append_assoc c.args.bytes.now.items v w,
      subst (λ r. Goes c.args.piece.now r (v ++ w))
          (sym (between_to_end z n (length z) (omega arith)))
          (goes_part c.args.piece.now z v w n c.in-Some.ensures c.loop-rest.invariant.2),
    )

pub returns : goal.returns
returns c = (
  c.loop-rest.invariant.0,
  goes_end c.args.piece.now c.loop-rest.rest.now c.loop-rest.invariant.0
      (eqb-true (length c.loop-rest.rest.now) 0 (sym c.loop-rest-test.ensures))
      c.loop-rest.invariant.2,
  c.loop-rest.invariant.1,
)
