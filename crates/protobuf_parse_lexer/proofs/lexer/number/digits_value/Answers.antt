use Rattle.std.proofs.Common.{arith, ap, ◌*◌}
use Rattle.std.proofs.lemmas.Int.Digits.{digits_value_more}
use Rattle.protobuf_parse_lexer.specs.Front.{value_so_far}
use Rattle.protobuf_parse_lexer.proofs.lexer.number.digits_value.Goals as goal

pub returns-in_default : goal.returns-in_default
returns-in_default c =
    λ small.
    c.in_default.ensures
    (omega (
      arith,
      ap (λ n. n * c.args.radix) c.loop-digit.invariant.0,
      value_so_far c.args.radix c.loop-digit.digit-index c.args.digits.now (omega arith)
          (omega arith),
    ))

pub returns-in_default-checked_add : goal.returns-in_default-checked_add
returns-in_default-checked_add c =
    λ small. c.in_default-checked_add.ensures
    (omega (
      arith,
      ap (λ n. n * c.args.radix) c.loop-digit.invariant.0,
      c.in-Some.ensures,
      value_so_far c.args.radix c.loop-digit.digit-index c.args.digits.now (omega arith)
          (omega arith),
    ))

pub loop-digit-preserved : goal.loop-digit-preserved
loop-digit-preserved c = (
  omega (
    arith,
    ap (λ n. n * c.args.radix) c.loop-digit.invariant.0,
    c.in-Some.ensures,
    c.in-Some-checked_add.ensures,
    digits_value_more c.args.radix c.args.digits.now c.loop-digit.digit-index (omega arith),
  ),
  omega (arith, c.in-Some-checked_add.ensures),
)
