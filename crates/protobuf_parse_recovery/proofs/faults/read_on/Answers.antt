use Rattle.std.proofs.Common.{◌≡◌, ◌-◌, ◌+◌, arith, subst, suc}
use Rattle.protobuf_parse_lexer.specs.Text.{Bytes}
use Rattle.protobuf_parse_syntax.specs.Parsing.{HasTree}
use Rattle.protobuf_parse_syntax.specs.Trees.{file_syntax}
use Rattle.protobuf_parse_recovery.proofs.Rounds.{has-tree, leads-last, leads-more, leads-none}
use Rattle.protobuf_parse_recovery.proofs.Rounds.{leads-spent, masked-there, part-there}
use Rattle.protobuf_parse_recovery.proofs.Rounds.{stands-there}
use Rattle.protobuf_parse_recovery.proofs.faults.read_on.Goals as goal

pub returns-in-Ok : goal.returns-in-Ok
returns-in-Ok c = record {
  faults = leads-none _ _ _ _ c.loop-round.invariant
      (has-tree _ _ _ (file_syntax c.in-Ok.tree) c.as_str-now.ensures.value c.in-Ok.ensures.found);
  rest = subst (λ (z : Bytes). HasTree z (file_syntax c.in-Ok.tree)) c.as_str-now.ensures.value
      c.in-Ok.ensures.found;
}

pub returns-in_default-part_with : goal.returns-in_default-part_with
returns-in_default-part_with c =
    let left : 20 - c.loop-round.round ≡ suc (20 - (c.loop-round.round + 1)) = omega arith in
    record {
      faults = leads-last _ _ _ _ _ _ c.in-Err.error left c.loop-round.invariant
          (stands-there _ _ c.in-Err.error c.as_str-now.ensures.value c.in-Err.ensures.refused
          c.in_default.not-Memory) c.in_ok-push.ensures.items;
      rest = tt;
    }

pub returns-in_default-2 : goal.returns-in_default-2
returns-in_default-2 c =
    let left : 20 - c.loop-round.round ≡ suc (20 - (c.loop-round.round + 1)) = omega arith in
    record {
      faults = leads-last _ _ _ _ _ _ c.in-Err.error left c.loop-round.invariant
          (stands-there _ _ c.in-Err.error c.as_str-now.ensures.value c.in-Err.ensures.refused
          c.in_default.not-Memory) c.in_ok-push.ensures.items;
      rest = tt;
    }

pub loop-round-preserved : goal.loop-round-preserved
loop-round-preserved c =
    let left : 20 - c.loop-round.round ≡ suc (20 - (c.loop-round.round + 1)) = omega arith in
    let blank = rw c.in-Some-2.is at c.in_ok-masked.ensures in
    leads-more _ _ _ _ _ _ _ c.in-Err.error c.in-Some.part left c.loop-round.invariant
    (stands-there _ _ c.in-Err.error c.as_str-now.ensures.value c.in-Err.ensures.refused
    c.in_default.not-Memory)
    (part-there _ _ c.in-Some.part c.as_str-now.ensures.value c.in-Some.ensures)
    (masked-there _ _ _ c.in-Some.part c.as_str-now.ensures.value blank) c.in_ok-push.ensures.items

pub returns : goal.returns
returns c = record {
  faults = leads-spent (20 - c.loop-round.round) _ _ _ (omega arith) c.loop-round.invariant;
  rest = tt;
}
