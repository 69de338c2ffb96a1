use Rattle.std.proofs.Common.{sym, ◌∙◌, arith}
use Rattle.protobuf_parse.proofs.Including.{parts_after-agree, parts_after-all, parts_after-differ}
use Rattle.protobuf_parse.proofs.Including.{parts_after-short}
use Rattle.protobuf_parse.proofs.parser.includes.after_front.Goals as goal
use Rattle.protobuf_parse.proofs.parser.includes.after_front.Goals.{then-i-parts-via-then-i-parts}
use Rattle.protobuf_parse.proofs.parser.includes.after_front.Goals.{then-i-parts-via-else-i-parts+then-ne}

pub returns-then-i-parts : goal.returns-then-i-parts
returns-then-i-parts c = elim c.then-i-parts.branch [
  | then-i-parts-via-then-i-parts w ↦
      sym (parts_after-short c.args.front.now c.args.parts.now c.loop-i.i c.loop-i-test.true
      w.if-i-parts.true) ∙ c.loop-i.invariant.same
  | then-i-parts-via-else-i-parts+then-ne w ↦
      sym (parts_after-differ c.args.front.now c.args.parts.now c.loop-i.i _ _ _ c.loop-i-test.true
      w.if-i-parts.false w.ne.ensures w.if-ne.true) ∙ c.loop-i.invariant.same
]

pub loop-i-preserved : goal.loop-i-preserved
loop-i-preserved c = record {
  same = parts_after-agree c.args.front.now c.args.parts.now c.loop-i.i _ _ _ c.loop-i-test.true
      c.if-i-parts.false c.ne.ensures c.if-ne.false ∙ c.loop-i.invariant.same;
  within = omega arith;
}

pub returns : goal.returns
returns c =
    parts_after-all c.args.front.now c.args.parts.now c.loop-i.i c.loop-i-test.false
    c.loop-i.auto.i-end c.loop-i.invariant.same
