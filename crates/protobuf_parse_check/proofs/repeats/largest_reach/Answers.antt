use Rattle.std.proofs.Common.{◌∙◌, ap, get_or, subst, sym}
use Rattle.protobuf_parse_check.specs.Judging.{IsBelow}
use Rattle.protobuf_parse_check.proofs.Besides.{below-at, number-there}
use Rattle.protobuf_parse_check.proofs.repeats.largest_reach.Goals as goal
use Rattle.protobuf_parse_check.proofs.repeats.largest_reach.Goals.{in-Some+then-len-largest}
use Rattle.protobuf_parse_check.proofs.repeats.largest_reach.Goals.{in_default}

pub loop-number-preserved : goal.loop-number-preserved
loop-number-preserved c =
    let loaded = c.args.loaded.now.entries in
    let reach = c.args.reach.now in
    let i = c.loop-number.number-index in
    elim c.match-at.branch [
      | in-Some+then-len-largest w ↦
          subst (IsBelow loaded reach) (sym (ap (λ b. b.now) w.largest-is ∙ w.deref-largest.ensures.value))
          (below-at loaded reach (get_or reach i 0) c.at.result _ c.at.ensures
          (number-there reach i c.loop-number-test.true) w.in-Some.is)
      | in_default w ↦ subst (IsBelow loaded reach) (sym (ap (λ b. b.now) w.largest-is)) c.loop-number.invariant
    ]
