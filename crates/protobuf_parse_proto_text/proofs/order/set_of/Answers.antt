use Rattle.std.proofs.Common.{◌∙◌, ap₂, get_or}
use Rattle.std.specs.Prelude.{◌||◌}
use Rattle.std.specs.Ordering.{is_eq, nat_cmp}
use Rattle.std.specs.BTreeSet.{contains}
use Rattle.std.specs.Cmp.{unsigned_tied}
use Rattle.protobuf_parse_model.proofs.OrTests.{cond-true_or}
use Rattle.protobuf_parse_proto_text.proofs.Ordering.{among_more}
use Rattle.protobuf_parse_proto_text.proofs.order.set_of.Goals as goal

pub loop-at-preserved : goal.loop-at-preserved
loop-at-preserved c = λ i.
    let k = c.loop-at.at-index in
    let x = get_or c.args.made.now k 0 in
    c.in_ok-insert.ensures.updates.0 i
    ∙ cond-true_or (is_eq (nat_cmp x i)) (contains nat_cmp c.loop-at.set i)
    ∙ ap₂ (λ a b. a || b) (unsigned_tied x i) (c.loop-at.invariant i)
    ∙ among_more i c.args.made.now k c.loop-at-test.true
