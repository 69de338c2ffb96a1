use Rattle.std.proofs.Common.{◌∙◌, ◌∷◌, ◌++◌, [], List, true, false, ap, append-nil, append_assoc}
use Rattle.std.proofs.Common.{arith, map, sym}
use Rattle.std.specs.Ordering.{nat_cmp}
use Rattle.std.specs.BTreeSet.{contains}
use Rattle.std.proofs.lemmas.List.{map-append}
use Rattle.protobuf_parse_proto_text.specs.Order.{IsMade, Part, holds, messages_between}
use Rattle.protobuf_parse_proto_text.specs.OrderViews.{part_view}
use Rattle.protobuf_parse_proto_text.proofs.Ordering.{between_more}
use Rattle.protobuf_parse_proto_text.proofs.order.add_messages.Goals as goal
use Rattle.protobuf_parse_proto_text.proofs.order.add_messages.Goals.{then-not-contains+in_ok-push}
use Rattle.protobuf_parse_proto_text.proofs.order.add_messages.Goals.{else-not-contains}

pub loop-at-preserved : goal.loop-at-preserved
loop-at-preserved c =
    let is_made : IsMade = contains nat_cmp c.args.made.now in
    let from = c.args.from in
    let at = c.loop-at.at-counter in
    let start : List Part = map part_view c.args.parts.now.items in
    let so_far = messages_between is_made from at in
    record {
      parts =
          elim c.if-not-contains.branch [
            | then-not-contains+in_ok-push w ↦ rw w.parts-is
                (ap (map part_view) w.in_ok-push.ensures.items
                ∙ map-append part_view c.loop-at.parts.items _
                ∙ ap (λ ps. ps ++ holds at ∷ []) c.loop-at.invariant.parts
                ∙ append_assoc start so_far (holds at ∷ [])
                ∙ ap (λ ps. start ++ ps) (sym (between_more is_made from at false (omega arith)
                (sym c.contains.ensures ∙ w.if-not-contains.true))))
            | else-not-contains w ↦ rw w.parts-is
                (c.loop-at.invariant.parts
                ∙ ap (λ ps. start ++ ps) (sym (between_more is_made from at true (omega arith)
                (sym c.contains.ensures ∙ w.if-not-contains.false) ∙ append-nil so_far)))
          ];
      within = omega arith;
    }
