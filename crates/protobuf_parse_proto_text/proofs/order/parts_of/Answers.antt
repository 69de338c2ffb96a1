use Rattle.std.proofs.Common.{◌≡◌, ◌∙◌, ◌+◌, ◌∷◌, ◌++◌, [], List, ap, append_assoc, arith, drop}
use Rattle.std.proofs.Common.{map, sym}
use Rattle.std.specs.Ordering.{nat_cmp}
use Rattle.std.specs.BTreeSet.{contains}
use Rattle.std.proofs.lemmas.List.{map-append}
use Rattle.protobuf_parse_proto_text.specs.Order.{Member, Part, IsMade, alone, declares, ends}
use Rattle.protobuf_parse_proto_text.specs.Order.{first_or}
use Rattle.protobuf_parse_proto_text.specs.Order.{made_positions, messages_between, parts_from}
use Rattle.protobuf_parse_proto_text.specs.Order.{stands_among}
use Rattle.protobuf_parse_proto_text.specs.OrderViews.{block_view, member_view, part_view}
use Rattle.protobuf_parse_proto_text.specs.declared.members.Member as code
use Rattle.protobuf_parse_proto_text.proofs.Ordering.{left_next, left_none, one_part_more}
use Rattle.protobuf_parse_proto_text.proofs.Ordering.{positions_kept, positions_passed}
use Rattle.protobuf_parse_proto_text.proofs.order.parts_of.Goals as goal
use Rattle.protobuf_parse_proto_text.proofs.order.parts_of.Goals.{then-is_some, else-is_some}

pub members-preserved : goal.members-preserved
members-preserved c =
    let is_made : IsMade = contains nat_cmp c.in_ok-made_set.made_set in
    let at = c.members.member-index in
    let item = c.member-item.result in
    let member : Member = member_view item in
    let after = drop (at + 1) c.args.members.now in
    let before = map part_view c.members.parts.items in
    let left = left_next c.args.members.now at item c.members-test.true c.member-item.is in
    let made = c.members.invariant.made
    ∙ ap (λ (ms : List code.Member). made_positions (map member_view ms)) left in
    record {
      parts =
          one_part_more is_made c.args.count (block_view c.members.current) c.members.from
          c.position_or-to.result c.in_ok-from.from member (map member_view after) _ before _
          (c.members.invariant.parts
          ∙ ap (λ (ms : List code.Member). before ++ parts_from is_made c.args.count
          (block_view c.members.current) c.members.from (map member_view ms)) left)
          (c.position_or-to.ensures
          ∙ ap (λ ats. first_or c.args.count (drop c.members.passed ats))
          c.deref-in-members.ensures.value
          ∙ ap (first_or c.args.count) made)
          c.in_ok-from.ensures.written
          (ap (map part_view) c.in_ok-push.ensures.items ∙ map-append part_view _ _
          ∙ ap (λ ps. ps ++ declares member ∷ []) c.in_ok-from.ensures.parts);
      made =
          elim c.if-is_some.branch [
            | then-is_some w ↦ rw w.passed-is (positions_passed item.made _ _ c.members.passed
                (sym c.is_some.ensures ∙ w.if-is_some.true) made)
            | else-is_some w ↦ rw w.passed-is (positions_kept item.made _ _ c.members.passed
                (sym c.is_some.ensures ∙ w.if-is_some.false) made)
          ];
      passed =
          elim c.if-is_some.branch [
            | then-is_some w ↦ rw w.passed-is (omega (arith, c.members.invariant.passed))
            | else-is_some w ↦ rw w.passed-is (omega (arith, c.members.invariant.passed))
          ];
    }

pub returns : goal.returns
returns c =
    let is_made : IsMade = contains nat_cmp c.in_ok-made_set.made_set in
    let members : List Member = map member_view c.args.members.now in
    let parts : IsMade → List Part = λ made. parts_from made c.args.count alone 0 members in
    let made : is_made ≡ stands_among (made_positions members) =
    (λ i k. c.in_ok-made_set.ensures k i)
    ∙ ap stands_among (c.deref.ensures.value ∙ c.in_ok-made.ensures) in
    let before : List Part = map part_view c.members.parts.items in
    let current = block_view c.members.current in
    let last : List Part = messages_between is_made c.members.from c.args.count in
    c.in_ok-add_messages.ensures
    ∙ ap (λ ps. ps ++ last) (ap (map part_view) c.in_ok-push-2.ensures.items
    ∙ map-append part_view c.members.parts.items _)
    ∙ append_assoc before (ends current ∷ []) last
    ∙ sym (c.members.invariant.parts
    ∙ ap (λ (ms : List code.Member).
    before ++ parts_from is_made c.args.count current c.members.from (map member_view ms))
    (left_none c.args.members.now c.members.member-index c.members-test.false))
    ∙ ap parts made
