use Rattle.std.proofs.Common.{ap, sym, ◌∙◌, map, refl}
use Rattle.std.proofs.lemmas.List.{map_push}
use Rattle.protobuf_parse_records.specs.Views.{record_view}
use Rattle.protobuf_parse_set_reader.proofs.Splitting.{all_split, one_known, one_other}
use Rattle.protobuf_parse_set_reader.proofs.options.split.Goals.{then-is_built_in+in_ok-push, else-is_built_in+in_ok-extend_from_slice}
use Rattle.protobuf_parse_set_reader.proofs.options.split.Goals as goal

pub loop-record-preserved : goal.loop-record-preserved
loop-record-preserved g c =
    let rs = c.deref-record-items.result.now in
    let k = c.loop-record.record-index in
    elim c.if-is_built_in.branch [
      | then-is_built_in+in_ok-push w ↦
          rw w.custom-is
          (one_known g.O.BuiltIn.sets rs k c.record-item.result _ _ _ c.loop-record-test.true
          c.record-item.is (sym c.is_built_in.ensures ∙ w.if-is_built_in.true)
          (ap (λ z. map record_view z.items) w.known-is
          ∙ ap (map record_view) w.in_ok-push.ensures.items
          ∙ map_push record_view c.loop-record.known.items _)
          c.loop-record.invariant)
      | else-is_built_in+in_ok-extend_from_slice w ↦
          rw w.known-is
          (one_other g.O.BuiltIn.sets rs k c.record-item.result _ _ _ c.loop-record-test.true
          c.record-item.is (sym c.is_built_in.ensures ∙ w.if-is_built_in.false)
          (ap (λ z. z.items) w.custom-is ∙ w.in_ok-extend_from_slice.ensures.items)
          c.loop-record.invariant)
    ]

pub returns : goal.returns
returns g c =
    let all = rw c.deref-record-items.ensures.value at
    (all_split g.O.BuiltIn.sets c.deref-record-items.result.now c.loop-record.record-index _ _
    c.loop-record-test.false c.loop-record.invariant) in
    record {
      known = rw all.are_known refl;
      others = all.are_others;
    }
