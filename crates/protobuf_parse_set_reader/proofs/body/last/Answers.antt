use Rattle.std.proofs.Common.{ap, sym, ◌∙◌}
use Rattle.std.proofs.lemmas.Bool.{eq-eqb, ne_eqb}
use Rattle.protobuf_parse_records.specs.Views.{record_view}
use Rattle.protobuf_parse_set_reader.specs.Bodies.{record_seen}
use Rattle.protobuf_parse_set_reader.specs.Values.{last_one, numbered}
use Rattle.protobuf_parse_set_reader.proofs.Going.{first_ones, has, kept, last_appended, left_out}
use Rattle.protobuf_parse_set_reader.proofs.body.last.Goals.{then-record-number, else-record-number}
use Rattle.protobuf_parse_set_reader.proofs.body.last.Goals as goal

pub loop-record-preserved : goal.loop-record-preserved
loop-record-preserved c =
    let rs = c.deref-record-items.result.now in
    let n = c.args.number in
    let k = c.loop-record.record-index in
    elim c.if-record-number.branch [
      | then-record-number w ↦ ap record_seen w.last-is
          ∙ sym (ap last_one (kept (has n) rs k c.record-item.result c.loop-record-test.true
          c.record-item.is (eq-eqb _ _ w.if-record-number.true))
          ∙ last_appended (numbered n (first_ones rs k)) (record_view c.record-item.result))
      | else-record-number w ↦ ap record_seen w.last-is ∙ c.loop-record.invariant
          ∙ sym (ap last_one (left_out (has n) rs k c.record-item.result c.loop-record-test.true
          c.record-item.is (ne_eqb _ _ w.if-record-number.false)))
    ]
