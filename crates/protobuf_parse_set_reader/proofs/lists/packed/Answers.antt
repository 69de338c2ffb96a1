use Rattle.std.proofs.Common.{arith, rules, ◌∙◌, refl}
use Rattle.std.proofs.lemmas.Int.{to_z-of_z}
use Rattle.std.specs.Int.{w32}
use Rattle.std.proofs.lemmas.Result.{err_from_is_err_and}
use Rattle.std.proofs.lemmas.Grind.{common_steps}
use Rattle.protobuf_parse_records.specs.Views.{span_view}
use Rattle.protobuf_parse_set_reader.proofs.Packed.{all_read, one_failed, one_read}
use Rattle.protobuf_parse_set_reader.proofs.Steps.{fails_on_wire}
use Rattle.protobuf_parse_set_reader.proofs.lists.packed.Goals as goal

pub returns-in_err-number : goal.returns-in_err-number
returns-in_err-number c =
    let p = err_from_is_err_and c.from_residual.result c.from_residual.ensures.1 in
    rw (p.1, p.2)
    (one_failed c.numbers.all.items (span_view c.numbers.rest) _ _ (grind (arith, common_steps))
    (fails_on_wire _ _ c.in_err-number.ensures.gives) c.numbers.invariant)

pub numbers-preserved : goal.numbers-preserved
numbers-preserved c =
    one_read c.numbers.all.items _ _ (span_view c.numbers.rest) c.in_ok-number.number
    (span_view c.in_ok-number.behind) _ c.in_ok-push.ensures.items
    (to_z-of_z w32 c.int_of_number.result (let h = c.int_of_number.type_inv in search (rules, h))
    ∙ c.int_of_number.ensures)
    c.in_ok-number.ensures.shorter (rw c.in_ok-number.ensures.gives refl) c.numbers.invariant

pub returns : goal.returns
returns c = all_read c.numbers.all.items (span_view c.numbers.rest) _
    (grind (arith, common_steps)) c.numbers.invariant
