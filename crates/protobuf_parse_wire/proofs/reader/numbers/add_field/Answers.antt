use Rattle.std.proofs.Common.{◌≡◌, ◌∙◌, sym, ap, ℤ, rules, None, Some}
use Rattle.std.specs.Int.{w32}
use Rattle.std.specs.Int.RustNames.{FitsSigned}
use Rattle.std.specs.Map.{update}
use Rattle.std.specs.BTreeMap.{get}
use Rattle.std.specs.Ordering.{int_cmp, int_eq}
use Rattle.std.proofs.lemmas.Int.{to_z-of_z}
use Rattle.protobuf_parse_wire.proofs.Distinct.{added, repeated}
use Rattle.protobuf_parse_wire.proofs.reader.numbers.add_field.Goals as goal

pub returns-in-None : goal.returns-in-None
returns-in-None c = λ fs known.
    let number = c.args.field.now.number in
    let m = c.args.numbers.now in
    let fits : FitsSigned w32 number = search rules in
    let key = to_z-of_z w32 number fits in
    let none : get int_cmp m number ≡ None = ap (get int_cmp m) (sym key)
    ∙ sym c.in_ok-insert.ensures.old ∙ c.in-None.is in
    added m fs c.args.field c.insert.new.self known fits none
    (λ q. c.in_ok-insert.ensures.updates.0 q
    ∙ ap (λ (k : ℤ). update int_eq (get int_cmp m) k (Some c.args.field) q) key)

pub returns-in-Some : goal.returns-in-Some
returns-in-Some c = λ fs known other more.
    let number = c.args.field.now.number in
    let m = c.args.numbers.now in
    let fits : FitsSigned w32 number = search rules in
    let some : get int_cmp m number
    ≡ Some c.in-Some.field-0 = ap (get int_cmp m) (sym (to_z-of_z w32 number fits))
    ∙ sym c.in_ok-insert.ensures.old ∙ c.in-Some.is in
    repeated m fs c.args.field c.in-Some.field-0 more known some
