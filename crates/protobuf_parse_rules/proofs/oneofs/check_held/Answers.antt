use Rattle.std.proofs.Common.{◌∙◌, Bool, ℤ, List, length, map, subst, sym}
use Rattle.std.proofs.lemmas.Result.{on_ok_weaker}
use Rattle.protobuf_parse_model.specs.Descriptors.{field_view}
use Rattle.protobuf_parse_rules.specs.Marks.{Marks}
use Rattle.protobuf_parse_rules.specs.Oneofs.{oneofs_held}
use Rattle.protobuf_parse_rules.proofs.oneofs.check_held.Goals as goal

pub returns : goal.returns
returns c =
    let held = oneofs_held (map field_view c.args.fields.now) in
    let marks = c.in_ok-marks.marks in
    let are : Marks held (length c.args.oneofs.now) c.deref-2.result.now =
    subst (λ (bs : List Bool). Marks held (length c.args.oneofs.now) bs)
    (sym c.deref-2.ensures.value)
    (subst (λ (ns : List ℤ). Marks ns (length c.args.oneofs.now) marks.items)
    (c.deref.ensures.value ∙ c.in_ok-held.ensures) c.in_ok-marks.ensures) in
    on_ok_weaker c.check_each.result (λ each. each held are) c.check_each.ensures
