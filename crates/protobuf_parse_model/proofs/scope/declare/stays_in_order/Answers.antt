use Rattle.std.proofs.Common.{◌<◌, ◌-◌, ◌≤◌, List, arith, get_or, leb-true, length, subst}
use Rattle.protobuf_parse_model.specs.declared.scope.seen.Declaration.{Declaration}
use Rattle.protobuf_parse_model.specs.SeenFiles.{declared_as}
use Rattle.protobuf_parse_model.proofs.FileOrder.{ascend_more, last_is}
use Rattle.protobuf_parse_model.proofs.scope.declare.stays_in_order.Goals as goal

pub returns-in-empty-clause-stays : goal.returns-in-empty-clause-stays
returns-in-empty-clause-stays c =
    let ds = c.declarations_of.result.now in
    let none : length ds < 1 = c.in-empty.len_below in
    let last = λ (x : Declaration) (some : 0 < length ds).
    absurd {A = (get_or ds (length ds - 1) x).file ≤ c.args.declaration.file}
    (omega (arith, none, some)) in
    λ yes. ascend_more (declared_as c.args.table.now)
    (c.args.table.now.ordered c.if-table.true) c.args.name.now c.args.declaration
    (subst (λ (xs : List Declaration). (x : Declaration) → 0 < length xs
    → (get_or xs (length xs - 1) x).file ≤ c.args.declaration.file) c.declarations_of.ensures last)

pub returns-in-len1-up-clause-stays : goal.returns-in-len1-up-clause-stays
returns-in-len1-up-clause-stays c =
    let ds = c.declarations_of.result.now in
    let some : 0 < length ds = c.in-len1-up.len_at_least in
    λ yes. ascend_more (declared_as c.args.table.now)
    (c.args.table.now.ordered c.if-table.true) c.args.name.now c.args.declaration
    (subst (λ (xs : List Declaration). (x : Declaration) → 0 < length xs
    → (get_or xs (length xs - 1) x).file ≤ c.args.declaration.file) c.declarations_of.ensures
    (last_is ds _ c.args.declaration.file (leb-true _ _ yes)))
