use Rattle.std.proofs.Common.{string_bytes, subst}
use Rattle.std.specs.Prelude.{Result, Ok, Err, OnErr}
use Rattle.protobuf_parse_model.specs.AddsByHash.{IsWith}
use Rattle.protobuf_parse_model.proofs.ByHash.{adds_alike, may_forget_one}
use Rattle.protobuf_parse_model.proofs.scope.by_hash.add_alike_in.Goals as goal

on_err_from : {T E P : Type 0} (r : Result T E) → P → OnErr r P
on_err_from (Ok x) p = tt
on_err_from (Err e) p = p

pub returns-clause-ok : goal.returns-clause-ok
returns-clause-ok c =
    let full = string_bytes c.args.name in
    let d = c.args.declaration in
    adds_alike c.args.by_hash.now c.remove.new.self c.insert.new.self full d c.args.hash
    c.in_ok-declared.declared c.requires
    (subst (λ o. IsWith o full d c.in_ok-declared.declared) c.remove.ensures.value
    c.in_ok-declared.ensures) c.remove.ensures.updates c.in_ok-insert.ensures.updates

pub returns-in_err-insert-clause-err : goal.returns-in_err-insert-clause-err
returns-in_err-insert-clause-err c =
    on_err_from c.from_residual-in_err-insert.result
    (may_forget_one c.args.by_hash.now c.remove.new.self c.insert.new.self c.args.hash
    c.remove.ensures.updates c.in_err-insert.ensures.err)
