use Rattle.std.proofs.Common.{arith, Result, Ok, Err}
use Rattle.std.specs.Result.{OnErr}
use Rattle.std.proofs.lemmas.Grind.{text_groups}
use Rattle.protobuf_parse_base.proofs.multimap.put.Goals as goal

pub returns-clause-ok : goal.returns-clause-ok
returns-clause-ok g c = grind (arith, text_groups)

on_err : {T E P : Type 0} (r : Result T E) → P → OnErr r P
on_err (Ok x) p = tt
on_err (Err e) p = p

pub returns-in_err-push-clause-kept : goal.returns-in_err-push-clause-kept
returns-in_err-push-clause-kept g c =
    on_err c.from_residual-in_err-push.result (λ q. grind (arith, text_groups))
