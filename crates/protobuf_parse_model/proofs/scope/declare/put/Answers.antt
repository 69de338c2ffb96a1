use Rattle.std.proofs.Common.{◌≡◌, ap, string_bytes, subst}
use Rattle.std.specs.Prelude.{IfSome, Option, String, is_some}
use Rattle.std.specs.Global.{Global}
use Rattle.std.proofs.lemmas.Result.{on_ok_weaker}
use Rattle.protobuf_parse_model.specs.TableParts.{AddsOne}
use Rattle.protobuf_parse_model.proofs.Tables.{adds_after_same}
use Rattle.protobuf_parse_model.proofs.scope.declare.put.Goals as goal

pub returns-in-Some : goal.returns-in-Some
returns-in-Some c =
    let between = c.put_first.new.table in
    let new = c.put_again.new.table in
    let d = c.args.declaration in
    let back = subst (λ (o : Option (String Global)). IfSome o (λ n. n ≡ c.args.name)) c.in-Some.is
    c.in_ok-put_first.ensures.back in
    on_ok_weaker c.put_again.result
    (λ adds. adds_after_same c.args.table.now between new (string_bytes c.args.name) d
    (c.in_ok-put_first.ensures.same (ap is_some c.in-Some.is))
    (subst (λ (n : String Global). AddsOne between new (string_bytes n) d) back adds))
    c.put_again.ensures
