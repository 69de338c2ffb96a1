use Rattle.std.proofs.lemmas.Result.{on_ok_weaker}
use Rattle.protobuf_parse_model.proofs.Tables.{is_listed, keeps_listed}
use Rattle.protobuf_parse_model.proofs.scope.declare.list_next.Goals as goal

pub returns-clause-kept : goal.returns-clause-kept
returns-clause-kept c =
    on_ok_weaker c.list_name.result
    (λ more. keeps_listed c.args.repeated.now c.list_name.new.repeated c.args.file c.args.name.now
    more) c.list_name.ensures

pub returns-clause-listed : goal.returns-clause-listed
returns-clause-listed c =
    on_ok_weaker c.list_name.result
    (λ more before. is_listed c.args.repeated.now c.list_name.new.repeated c.args.file
    c.args.name.now more) c.list_name.ensures
