use Rattle.std.proofs.Common.{refl, string_bytes}
use Rattle.std.proofs.lemmas.Result.{IfOk-weaker}
use Rattle.protobuf_parse_model.proofs.ByHash.{still_ordered}
use Rattle.protobuf_parse_model.proofs.Tables.{adds_if_first}
use Rattle.protobuf_parse_model.proofs.scope.declare.put_first.Goals as goal

pub invariant_of-table : goal.invariant_of-table
invariant_of-table c = record {
  ordered = still_ordered c.args.table.now c.insert_first.new.maps.items
      (string_bytes c.args.name) c.args.declaration c.insert_first.result
      c.insert_first.ensures.first c.insert_first.ensures.adds c.insert_first.ensures.same
      c.insert_first.ensures.err;
}

pub returns-clause-adds : goal.returns-clause-adds
returns-clause-adds c =
    adds_if_first c.args.table.now _ (string_bytes c.args.name) c.args.declaration
    c.insert_first.result refl c.insert_first.ensures.first c.insert_first.ensures.adds

pub returns-clause-same : goal.returns-clause-same
returns-clause-same c =
    IfOk-weaker c.insert_first.result _ _
    (λ taken same some. record { declares = same some; lists = refl }) c.insert_first.ensures.same
