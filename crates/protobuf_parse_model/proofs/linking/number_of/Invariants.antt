use Rattle.std.proofs.Common.{◌≡◌, ◌≤◌, filter, length, take}
use Rattle.protobuf_parse_model.specs.declared.scope.seen.Declaration.{Declaration}
use Rattle.protobuf_parse_model.specs.Tables.{is_of}
use Rattle.protobuf_parse_model.proofs.linking.number_of.Given as goal

abbrev pub invariant-loop-declaration : goal.invariant-loop-declaration
invariant-loop-declaration l = record {
  counted : l.count ≡ length (filter (λ (d : Declaration). is_of l.extension d.kind)
      (take l.declaration-index l.declarations));
  few : l.count ≤ l.declaration-index;
}
