use Rattle.std.proofs.Common.{◌≡◌, ◌≤◌, take}
use Rattle.protobuf_parse_model.specs.TableParts.{times}
use Rattle.protobuf_parse_model.proofs.linking.times.Given as goal

abbrev pub invariant-loop-declaration : goal.invariant-loop-declaration
invariant-loop-declaration l = record {
  counted : l.count ≡ times l.extension l.seen.reach.now (take l.declaration-index l.declarations);
  few : l.count ≤ l.declaration-index;
}
