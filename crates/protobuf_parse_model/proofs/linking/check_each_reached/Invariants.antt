use Rattle.std.proofs.Common.{◌≡◌, [], take, flat_map}
use Rattle.protobuf_parse_model.specs.TableParts.{listed_faults}
use Rattle.protobuf_parse_model.proofs.linking.check_each_reached.Given as goal

abbrev pub invariant-loop-file : goal.invariant-loop-file
invariant-loop-file l = flat_map (listed_faults l.seen) (take l.file-index l.seen.reach.now) ≡ []
