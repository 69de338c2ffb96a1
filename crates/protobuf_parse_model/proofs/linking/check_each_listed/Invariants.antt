use Rattle.std.proofs.Common.{◌≡◌, ◌++◌, [], List, ℕ, flat_map}
use Rattle.protobuf_parse_model.specs.TableParts.{listed_files, reached_faults}
use Rattle.protobuf_parse_model.proofs.linking.check_each_listed.Given as goal

abbrev pub invariant-loop-file : goal.invariant-loop-file
invariant-loop-file l = record {
  seen : List ℕ;
  order : listed_files l.seen.declarations.now ≡ seen ++ l.file-iterator;
  none : flat_map (reached_faults l.seen) seen ≡ [];
}
