use Rattle.std.proofs.Common.{◌≡◌, ◌++◌, ℕ, List, take, Bor}
use Rattle.std.specs.BTreeSet.{contains}
use Rattle.std.specs.Cmp.Lexicographic.{slice_cmp}
use Rattle.std.specs.Ordering.{nat_cmp}
use Rattle.protobuf_parse_model.specs.Duplicates.{duplicates, stands_in}
use Rattle.protobuf_parse_model.specs.Faults.{found}
use Rattle.protobuf_parse_elaboration.specs.Declaring.{names_at}
use Rattle.protobuf_parse_elaboration.proofs.Told.{names_of}
use Rattle.protobuf_parse_elaboration.proofs.constructs.told.tell_repeats.Given as goal

abbrev pub invariant-loop-named : goal.invariant-loop-named
invariant-loop-named l =
    let before = names_at (take l.named-index l.names) in
    record {
      told : found l.faults ≡ found l.initial.faults ++ duplicates before;
      seen : (q : Bor (List ℕ))
          → contains (λ (a b : Bor (List ℕ)). slice_cmp nat_cmp a.now b.now) l.seen q
          ≡ stands_in q.now (names_of before);
    }
