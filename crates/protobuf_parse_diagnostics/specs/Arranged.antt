-- Diagnostics in another order, equal ones beside one another once.
use Rattle.std.specs.Prelude.{Bool, List, [], IsPermutation}
use Rattle.std.specs.List.Retain.{DiffersFromLast, IsFiltered}
use Rattle.protobuf_parse_diagnostics.specs.declared.diagnostic.Diagnostic.{Diagnostic}

-- the new ones are the old ones in another order, without those that equal the one before them
pub record IsArranged (eq : Diagnostic → Diagnostic → Bool) (old new : List Diagnostic) : Type 0 where
  pub ordered : List Diagnostic
  pub permutation : IsPermutation old ordered
  pub once : IsFiltered (DiffersFromLast eq) [] ordered new
