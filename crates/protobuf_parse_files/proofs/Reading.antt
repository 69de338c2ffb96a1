-- A read into the front of a buffer, of which the rest stays as it was.
use Rattle.std.proofs.Common.{◌≤◌, ℕ, ◌+◌, List, ◌++◌, Option, subst, sym, arith}
use Rattle.std.proofs.Common.{length, length-append, take}
use Rattle.std.proofs.lemmas.List.{length-take-le, take-append-le}
use Rattle.std.specs.Io.KnownBytes.{Consumes}

-- what stands in the front was consumed
pub consumed : (old new : Option (List ℕ)) (front rest : List ℕ) (n : ℕ) → n ≤ length front
    → Consumes old new (take n front) → Consumes old new (take n (front ++ rest))
consumed old new front rest n le read =
    subst (Consumes old new) (sym (take-append-le n front rest le)) read

-- and fits behind what was read before, where the front does
pub length-read : (content front rest : List ℕ) (n most : ℕ) → n ≤ length front
    → length content + length front ≤ most → length (content ++ take n (front ++ rest)) ≤ most
length-read content front rest n most le fits =
    rw (length-append, take-append-le n front rest le, length-take-le n front le) (omega arith)
