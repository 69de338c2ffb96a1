-- What is told of a text.
use Rattle.std.proofs.Common.{◌≤◌, ℕ, suc, List, arith, length}
use Rattle.protobuf_parse_lexer.specs.Text.{Bytes}
use Rattle.protobuf_parse_lexer.specs.declared.error.ParserErrorWithLocation.{ParserErrorWithLocation}
use Rattle.protobuf_parse_recovery.specs.Laws.{FirstStands}
use Rattle.protobuf_parse_recovery.specs.Recovery.{ReadsOn, last, more, none, spent}

pub first-stands : (n : ℕ) (z : Bytes) (found : List ParserErrorWithLocation)
    → ReadsOn (suc n) z found → FirstStands z found
first-stands n z found (none t tree) = (t, tree)
first-stands n z found (last e stands) = stands
first-stands n z found (more e p stands part rest) = stands

pub few : (n : ℕ) (z : Bytes) (found : List ParserErrorWithLocation) → ReadsOn n z found
    → length found ≤ n
few n z found (none t tree) = omega arith
few n z found spent = omega arith
few n z found (last e stands) = omega arith
few n z found (more {n = m} {rest = rest} e p stands part reads) =
    let inner : length rest ≤ m = few m _ rest reads in omega arith
