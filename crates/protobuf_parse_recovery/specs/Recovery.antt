-- Several faults of one text.
use Rattle.std.specs.Prelude.{◌<◌, ◌≤◌, ℕ, zero, suc, List, [], ◌∷◌, length}
use Rattle.protobuf_parse_lexer.specs.Cut.{error_place}
use Rattle.protobuf_parse_lexer.specs.Text.{Bytes}
use Rattle.protobuf_parse_lexer.specs.declared.error.ParserErrorWithLocation.{ParserErrorWithLocation}
use Rattle.protobuf_parse_syntax.specs.Parsing.{HasTree, IsFaultOf}
use Rattle.protobuf_parse_syntax.specs.Trees.{FileSyntax}
use Rattle.protobuf_parse_recovery.specs.Masking.{masked}
use Rattle.protobuf_parse_recovery.specs.declared.statement.Part.{Part}

-- some bytes of the text
abbrev pub IsPart : Bytes → Part → Type 0
IsPart z p = (p.from < p.to) × (p.to ≤ length z)

-- the fault stands in the text
abbrev pub Stands : Bytes → ParserErrorWithLocation → Type 0
Stands z e = IsFaultOf z e.error (error_place e)

-- Of the text at most so many faults are told: none, if it has a tree; else one that stands in it,
-- and no more; or that, and those of the text with a part of it as blanks.
pub data ReadsOn : ℕ → Bytes → List ParserErrorWithLocation → Type 0 where
  none : {n : ℕ} {z : Bytes} (t : FileSyntax) → HasTree z t → ReadsOn n z []
  spent : {z : Bytes} → ReadsOn zero z []
  last : {n : ℕ} {z : Bytes} (e : ParserErrorWithLocation) → Stands z e → ReadsOn (suc n) z (e ∷ [])
  more :
      {n : ℕ} {z : Bytes} {rest : List ParserErrorWithLocation} (e : ParserErrorWithLocation)
      (p : Part) → Stands z e → IsPart z p → ReadsOn n (masked z p.from p.to) rest →
      ReadsOn (suc n) z (e ∷ rest)
