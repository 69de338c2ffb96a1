-- What follows for a caller.
use Rattle.std.specs.Prelude.{◌≡◌, ◌≤◌, List, [], ◌∷◌, length}
use Rattle.protobuf_parse_lexer.specs.Place.{after}
use Rattle.protobuf_parse_lexer.specs.Text.{Bytes}
use Rattle.protobuf_parse_lexer.specs.declared.error.ParserErrorWithLocation.{ParserErrorWithLocation}
use Rattle.protobuf_parse_lexer.specs.declared.lexer.token.Place.{Place}
use Rattle.protobuf_parse_syntax.specs.Parsing.{HasTree}
use Rattle.protobuf_parse_syntax.specs.Trees.{FileSyntax}
use Rattle.protobuf_parse_recovery.specs.Masking.{blanks}
use Rattle.protobuf_parse_recovery.specs.Recovery.{ReadsOn, Stands}

-- none is told, and the text has a tree; or the first stands in it
abbrev pub FirstStands : Bytes → List ParserErrorWithLocation → Type 0
FirstStands z [] = (t : FileSyntax) × HasTree z t
FirstStands z (e ∷ rest) = Stands z e

-- So it is of all that is told of a text, and there are at most twenty.
abbrev pub FaultsAreOfTheText : Type 0
FaultsAreOfTheText = (z : Bytes) (found : List ParserErrorWithLocation) → ReadsOn 20 z found
    → FirstStands z found × (length found ≤ 20)

-- The place behind a part as if it were blanks is that behind the part.
abbrev pub PlacesStay : Type 0
PlacesStay = (p : Place) (z : Bytes) → after p (blanks z) ≡ after p z
