-- No public clause rests on this file.
-- What is known of a text that was read.
use Rattle.std.specs.Prelude.{◌≡◌, ◌&&◌, ◌++◌, Bool, true, false, nat_eq, if◌then◌else◌, string_bytes}
use Rattle.protobuf_parse_lexer.specs.Text.{Bytes}
use Rattle.protobuf_parse_lexer.specs.declared.error.ParserError.{ParserError}
use Rattle.protobuf_parse_lexer.specs.declared.error.ParserError.TheVariants as error
use Rattle.protobuf_parse_lexer.specs.declared.error.ParserErrorWithLocation.{ParserErrorWithLocation}
use Rattle.protobuf_parse_lexer.specs.declared.lexer.token.Place.{Place}
use Rattle.protobuf_parse_syntax.specs.Parsing.{HasTree}
use Rattle.protobuf_parse_syntax.specs.Trees.{FileSyntax}
use Rattle.protobuf_parse_expected.specs.Expected.{NeverGoesOn}
use Rattle.protobuf_parse_expected.specs.declared.ending.Longer.{Longer}
use Rattle.protobuf_parse_expected.specs.declared.reading.Probed.{Probed}
use Rattle.protobuf_parse_expected.specs.declared.reading.Probed.TheVariants as probed

-- what is known
abbrev pub IsReading : Bytes → Probed → Type 0
IsReading text probed.Whole = (t : FileSyntax) × HasTree text t
IsReading text probed.Never = NeverGoesOn text
IsReading text _ = Unit {0}

-- whether the fault stands at the place
abbrev pub is_at : ParserErrorWithLocation → Place → Bool
is_at e place = nat_eq e.line place.line && nat_eq e.col place.col

-- whether the fault says of the token at its place that no file has it behind those before it
abbrev pub stops : ParserError → Bool
stops error.IncorrectInput = true
stops error.ExpectConstant = true
stops error.LabelNotAllowed = true
stops error.LabelRequired = true
stops error.GroupNameShouldStartWithUpperCase = true
stops error.MapFieldNotAllowed = true
stops error.OneOfInGroup = true
stops error.OnlyFieldsInGroup = true
stops _ = false

-- what the fault tells of a text with that end
abbrev pub reading_at : ParserErrorWithLocation → (end : Place) → Probed
reading_at e end = if is_at e end then probed.Open
    else (if stops e.error then probed.Never else probed.Other)

-- a text that goes on with more, and has a tree where it says so
pub record IsLonger (text : Bytes) (longer : Longer) : Type 0 where
  pub more : Bytes
  pub is : string_bytes longer.text ≡ text ++ more
  pub whole : longer.is_whole ≡ true → (t : FileSyntax) × HasTree (string_bytes longer.text) t
