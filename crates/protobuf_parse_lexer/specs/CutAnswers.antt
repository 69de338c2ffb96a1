-- No public clause rests on this file.
-- What a cut of a text answers before its nesting is looked at.
use Rattle.std.specs.Prelude.{◌≡◌, ◌⊎◌, List, [], map, Result, MatchResult}
use Rattle.protobuf_parse_lexer.specs.Text.{Bytes, IsFault}
use Rattle.protobuf_parse_lexer.specs.Tokens.{Lexeme, lexeme}
use Rattle.protobuf_parse_lexer.specs.declared.error.ParserErrorWithLocation.{ParserErrorWithLocation}
use Rattle.protobuf_parse_lexer.specs.declared.lexer.token.TokenStream.{TokenStream}
use Rattle.protobuf_parse_lexer.specs.Cut.{Cuts, error_place, out_of_memory}

-- what a cut gives, of which the nesting is not looked at: a whole cut, want of memory, or a cut up
-- to a fault
abbrev pub Answers : Bytes → Result TokenStream ParserErrorWithLocation → Type 0
Answers text r =
    MatchResult r (λ s. Cuts text (map lexeme s.tokens.items) s.end [])
    (λ e. (e ≡ out_of_memory)
    ⊎ ((ts : List Lexeme) × (rest : Bytes) × Cuts text ts (error_place e) rest
    × IsFault rest e.error))
