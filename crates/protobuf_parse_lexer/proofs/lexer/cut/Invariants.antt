use Rattle.std.proofs.Common.{◌≤◌, ◌+◌, List, length, map, ◌++◌}
use denote.Text.{Utf8}
use denote.Shadow.{shadow}
use Rattle.protobuf_parse_lexer.specs.Text.{Bytes}
use Rattle.protobuf_parse_lexer.specs.Tokens.{Lexeme, lexeme}
use Rattle.protobuf_parse_lexer.specs.Cut.{Cut, Cuts}
use Rattle.protobuf_parse_lexer.specs.declared.lexer.token.Place.{Place}
use Rattle.protobuf_parse_lexer.proofs.lexer.cut.Given as goal

-- the rest goes on as the text does after the tokens so far
abbrev pub invariant-loop-tokens : goal.invariant-loop-tokens
invariant-loop-tokens l =
    shadow (Utf8 l.rest)
    × (l.place.line + length l.rest ≤ 2147483648)
    × (l.place.col + length l.rest ≤ 2147483648)
    × ((ts : List Lexeme) (q : Place) (r : Bytes) → Cut l.place l.rest ts q r
    → Cuts l.text (map lexeme l.tokens.items ++ ts) q r)

abbrev pub decreases-loop-tokens : goal.decreases-loop-tokens
decreases-loop-tokens l = length l.rest
