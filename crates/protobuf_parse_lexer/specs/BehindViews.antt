-- How many bytes of its text stand behind each token that lies ahead of a tokenizer.
use Rattle.std.specs.Prelude.{◌≡◌, ℕ, List, [], ◌∷◌, length, Option, Some, None}
use Rattle.protobuf_parse_lexer.specs.Behind.{BehindIn}
use Rattle.protobuf_parse_lexer.specs.Text.{Bytes}
use Rattle.protobuf_parse_lexer.specs.declared.lexer.tokenizer.Brackets.{Brackets}
use Rattle.protobuf_parse_lexer.specs.declared.lexer.tokenizer.NextToken.{NextToken}
use Rattle.protobuf_parse_lexer.specs.declared.lexer.tokenizer.Tokenizer.{Tokenizer}

-- behind the next token, if there is one, stands what is left of the text, and behind the others
-- what stands behind them in that
abbrev pub StandBehind : Option NextToken → Brackets → Bytes → List ℕ → Type 0
StandBehind None b z ns = ns ≡ []
StandBehind (Some t) b z ns =
    (others : List ℕ) × BehindIn b.opened b.closed z others × (ns ≡ length z ∷ others)

-- so many bytes stand behind each token that lies ahead of the tokenizer
abbrev pub LiesBehind : Tokenizer → List ℕ → Type 0
LiesBehind t ns = StandBehind t.next t.brackets t.rest.now ns

-- Of each tokenizer there is one such list.
abbrev pub OneLiesBehind : Type 0
OneLiesBehind =
    (t : Tokenizer) → (ns : List ℕ) × LiesBehind t ns × ((ms : List ℕ) → LiesBehind t ms → ms ≡ ns)
