-- Which tokens can stand behind the front of a text, by what a file is: the grammar of the Protocol
-- Buffers Language Specification (https://protobuf.dev) over the tokens of the text.
use Rattle.std.specs.Prelude.{List, [], ◌∷◌, ◌++◌, map}
use Rattle.std.specs.Borrow.{Bor}
use Rattle.protobuf_parse_lexer.specs.Cut.{HasTokens, Stream}
use Rattle.protobuf_parse_lexer.specs.Text.{Bytes}
use Rattle.protobuf_parse_lexer.specs.Tokens.{Lexeme}
use Rattle.protobuf_parse_syntax.specs.Grammar.{IsFile}
use Rattle.protobuf_parse_syntax.specs.Parsing.{HasTree}
use Rattle.protobuf_parse_syntax.specs.Trees.{FileSyntax}
use Rattle.protobuf_parse_expected.specs.declared.verdict.Verdict.{Verdict}
use Rattle.protobuf_parse_expected.specs.declared.verdict.Verdict.TheVariants as verdict

-- a front, and a token on a line of its own
abbrev pub behind : (front token : Bytes) → Bytes
behind front token = front ++ 10 ∷ token

-- A text that begins so is a file's.
abbrev pub GoesOn : Bytes → Type 0
GoesOn text = (more : Bytes) × (t : FileSyntax) × HasTree (text ++ more) t

-- No file's tokens begin with these.
abbrev pub NoFileBegins : List Lexeme → Type 0
NoFileBegins ts = (more : List Lexeme) (t : FileSyntax) → IsFile (ts ++ more) t → ⊥

-- The text has tokens, and no file's begin with them.
abbrev pub NeverGoesOn : Bytes → Type 0
NeverGoesOn text = (s : Stream) × HasTokens text s × NoFileBegins s.tokens

-- what a verdict says of a token behind a front
abbrev pub Tells : (front token : Bytes) → Verdict → Type 0
Tells front token verdict.Can = GoesOn (behind front token)
Tells front token verdict.Never = NeverGoesOn (behind front token)
Tells front token verdict.Unsure = Unit {0}

-- one verdict of each of these tokens, in order
abbrev pub AreTold : (front : Bytes) → (tokens : List Bytes) → List Verdict → Type 0
AreTold front [] [] = Unit {0}
AreTold front (w ∷ ws) (v ∷ vs) = Tells front w v × AreTold front ws vs
AreTold front _ _ = ⊥

-- the tokens' texts
abbrev pub texts_of : List (Bor Bytes) → List Bytes
texts_of tokens = map (λ (t : Bor Bytes). t.now) tokens
