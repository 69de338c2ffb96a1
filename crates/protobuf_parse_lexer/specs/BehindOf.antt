-- No public clause rests on this file.
-- How many bytes stand behind each token that lies ahead, as a function.
use Rattle.std.specs.Prelude.{ℕ, zero, suc, List, [], ◌∷◌, if◌then◌else◌, length, drop}
use Rattle.std.specs.Prelude.{Option, Some, None}
use Rattle.protobuf_parse_lexer.specs.Ahead.{deepens, counted}
use Rattle.protobuf_parse_lexer.specs.Text.{Bytes}
use Rattle.protobuf_parse_lexer.specs.Tokens.{is_opening, is_closing}
use Rattle.protobuf_parse_lexer.specs.Total.{total}
use Rattle.protobuf_parse_lexer.specs.declared.lexer.front.Piece.{Piece}
use Rattle.protobuf_parse_lexer.specs.declared.lexer.front.Piece.TheVariants as piece

-- where this piece stands at the front, with those of other texts
abbrev pub behind_piece : (ℕ → ℕ → Bytes → List ℕ) → ℕ → ℕ → Bytes → Piece → List ℕ
behind_piece more o c z piece.End = []
behind_piece more o c z (piece.Blank n) = more o c (drop n z)
behind_piece more o c z (piece.Token n k) =
    if deepens o c k then []
    else (length (drop n z)
    ∷ more (counted (is_opening k) o) (counted (is_closing k) c) (drop n z))
behind_piece more o c z (piece.Fault e) = []

-- the same of texts of less than so many bytes
unfoldable pub behind_within : ℕ → ℕ → ℕ → Bytes → List ℕ
behind_within zero o c z = []
behind_within (suc n) o c z = behind_piece (behind_within n) o c z (total z).0

-- Behind each token that lies ahead in the text, where o brackets were opened before it and c
-- closed.
unfoldable pub behinds : ℕ → ℕ → Bytes → List ℕ
behinds o c z = behind_within (suc (length z)) o c z
