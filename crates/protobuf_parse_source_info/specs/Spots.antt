-- The tokens of a text, each with the points where it begins and where it ends.
use Rattle.std.specs.Prelude.{◌≡◌, ℕ, ◌-◌, List, [], ◌∷◌, length, take, drop}
use Rattle.protobuf_parse_comments.specs.BytePlaces.{after}
use Rattle.protobuf_parse_comments.specs.declared.place.BytePlace.{BytePlace}
use Rattle.protobuf_parse_lexer.specs.Behind.{BehindIn}
use Rattle.protobuf_parse_lexer.specs.Cut.{Stream, HasTokens, mark_len}
use Rattle.protobuf_parse_lexer.specs.Text.{Bytes}
use Rattle.protobuf_parse_lexer.specs.Tokens.{Lexeme}
use Rattle.protobuf_parse_source_info.specs.declared.token.Point.{Point}

-- the place of a text's first byte, and of its mark, if it has one
abbrev pub start : BytePlace
start = record { line = 0; column = 0 }

-- the point before which so many bytes of the text stand
abbrev pub point : Bytes → ℕ → Point
point text n = record { byte = n; place = after start (take n text) }

-- a token: its text, where it begins, and where it ends
pub record Spot : Type 0 where
  pub text : Bytes
  pub from : Point
  pub to : Point

-- a token of the text behind which so many bytes stand
abbrev pub spot_in : Bytes → Lexeme → ℕ → Spot
spot_in text t n = record {
  text = t.text;
  from = point text (length text - n - length t.text);
  to = point text (length text - n);
}

-- tokens of the text, by how many bytes stand behind each
abbrev pub spots_in : Bytes → List Lexeme → List ℕ → List Spot
spots_in text [] ns = []
spots_in text (t ∷ ts) [] = []
spots_in text (t ∷ ts) (n ∷ ns) = spot_in text t n ∷ spots_in text ts ns

-- the text has these tokens
abbrev pub HasSpots : Bytes → List Spot → Type 0
HasSpots text spots =
    (s : Stream) × (ns : List ℕ) × HasTokens text s
    × BehindIn 0 0 (drop (mark_len text) text) ns × (spots ≡ spots_in text s.tokens ns)

-- Of a text with tokens there is just one such list.
abbrev pub HasOneListOfSpots : Type 0
HasOneListOfSpots =
    (text : Bytes) (s : Stream) → HasTokens text s →
    (spots : List Spot) × HasSpots text spots
    × ((others : List Spot) → HasSpots text others → others ≡ spots)
