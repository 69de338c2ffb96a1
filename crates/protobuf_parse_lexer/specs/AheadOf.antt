-- No public clause rests on this file.
-- What lies ahead in a text, as a function.
use Rattle.std.specs.Prelude.{ℕ, zero, suc, if◌then◌else◌, length, take, drop}
use Rattle.protobuf_parse_lexer.specs.Ahead.{nowhere, deepens, counted, in_front, ends_at}
use Rattle.protobuf_parse_lexer.specs.Cut.{Stream}
use Rattle.protobuf_parse_lexer.specs.Place.{after}
use Rattle.protobuf_parse_lexer.specs.Text.{Bytes}
use Rattle.protobuf_parse_lexer.specs.Tokens.{is_opening, is_closing}
use Rattle.protobuf_parse_lexer.specs.Total.{total}
use Rattle.protobuf_parse_lexer.specs.declared.lexer.front.Piece.{Piece}
use Rattle.protobuf_parse_lexer.specs.declared.lexer.front.Piece.TheVariants as piece
use Rattle.protobuf_parse_lexer.specs.declared.lexer.token.Place.{Place}

-- what lies ahead where this piece stands at the front, with what lies ahead of other texts
abbrev pub from_piece : (ℕ → ℕ → Place → Bytes → Stream) → ℕ → ℕ → Place → Bytes → Piece → Stream
from_piece more o c p z piece.End = ends_at p
from_piece more o c p z (piece.Blank n) = more o c (after p (take n z)) (drop n z)
from_piece more o c p z (piece.Token n k) =
    if deepens o c k then ends_at nowhere
    else in_front (record { kind = k; text = take n z; place = p })
    (more (counted (is_opening k) o) (counted (is_closing k) c) (after p (take n z)) (drop n z))
from_piece more o c p z (piece.Fault e) = ends_at nowhere

-- the same of texts of less than so many bytes
unfoldable pub ahead_within : ℕ → ℕ → ℕ → Place → Bytes → Stream
ahead_within zero o c p z = ends_at nowhere
ahead_within (suc n) o c p z = from_piece (ahead_within n) o c p z (total z).0

-- What lies ahead in the text z, which begins at the place p, where o brackets were opened before
-- it and c closed.
unfoldable pub ahead : ℕ → ℕ → Place → Bytes → Stream
ahead o c p z = ahead_within (suc (length z)) o c p z
