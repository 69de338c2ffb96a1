-- What lies ahead in a text: its tokens up to its end, to a fault, or to the bracket with which it
-- nests too deep.
use Rattle.std.specs.Prelude.{◌≡◌, ℕ, ◌+◌, Bool, true, false, ◌&&◌, nat_lt, if◌then◌else◌, [], ◌∷◌}
use Rattle.std.specs.Prelude.{length, take, drop}
use Rattle.protobuf_parse_lexer.specs.Cut.{Stream}
use Rattle.protobuf_parse_lexer.specs.Place.{after}
use Rattle.protobuf_parse_lexer.specs.Text.{Bytes, IsBlank, IsToken, IsFault}
use Rattle.protobuf_parse_lexer.specs.Tokens.{Lexeme, is_opening, is_closing}
use Rattle.protobuf_parse_lexer.specs.declared.error.ParserError.{ParserError}
use Rattle.protobuf_parse_lexer.specs.declared.lexer.token.Place.{Place}
use Rattle.protobuf_parse_lexer.specs.declared.lexer.token.TokenKind.{TokenKind}

-- the place of the end where the tokens do not go on to the text's end
abbrev pub nowhere : Place
nowhere = record { line = 0; col = 0 }

-- behind this token, before which o brackets are opened and c closed, over 100 are open
abbrev pub deepens : ℕ → ℕ → TokenKind → Bool
deepens o c k = is_opening k && nat_lt (c + 100) (o + 1)

-- one more, if the token is so
abbrev pub counted : Bool → ℕ → ℕ
counted b n = if b then n + 1 else n

-- a token, and then those
abbrev pub in_front : Lexeme → Stream → Stream
in_front t s = record { tokens = t ∷ s.tokens; end = s.end }

-- those behind the first
abbrev pub behind : Stream → Stream
behind s = record { tokens = drop 1 s.tokens; end = s.end }

-- no tokens before the end there
abbrev pub ends_at : Place → Stream
ends_at p = record { tokens = []; end = p }

-- The tokens of the stream lie ahead in the text z, which begins at the place p, where o brackets
-- were opened before it and c closed.
pub data AheadIn : ℕ → ℕ → Place → Bytes → Stream → Type 0 where
  at_end : {o c : ℕ} {p : Place} {z : Bytes} → length z ≡ 0 → AheadIn o c p z (ends_at p)
  past_blank :
      {o c : ℕ} {p : Place} {z : Bytes} {s : Stream} (n : ℕ) → IsBlank z n →
      AheadIn o c (after p (take n z)) (drop n z) s → AheadIn o c p z s
  past_token :
      {o c : ℕ} {p : Place} {z : Bytes} {s : Stream} (n : ℕ) (k : TokenKind) → IsToken z n k →
      deepens o c k ≡ false →
      AheadIn (counted (is_opening k) o) (counted (is_closing k) c) (after p (take n z)) (drop n z)
      s → AheadIn o c p z (in_front (record { kind = k; text = take n z; place = p }) s)
  at_bracket :
      {o c : ℕ} {p : Place} {z : Bytes} (n : ℕ) (k : TokenKind) → IsToken z n k →
      deepens o c k ≡ true → AheadIn o c p z (ends_at nowhere)
  at_fault :
      {o c : ℕ} {p : Place} {z : Bytes} (e : ParserError) → IsFault z e →
      AheadIn o c p z (ends_at nowhere)
