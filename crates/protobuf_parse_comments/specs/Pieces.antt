-- The pieces of a gap, from its bytes.
use Rattle.std.specs.Prelude.{ℕ, zero, suc, ◌+◌, ◌==◌, ◌&&◌, ◌||◌, if◌then◌else◌, Bool, true, false}
use Rattle.std.specs.Prelude.{not, List, [], ◌∷◌, take, drop, slice_index}
use Rattle.protobuf_parse_comments.specs.Gaps.{Bytes, Piece, Divided, block, divide, divide_first}
use Rattle.protobuf_parse_comments.specs.Gaps.{feed, line}

-- how many bytes stand up to the first line feed and with it
abbrev pub line_len : Bytes → ℕ
line_len [] = 0
line_len (b ∷ z) = if b == 10 then 1 else suc (line_len z)

-- how many bytes stand before the first `*/`
abbrev pub block_len : Bytes → ℕ
block_len [] = 0
block_len (b ∷ z) = if b == 42 && slice_index z 0 == 47 then 0 else suc (block_len z)

-- space, tab, carriage return, vertical tab, form feed
abbrev pub is_blank : ℕ → Bool
is_blank b = b == 32 || b == 9 || b == 13 || b == 11 || b == 12

-- Whether a byte of a block comment is said. Of each line but the first the blanks at its front are
-- not, nor one `*` behind them: there the first argument is true.
abbrev pub is_said : Bool → ℕ → Bool
is_said true b = b == 10 || not (is_blank b || b == 42)
is_said false b = true

-- whether the next byte stands there too
abbrev pub stays_front : Bool → ℕ → Bool
stays_front true b = b == 10 || is_blank b
stays_front false b = b == 10

-- what is said of these bytes
abbrev pub said : Bool → Bytes → Bytes
said front [] = []
said front (b ∷ z) =
    if is_said front b then b ∷ said (stays_front front b) z else said (stays_front front b) z

-- what a block comment says that has this between its marks
abbrev pub block_text : Bytes → Bytes
block_text inner = said false inner

-- the pieces behind so many bytes, which a piece before took
abbrev pub pieces_behind : ℕ → Bytes → List Piece
pieces_behind n [] = []
pieces_behind (suc n) (b ∷ z) = pieces_behind n z
pieces_behind zero (b ∷ z) =
    if b == 10 then feed ∷ pieces_behind 0 z
    else (if b == 47 && slice_index z 0 == 47
    then line (take (line_len (drop 1 z)) (drop 1 z)) ∷ pieces_behind (line_len (drop 1 z) + 1) z
    else (if b == 47 && slice_index z 0 == 42
    then block (block_text (take (block_len (drop 1 z)) (drop 1 z)))
    ∷ pieces_behind (block_len (drop 1 z) + 3) z
    else pieces_behind 0 z))

-- the pieces of a gap
abbrev pub pieces : Bytes → List Piece
pieces z = pieces_behind 0 z

-- The comments of a gap, which is the first of the text or not, and which what stands behind it
-- closes or not.
abbrev pub comments_of : (first closes : Bool) → Bytes → Divided
comments_of true closes z = divide_first closes (pieces z)
comments_of false closes z = divide closes (pieces z)
