-- Whose the comments between two tokens are, without any state.
use Rattle.std.specs.Prelude.{ℕ, List, [], ◌∷◌, ◌++◌, Option, Some, None, Bool, true, false}

-- a text as its bytes
abbrev pub Bytes : Type 0
Bytes = List ℕ

-- what stands between two tokens: a line comment with its line feed, a block comment, a line feed
-- outside of comments; other blanks are nothing
pub data Piece : Type 0 where
  line : Bytes → Piece
  block : Bytes → Piece
  feed : Piece

-- a line comment in front of others
abbrev pub line_before : Bytes → List Piece → List Piece
line_before t (line u ∷ ps) = line (t ++ u) ∷ ps
line_before t [] = line t ∷ []
line_before t (block u ∷ ps) = line t ∷ block u ∷ ps
line_before t (feed ∷ ps) = line t ∷ feed ∷ ps

-- neighbouring line comments are one
abbrev pub joined : List Piece → List Piece
joined [] = []
joined (line t ∷ ps) = line_before t (joined ps)
joined (block t ∷ ps) = block t ∷ joined ps
joined (feed ∷ ps) = feed ∷ joined ps

-- the comments, and None for each blank line: a line feed, but not the one behind a block comment
abbrev pub marks : List Piece → List (Option Bytes)
marks [] = []
marks (line t ∷ ps) = Some t ∷ marks ps
marks (block t ∷ feed ∷ ps) = Some t ∷ marks ps
marks (block t ∷ []) = Some t ∷ []
marks (block t ∷ line u ∷ ps) = Some t ∷ Some u ∷ marks ps
marks (block t ∷ block u ∷ ps) = Some t ∷ marks (block u ∷ ps)
marks (feed ∷ ps) = None ∷ marks ps

-- the comments of the token before, of nobody, and of the token behind
pub record Divided : Type 0 where
  pub trailing : Option Bytes
  pub detached : List Bytes
  pub leading : Option Bytes

-- the last mark, unless what stands behind the gap closes it
abbrev pub open_of : Bool → List (Option Bytes) → Option Bytes
open_of closes [] = None
open_of true (m ∷ []) = None
open_of false (m ∷ []) = m
open_of closes (m ∷ n ∷ ms) = open_of closes (n ∷ ms)

-- those that another comment, a blank line or what stands behind the gap closes
abbrev pub closed_of : Bool → List (Option Bytes) → List (Option Bytes)
closed_of closes [] = []
closed_of true (m ∷ []) = m ∷ []
closed_of false (m ∷ []) = []
closed_of closes (m ∷ n ∷ ms) = m ∷ closed_of closes (n ∷ ms)

-- the comments among marks
abbrev pub comments_in : List (Option Bytes) → List Bytes
comments_in [] = []
comments_in (None ∷ ms) = comments_in ms
comments_in (Some t ∷ ms) = t ∷ comments_in ms

-- these closed marks and that open one: the first mark is the token's before, if it is a comment and
-- may be
abbrev pub shared : Bool → List (Option Bytes) → Option Bytes → Divided
shared true (Some t ∷ ms) last =
    record { trailing = Some t; detached = comments_in ms; leading = last }
shared _ ms last = record { trailing = None; detached = comments_in ms; leading = last }

-- The comments of these marks, where the first may be the token's before, and what stands behind the
-- gap closes the last, or not.
abbrev pub divided : Bool → Bool → List (Option Bytes) → Divided
divided may_trail closes ms = shared may_trail (closed_of closes ms) (open_of closes ms)

-- nobody has any
abbrev pub nothing : Divided
nothing = record { trailing = None; detached = []; leading = None }

-- of the gap at the front of a text
abbrev pub divide_first : Bool → List Piece → Divided
divide_first closes ps = divided false closes (marks (joined ps))

-- a comment on the line of the token before is that token's
abbrev pub with_trailing : Bytes → Divided → Divided
with_trailing t d = record { trailing = Some t; detached = d.detached; leading = d.leading }

-- of a gap behind a token: what stands on the token's line decides
abbrev pub divide : Bool → List Piece → Divided
divide closes (feed ∷ ps) = divided true closes (marks (joined ps))
divide closes (line t ∷ ps) = with_trailing t (divided false closes (marks (joined ps)))
divide closes (block t ∷ feed ∷ ps) = with_trailing t (divided false closes (marks (joined ps)))
divide closes _ = nothing
