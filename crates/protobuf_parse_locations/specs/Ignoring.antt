-- Comments that ask linters to ignore rules: a line `lint:ignore` with the words of the rules.
use Rattle.std.specs.Prelude.{ℕ, ◌==◌, ◌&&◌, ◌||◌, Bool, true, false, List, [], ◌∷◌, Option, Some}
use Rattle.std.specs.Prelude.{None, bytes_eq, codes, drop, filter, not}
use Rattle.std.specs.List.{list_any, slice_split}
use Rattle.protobuf_parse_lexer.specs.Text.{Bytes}
use Rattle.protobuf_parse_source_info.specs.Info.{LocationSyntax}

-- a space, a tab or a carriage return
abbrev pub is_blank : ℕ → Bool
is_blank b = b == 32 || b == 9 || b == 13

-- a line feed
abbrev pub is_feed : ℕ → Bool
is_feed b = b == 10

-- whether there are no bytes
abbrev pub is_empty : Bytes → Bool
is_empty [] = true
is_empty (b ∷ bs) = false

-- the words of a line: what stands between blanks
abbrev pub words_of : Bytes → List Bytes
words_of line = filter (λ (w : Bytes). not (is_empty w)) (slice_split is_blank line)

-- whether the first word is the one that asks
abbrev pub begin_with_ignore : List Bytes → Bool
begin_with_ignore [] = false
begin_with_ignore (first ∷ others) = bytes_eq first (codes "lint:ignore")

-- Whether a line asks to ignore the rule of the word: it is `lint:ignore`, and words of which one
-- is this.
abbrev pub line_asks : (word line : Bytes) → Bool
line_asks word line =
    begin_with_ignore (words_of line) && list_any (bytes_eq word) (drop 1 (words_of line))

-- whether a line of a comment does
abbrev pub comment_asks : (word comment : Bytes) → Bool
comment_asks word comment = list_any (line_asks word) (slice_split is_feed comment)

-- whether a comment that may be there does
abbrev pub any_asks : (word : Bytes) → Option Bytes → Bool
any_asks word None = false
any_asks word (Some comment) = comment_asks word comment

-- whether any of the comments of a declaration does
abbrev pub asks_to_ignore : (word : Bytes) → LocationSyntax → Bool
asks_to_ignore word l =
    any_asks word l.leading || any_asks word l.trailing || list_any (comment_asks word) l.detached
