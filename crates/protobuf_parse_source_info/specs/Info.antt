-- `SourceCodeInfo` of descriptor.proto: the locations of a text, with their comments.
use Rattle.std.specs.Prelude.{ℕ, ◌-◌, ◌==◌, ◌||◌, nat_le, Bool, List, [], ◌∷◌, ◌++◌, map, flat_map}
use Rattle.std.specs.Prelude.{Option, Some, None, take, drop, length, slice_index}
use Rattle.protobuf_parse_base.specs.Characters as char
use Rattle.protobuf_parse_comments.specs.Gaps.{Divided}
use Rattle.protobuf_parse_comments.specs.Pieces.{comments_of}
use Rattle.protobuf_parse_lexer.specs.Text.{Bytes}
use Rattle.protobuf_parse_syntax.specs.Trees.{OptionNameSyntax, FileSyntax}
use Rattle.protobuf_parse_source_info.specs.Spots.{Spot, point}
use Rattle.protobuf_parse_source_info.specs.Walks.{Path, Located, GapsAround}
use Rattle.protobuf_parse_source_info.specs.Files.{file_walk, whole}
use Rattle.protobuf_parse_source_info.specs.declared.found.Between.{Between}
use Rattle.protobuf_parse_source_info.specs.declared.info.Span.{Span}

-- A location: `path`, `span`, `leading_comments`, `trailing_comments`,
-- `leading_detached_comments`. Of an option it has the path of its options message, and its name.
pub record LocationSyntax : Type 0 where
  pub path : Path
  pub span : Span
  pub leading : Option Bytes
  pub trailing : Option Bytes
  pub detached : List Bytes
  pub option : Option OptionNameSyntax

-- ---- comments

-- `}`, `]` or `)`
abbrev pub is_closing : ℕ → Bool
is_closing b = b == char.close_brace || b == char.close_bracket || b == char.close_paren

-- a bracket that closes, or nothing, stands behind so many bytes
abbrev pub is_closed : Bytes → ℕ → Bool
is_closed text n = nat_le (length text) n || is_closing (slice_index text n)

-- the comments in the gap
abbrev pub comments_in : Bytes → Between → Divided
comments_in text g =
    comments_of (g.from == 0) (is_closed text g.to) (take (g.to - g.from) (drop g.from text))

-- a comment, unless it is empty
abbrev pub said : Option Bytes → Option Bytes
said None = None
said (Some []) = None
said (Some (b ∷ z)) = Some (b ∷ z)

-- A declaration is led by the last comment in the gap before it.
abbrev pub leading : Bytes → Option GapsAround → Option Bytes
leading text None = None
leading text (Some g) = said (comments_in text g.before).leading

-- It is trailed by the first one behind its head.
abbrev pub trailing : Bytes → Option GapsAround → Option Bytes
trailing text None = None
trailing text (Some g) = said (comments_in text g.behind).trailing

-- What is detached before it, or before the empty statements in front of it, is its too.
abbrev pub detached : Bytes → Option GapsAround → List Bytes
detached text None = []
detached text (Some g) =
    flat_map (λ e. (comments_in text e).detached) g.skipped ++ (comments_in text g.before).detached

-- ---- locations

-- a location, as it is told
abbrev pub location : Bytes → Located → LocationSyntax
location text l = record {
  path = l.path;
  span = record { start = l.from.place; end = l.to.place };
  leading = leading text l.gaps;
  trailing = trailing text l.gaps;
  detached = detached text l.gaps;
  option = l.option;
}

-- the locations of the text, of which these are the tokens, and which says that
abbrev pub info : Bytes → List Spot → FileSyntax → List LocationSyntax
info text spots tree =
    map (location text)
    (file_walk tree.statements (whole (point text (length text)) spots)).found
