-- No public clause rests on this file.
-- Pieces, and what a loop knows of them, without where they lie in memory.
use Rattle.std.specs.Prelude.{map, option_map}
use Rattle.protobuf_parse_comments.specs.Gaps.{Piece, block, feed, line}
use Rattle.protobuf_parse_comments.specs.Machine.{Doing}
use Rattle.protobuf_parse_comments.specs.Pieces.{block_text}
use Rattle.protobuf_parse_comments.specs.Views.{comment_bytes}
use Rattle.protobuf_parse_comments.specs.declared.divide.Divider.{Divider}
use Rattle.protobuf_parse_comments.specs.declared.pieces.Piece as code
use Rattle.protobuf_parse_comments.specs.declared.pieces.Piece.TheVariants as piece

-- a piece: a block comment is what it says
abbrev pub piece_view : code.Piece → Piece
piece_view (piece.Line t) = line t.now
piece_view (piece.Block t) = block (block_text t.now)
piece_view piece.Feed = feed

-- what is known of the pieces so far
abbrev pub divider_view : Divider → Doing
divider_view d = record {
  trailing = option_map comment_bytes d.trailing;
  detached = map comment_bytes d.detached.items;
  may_trail = d.may_trail;
  pending = d.pending;
  text = comment_bytes d.text;
}
