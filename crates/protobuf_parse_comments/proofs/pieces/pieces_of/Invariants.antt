use Rattle.std.proofs.Common.{◌≡◌, ◌++◌, length, map}
use Rattle.protobuf_parse_comments.specs.Pieces.{pieces}
use Rattle.protobuf_parse_comments.specs.InnerViews.{piece_view}
use Rattle.protobuf_parse_comments.proofs.pieces.pieces_of.Given as goal

abbrev pub invariant-gap : goal.invariant-gap
invariant-gap l = map piece_view l.pieces.items ++ pieces l.rest ≡ pieces l.gap

abbrev pub decreases-gap : goal.decreases-gap
decreases-gap l = length l.rest
