use Rattle.std.proofs.Common.{◌≡◌, drop, map}
use Rattle.protobuf_parse_comments.specs.Machine.{begin, steps}
use Rattle.protobuf_parse_comments.specs.InnerViews.{divider_view, piece_view}
use Rattle.protobuf_parse_comments.proofs.divide.divided.Given as goal

-- What is still to see gives the whole.
abbrev pub invariant-loop-piece : goal.invariant-loop-piece
invariant-loop-piece l =
    steps (divider_view l.divider) (map piece_view (drop l.piece-index l.pieces))
    ≡ steps (begin l.may_trail) (map piece_view l.pieces)
