use Rattle.std.proofs.Common.{◌≡◌, ◌∙◌, ◌+◌, IfOk, List, ap, drop, map, subst, sym}
use Rattle.protobuf_parse_comments.specs.Gaps.{Divided, Piece}
use Rattle.protobuf_parse_comments.specs.Machine.{Doing, begin, finished, steps}
use Rattle.protobuf_parse_comments.specs.InnerViews.{divider_view, piece_view}
use Rattle.protobuf_parse_comments.specs.Views.{comments_view}
use Rattle.protobuf_parse_comments.proofs.Items.{left_at, left_none}
use Rattle.protobuf_parse_comments.proofs.Machines.{all_steps}
use Rattle.protobuf_parse_comments.proofs.divide.divided.Goals as goal

pub loop-piece-preserved : goal.loop-piece-preserved
loop-piece-preserved c =
    let i = c.loop-piece.piece-index in
    let ps = c.args.pieces.now in
    ap (λ (d : Doing). steps d (map piece_view (drop (i + 1) ps))) c.in_ok-see.ensures
    ∙ ap (steps (divider_view c.loop-piece.divider))
    (sym (left_at piece_view ps i _ c.loop-piece-test.true))
    ∙ c.loop-piece.invariant

pub returns : goal.returns
returns c =
    let ps : List Piece = map piece_view c.args.pieces.now in
    let none = left_none piece_view c.args.pieces.now c.loop-piece.piece-index
    c.loop-piece-test.false in
    let whole : divider_view c.loop-piece.divider ≡ steps (begin c.args.may_trail) ps =
    ap (steps (divider_view c.loop-piece.divider)) (sym none) ∙ c.loop-piece.invariant in
    subst (λ (x : Divided). IfOk c.finish.result (λ r. comments_view r ≡ x))
    (ap (finished c.args.is_closed) whole ∙ all_steps c.args.is_closed c.args.may_trail ps)
    c.finish.ensures
