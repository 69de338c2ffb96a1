-- Each turn writes the next piece.
use Rattle.std.specs.Prelude.{string_bytes}
use Rattle.std.proofs.Common.{ℕ, List, ◌++◌, map, take, ap, ◌∙◌, rules}
use Rattle.std.proofs.lemmas.Grind.{put_three}
use Rattle.protobuf_parse_syntax.specs.Formats.{piece_text, string_text}
use Rattle.protobuf_parse_syntax.proofs.Formats.{before_item, join-take, is_ok-from}
use Rattle.protobuf_parse_syntax.proofs.tree.constant.write_string.Goals as goal

pub loop-i-preserved : goal.loop-i-preserved
loop-i-preserved g c = λ plain.
    let before = c.loop-i.invariant plain in
    let between = c.write_between.ensures before.plain
    (is_ok-from c.write_between.result _ c.in_ok-write_between.was) in
    let piece = c.write_piece.ensures between.plain
    (is_ok-from c.write_piece.result _ c.in_ok-write_piece.was) in
    let pieces = c.args.string.now.pieces.items in
    put_three _ _ _ _ _ _ _ _ _ before between piece
    (ap (λ (t : List ℕ). string_text (map string_bytes (take c.loop-i.i pieces))
    ++ (before_item 32 c.loop-i.i ++ piece_text t)) c.as_str.ensures.value
    ∙ join-take piece_text string_bytes 32 pieces c.loop-i.i c.piece-item.result (search rules)
    (cc))
