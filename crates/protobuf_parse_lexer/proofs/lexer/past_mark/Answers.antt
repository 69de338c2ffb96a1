use Rattle.std.proofs.Common.{arith, ap, get_or, length, List, ℕ}
use Rattle.protobuf_parse_lexer.proofs.Cuts.{mark_cut}
use Rattle.protobuf_parse_lexer.proofs.lexer.past_mark.Goals as goal

pub range_from-requires : goal.range_from-requires
range_from-requires c =
    let at = λ (i : ℕ). ap (λ (l : List ℕ). get_or l i 0) c.as_bytes-bytes.ensures.value in
    λ _. mark_cut c.args.text.now c.utf8.text (omega (arith, at 0)) (omega (arith, at 1))
    (omega (arith, at 2)) (omega (arith, ap length c.as_bytes-bytes.ensures.value))
