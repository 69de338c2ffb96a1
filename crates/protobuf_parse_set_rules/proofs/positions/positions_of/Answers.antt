use Rattle.std.proofs.Common.{◌∙◌, ℕ, List, [], ap, get_or, sym}
use Rattle.std.specs.Borrow.{Bor}
use Rattle.std.specs.Option.{option_or}
use Rattle.protobuf_parse_set_rules.proofs.Firsts.{at_text, one_more_text}
use Rattle.protobuf_parse_set_rules.proofs.positions.positions_of.Goals as goal

pub texts-preserved : goal.texts-preserved
texts-preserved c = λ other.
    let none : Bor (List ℕ) = record { ref_ptr = (0, 0); now = [] } in
    let text : List ℕ = (get_or c.args.texts.now c.texts.position none).now in
    c.in_ok-put.ensures other
    ∙ ap (λ o. option_or o (at_text text other c.texts.position)) (c.texts.invariant other)
    ∙ sym (one_more_text c.args.texts.now c.texts.position none other c.texts-test.true)
