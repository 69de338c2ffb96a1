use mir.Syntax.{w128}
use Rattle.std.proofs.Common.{ℤ, Some, None, cond, ◌∙◌, ap, arith, rules}
use Rattle.std.specs.BTreeMap.{get}
use Rattle.std.specs.Int.RustNames.{FitsSigned}
use Rattle.std.specs.Option.{option_or}
use Rattle.std.specs.Ordering.{int_cmp, int_eq}
use Rattle.std.specs.Prelude.{unwrap_or}
use Rattle.std.proofs.lemmas.Int.{to_z-of_z}
use Rattle.std.proofs.lemmas.Map.Text.{text_keys}
use Rattle.protobuf_parse_index.proofs.Putting.{extended_put}
use Rattle.protobuf_parse_index.proofs.numbers.put_extended.Goals as goal

pub returns : goal.returns
returns c = λ q n.
    let w = c.put_number.new.numbers in
    let fits : FitsSigned w128 c.args.number = search rules in
    extended_put c.args.numbers.now c.in_ok-key.key _ q n c.or_insert-inside.result.now w
    c.new.result c.args.number c.args.at _ c.in_ok-key.ensures.cases c.new.ensures.empty
    (grind (arith, text_keys))
    (c.or_insert-inside.ensures.value
    ∙ ap (λ o. unwrap_or o c.new.result) c.in_ok-numbers.ensures.value)
    (λ p. c.in_ok-put_number.ensures p
    ∙ ap (λ (m : ℤ). option_or (get int_cmp c.or_insert-inside.result.now p)
    (cond (int_eq p m) (Some c.args.at) None)) (to_z-of_z w128 c.args.number fits))
