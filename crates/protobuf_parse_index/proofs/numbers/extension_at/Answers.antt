use mir.Syntax.{w128}
use Rattle.std.proofs.Common.{ℤ, ℕ, ◌∙◌, ap, sym, rules}
use Rattle.std.specs.BTreeMap.{BTreeMap, get}
use Rattle.std.specs.Int.RustNames.{FitsSigned}
use Rattle.std.specs.Option.{option_and_then, option_copied}
use Rattle.std.specs.Ordering.{int_cmp}
use Rattle.std.proofs.lemmas.Int.{to_z-of_z}
use Rattle.protobuf_parse_index.proofs.numbers.extension_at.Goals as goal

pub returns-in-Some : goal.returns-in-Some
returns-in-Some c =
    let fits : FitsSigned w128 c.args.number = search rules in
    c.copied.ensures ∙ c.get-in-Some.ensures.value
    ∙ ap (get int_cmp c.in-Some.inside.now) (to_z-of_z w128 c.args.number fits)
    ∙ ap (option_and_then (λ (inside : BTreeMap ℤ ℕ). get int_cmp inside c.args.number))
    (ap option_copied (sym c.in-Some.is) ∙ c.get.ensures.value)
