use Rattle.std.proofs.Common.{Some, None, Bool, Option, ap, sym, ◌∙◌}
use Rattle.std.specs.Prelude.{if◌then◌else◌}
use Rattle.protobuf_parse_rules.specs.Rules.{Broken, broken_by}
use Rattle.protobuf_parse_rules.specs.declared.rule.Rule.TheVariants as rule
use Rattle.protobuf_parse_rules.proofs.runtimes.of_lite_path.Goals as goal

pub returns-then-is_lite : goal.returns-then-is_lite
returns-then-is_lite c = λ s tells.
    let told : Option Broken = Some (broken_by rule.LiteImport c.args.path.now) in
    c.found_by.ensures
    ∙ ap (λ (b : Bool). if b then told else None)
    (sym c.if-is_lite.true ∙ c.is_lite.ensures s tells)

pub returns-else-is_lite : goal.returns-else-is_lite
returns-else-is_lite c = λ s tells.
    let told : Option Broken = Some (broken_by rule.LiteImport c.args.path.now) in
    ap (λ (b : Bool). if b then told else None)
    (sym c.if-is_lite.false ∙ c.is_lite.ensures s tells)
