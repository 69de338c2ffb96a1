use Rattle.std.proofs.Common.{Some, None, Bool, Option, Bor, ap, sym, ◌∙◌}
use Rattle.std.specs.Prelude.{if◌then◌else◌, option_and_then, option_map}
use Rattle.protobuf_parse_model.specs.Descriptors.{Text}
use Rattle.protobuf_parse_rules.specs.Rules.{Broken, broken_by}
use Rattle.protobuf_parse_rules.specs.Runtimes.{is_lite_path}
use Rattle.protobuf_parse_rules.specs.declared.rule.Rule.TheVariants as rule
use Rattle.protobuf_parse_rules.proofs.runtimes.lite_extendee.Goals as goal

pub returns-then-is_lite : goal.returns-then-is_lite
returns-then-is_lite c = λ s tells.
    let told : Option Broken = Some (broken_by rule.LiteExtension c.args.name.now) in
    let by : Option Text → Option Broken = option_and_then (λ (path : Text).
    if is_lite_path s.all path then None else told) in
    ap (λ (b : Bool). if b then None else told)
    (sym c.if-is_lite.true ∙ c.is_lite.ensures s tells)
    ∙ ap (λ (o : Option (Bor Text)). by (option_map (λ (path : Bor Text). path.now) o))
    (sym c.in-Some.is)
    ∙ ap by (c.file_of.ensures s tells)

pub returns-else-is_lite : goal.returns-else-is_lite
returns-else-is_lite c = λ s tells.
    let told : Option Broken = Some (broken_by rule.LiteExtension c.args.name.now) in
    let by : Option Text → Option Broken = option_and_then (λ (path : Text).
    if is_lite_path s.all path then None else told) in
    c.found_by.ensures
    ∙ ap (λ (b : Bool). if b then None else told)
    (sym c.if-is_lite.false ∙ c.is_lite.ensures s tells)
    ∙ ap (λ (o : Option (Bor Text)). by (option_map (λ (path : Bor Text). path.now) o))
    (sym c.in-Some.is)
    ∙ ap by (c.file_of.ensures s tells)
