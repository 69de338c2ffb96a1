use Rattle.std.proofs.Common.{◌≡◌, ◌<◌, ◌++◌, List, [], ◌∷◌, length, map, refl, sym, ap, ◌∙◌}
use Rattle.std.proofs.Common.{append-nil, arith, string_bytes}
use Rattle.protobuf_parse_model.specs.Descriptors.{Text}
use Rattle.protobuf_parse_rules.specs.Findings.{site_of}
use Rattle.protobuf_parse_rules.specs.Repeats.{repeats}
use Rattle.protobuf_parse_rules.specs.Rules.{Site, breaches_told}
use Rattle.protobuf_parse_rules.specs.declared.rule.Rule.{Rule}
use Rattle.protobuf_parse_rules.proofs.repeats.check_repeats.Goals as goal

-- fewer than two texts differ
few_repeat : {X : Type 0} (rule : Rule) (site : Site) (text : X → Text) (xs : List X)
    → length xs < 2 → repeats rule site (map text xs) ≡ []
few_repeat rule site text [] h = refl
few_repeat rule site text (x ∷ []) h = refl
few_repeat rule site text (x ∷ y ∷ zs) h = absurd (omega arith)

pub returns-in-empty : goal.returns-in-empty
returns-in-empty c =
    let told = breaches_told c.args.told.now in
    sym (append-nil told)
    ∙ ap (λ bs. told ++ bs)
    (sym (few_repeat c.args.rule (site_of c.args.at) string_bytes c.args.texts.now
    c.in-empty.len_below))
