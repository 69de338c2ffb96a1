use Rattle.std.proofs.Common.{◌∙◌, ap, ◌++◌, ◌∷◌, []}
use Rattle.protobuf_parse_load.proofs.Learning.{learned}
use Rattle.protobuf_parse_load.proofs.known.KnownSteps.push.Goals as goal

pub invariant_of-self-2 : goal.invariant_of-self-2
invariant_of-self-2 c =
    learned c.self.inside.paths c.learn.new.paths c.self.inside.steps.items _ c.args.step
    c.self.invariant c.in_ok-learn.ensures.ok
    (c.push_reserved.ensures.items ∙ ap (λ es. es ++ c.args.step ∷ []) c.reserve.ensures.items)
