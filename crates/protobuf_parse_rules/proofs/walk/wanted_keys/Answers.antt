use Rattle.std.proofs.Common.{List, ℕ, map, ap, ◌∙◌}
use Rattle.protobuf_parse_rules.specs.BodyViews.{body_view}
use Rattle.protobuf_parse_rules.specs.Wanted.{has_key}
use Rattle.protobuf_parse_rules.proofs.walk.wanted_keys.Goals as goal

pub returns : goal.returns
returns c = λ k.
    c.of.ensures k
    ∙ ap (λ (ks : List ℕ). has_key ks k)
    (c.in_ok-add_lite_keys.ensures (map body_view c.args.bodies.now) c.in_ok-files.ensures)
