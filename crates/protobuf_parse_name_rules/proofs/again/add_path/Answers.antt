use Rattle.std.proofs.Common.{◌∙◌, ap, cond, true}
use Rattle.std.specs.Prelude.{bytes_eq}
use Rattle.std.proofs.lemmas.List.Elements.{same_from_all_zip}
use Rattle.protobuf_parse_name_rules.specs.InnerViews.{has_path}
use Rattle.protobuf_parse_name_rules.specs.Options.{Path}
use Rattle.protobuf_parse_name_rules.proofs.Paths.{path_put}
use Rattle.protobuf_parse_name_rules.proofs.Sets.{cond_or}
use Rattle.protobuf_parse_name_rules.proofs.again.add_path.Goals as goal

pub returns : goal.returns
returns c = λ p.
    path_put c.in_ok-clone.field-0.items c.args.paths.now c.insert.new.self
    c.in_ok-insert.ensures.updates p
    ∙ ap (λ (q : Path). cond (bytes_eq q p) true (has_path c.args.paths.now p))
    (same_from_all_zip _ _ _ c.in_ok-clone.ensures.cases.0 (λ x y e. e))
    ∙ cond_or (bytes_eq c.args.path.now.items p) (has_path c.args.paths.now p)
