use Rattle.std.proofs.Common.{◌∙◌, ap, sym}
use Rattle.std.specs.Prelude.{◌||◌}
use Rattle.std.specs.BTreeMap.{is_at}
use Rattle.std.specs.List.{list_any}
use Rattle.protobuf_parse_rules.specs.Imports.{body_names}
use Rattle.protobuf_parse_rules.specs.KnownUses.{keyed_link, keyed_link_cmp}
use Rattle.protobuf_parse_rules.specs.BodyViews.{body_view}
use Rattle.protobuf_parse_rules.proofs.Lists.{any_one_more}
use Rattle.protobuf_parse_rules.proofs.links.links_of.Goals as goal

pub bodies-init : goal.bodies-init
bodies-init c = λ all knows k.
    ap (λ ks. list_any (is_at (keyed_link_cmp (keyed_link k))) ks) c.new-links.ensures.empty

pub bodies-preserved : goal.bodies-preserved
bodies-preserved c = λ all knows k.
    let test = body_names all k.0.now k.1.now in
    c.in_ok-add_body.ensures all knows k
    ∙ ap (λ b. b || test (body_view c.body-item.result)) (c.bodies.invariant all knows k)
    ∙ sym (any_one_more test body_view c.args.bodies.now c.bodies.body-index c.body-item.result
    c.bodies-test.true c.body-item.is)
