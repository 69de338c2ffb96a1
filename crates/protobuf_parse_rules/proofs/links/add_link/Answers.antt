use Rattle.std.proofs.Common.{◌∙◌, ap, cond, true}
use Rattle.std.specs.Prelude.{◌&&◌, bytes_eq}
use Rattle.std.specs.BTreeMap.{is_at}
use Rattle.protobuf_parse_rules.specs.KnownUses.{has_link, keyed_link, keyed_link_cmp}
use Rattle.protobuf_parse_rules.proofs.Linking.{cond_or, same_keyed}
use Rattle.protobuf_parse_rules.proofs.links.add_link.Goals as goal

pub returns : goal.returns
returns c = λ k.
    let old = has_link c.args.links.now k in
    c.in_ok-insert.ensures.updates.0 (keyed_link k)
    ∙ ap (λ x. cond (is_at (keyed_link_cmp x) (keyed_link k)) true old) c.keyed_link.ensures
    ∙ ap (λ b. cond b true old) (same_keyed (c.args.from, c.args.to) k)
    ∙ cond_or (bytes_eq c.args.from.now k.0.now && bytes_eq c.args.to.now k.1.now) old
