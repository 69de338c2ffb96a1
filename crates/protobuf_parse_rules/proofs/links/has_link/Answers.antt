use Rattle.std.proofs.Common.{◌∙◌, ap}
use Rattle.std.specs.BTreeSet.{contains}
use Rattle.protobuf_parse_rules.specs.KnownUses.{keyed_link_cmp}
use Rattle.protobuf_parse_rules.proofs.links.has_link.Goals as goal

pub returns : goal.returns
returns c = λ test is. c.contains.ensures
    ∙ ap (contains keyed_link_cmp c.args.links.now) c.keyed_link.ensures
    ∙ is (c.args.from, c.args.to)
