-- `split` gives the parts, and `all` tests each.
use Rattle.std.proofs.Common.{rules, lit<}
use Rattle.std.proofs.lemmas.Iterator.Search.{all_from_yields_List}
use Rattle.std.proofs.lemmas.Iterator.Splits.{YieldsList-from_str_split}
use Rattle.protobuf_parse_set_rules.specs.Names.{is_identifier}
use Rattle.protobuf_parse_set_rules.proofs.names.is_package.Goals as goal

pub returns : goal.returns
returns c = all_from_yields_List is_identifier _ _ _ c.all.ensures.ran
    (YieldsList-from_str_split 46 c.args.name.now
    (lit< tt) c.split.ensures.text c.split.ensures.has_more c.split.ensures.pattern)
    (λ x b q k. search rules)
