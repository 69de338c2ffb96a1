-- `split` gives the parts, and `all` tests each.
use Rattle.std.proofs.Common.{rules, lit<}
use Rattle.std.proofs.lemmas.Iterator.Search.{all_from_yields_List}
use Rattle.std.proofs.lemmas.Iterator.Splits.{YieldsList-from_str_split}
use Rattle.protobuf_parse_base.specs.Names.{is_ident}
use Rattle.protobuf_parse_base.proofs.names.dots.parts_are_idents.Goals as goal

pub returns : goal.returns
returns c = all_from_yields_List is_ident _ _ _ c.all.ensures.ran
    (YieldsList-from_str_split 46 c.args.text.now
    (lit< tt) c.split.ensures.text c.split.ensures.has_more c.split.ensures.pattern)
    (λ x b q k. search rules)
