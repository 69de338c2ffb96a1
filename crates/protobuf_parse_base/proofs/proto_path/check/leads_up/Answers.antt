-- `split` gives the parts, and `any` tests each.
use Rattle.std.proofs.Common.{rules, lit<}
use Rattle.std.proofs.lemmas.Iterator.Search.{any_from_yields_List}
use Rattle.std.proofs.lemmas.Iterator.Splits.{YieldsList-from_str_split}
use Rattle.protobuf_parse_base.specs.Paths.{is_dot_dot}
use Rattle.protobuf_parse_base.proofs.proto_path.check.leads_up.Goals as goal

pub returns : goal.returns
returns c = any_from_yields_List is_dot_dot _ _ _ c.any.ensures.ran
    (YieldsList-from_str_split 47 c.args.text.now
    (lit< tt) c.split.ensures.text c.split.ensures.has_more c.split.ensures.pattern)
    (λ x b q k. search rules)
