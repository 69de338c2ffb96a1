use Rattle.std.proofs.lemmas.Iterator.Consumers.{map_from_collect}
use Rattle.std.proofs.lemmas.Iterator.Splits.{YieldsList-from_str_split}
use Rattle.std.proofs.Common.{lit<}
use Rattle.protobuf_parse_base.proofs.NameTexts.{nonempty-from_test, relative-parts}
use Rattle.protobuf_parse_model.proofs.scope.declare.identifiers.Goals as goal

pub returns : goal.returns
returns c =
    let name = c.args.name.now in
    let split = YieldsList-from_str_split 46 name
    (lit< tt) c.split.ensures.text c.split.ensures.has_more c.split.ensures.pattern in
    rw (relative-parts name (nonempty-from_test name c.if-is_empty.ensures))
    (map_from_collect _ c.collect.ensures.ran split)
