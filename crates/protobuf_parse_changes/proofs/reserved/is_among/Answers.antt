use Rattle.std.proofs.Common.{◌∙◌, String, bytes_eq, string_bytes, rules, tests}
use Rattle.std.specs.Global.{Global}
use Rattle.std.proofs.lemmas.Iterator.{YieldsList-from_slice}
use Rattle.std.proofs.lemmas.Iterator.Search.{any_from_yields_List}
use Rattle.protobuf_parse_changes.proofs.Lists.{list_any_map}
use Rattle.protobuf_parse_changes.proofs.reserved.is_among.Goals as goal

pub returns : goal.returns
returns c =
    let test = bytes_eq c.args.name.now in
    any_from_yields_List (λ (s : String Global). test (string_bytes s)) _ _ _ c.any.ensures.ran
    (YieldsList-from_slice c.args.names.now (cc)) (λ x b q k. search (rules, tests))
    ∙ list_any_map string_bytes test c.args.names.now
