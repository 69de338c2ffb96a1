use Rattle.std.proofs.Common.{◌∙◌, ℕ, Vec, rules, tests}
use Rattle.std.specs.Global.{Global}
use Rattle.std.proofs.lemmas.Iterator.{YieldsList-from_slice}
use Rattle.std.proofs.lemmas.Iterator.Search.{any_from_yields_List}
use Rattle.protobuf_parse_source_info.specs.Views.{comment_bytes}
use Rattle.protobuf_parse_locations.specs.Ignoring.{comment_asks}
use Rattle.protobuf_parse_locations.proofs.Words.{list_any_map}
use Rattle.protobuf_parse_locations.proofs.ignoring.have_asking.Goals as goal

pub returns : goal.returns
returns c =
    let test = comment_asks c.args.word.now in
    any_from_yields_List (λ (v : Vec ℕ Global). test (comment_bytes v)) _ _ _ c.any.ensures.ran
    (YieldsList-from_slice c.args.comments.now (cc)) (λ x b q k. search (rules, tests))
    ∙ list_any_map comment_bytes test c.args.comments.now
