use Rattle.std.proofs.Common.{rules, tests}
use Rattle.std.proofs.lemmas.Iterator.Search.{any_from_yields_List}
use Rattle.std.proofs.lemmas.Iterator.Splits.{YieldsList-from_slice_split}
use Rattle.protobuf_parse_locations.specs.Ignoring.{is_feed, line_asks}
use Rattle.protobuf_parse_locations.proofs.ignoring.comment_asks.Goals as goal

pub returns : goal.returns
returns c =
    any_from_yields_List (line_asks c.args.word.now) _ _ _ c.any.ensures.ran
    (YieldsList-from_slice_split _ is_feed c.args.comment.now c.split.ensures.rest
    c.split.ensures.done c.split.ensures.closure (λ x b q k. search (rules, tests)))
    (λ x b q k. search (rules, tests))
