use Rattle.std.proofs.Common.{rules, tests, not}
use Rattle.std.proofs.lemmas.Iterator.Adapters.{YieldsList-from_skip}
use Rattle.std.proofs.lemmas.Iterator.Consumers.{YieldsList-at, YieldsList-from_filter}
use Rattle.std.proofs.lemmas.Iterator.Search.{any_from_yields_List}
use Rattle.std.proofs.lemmas.Iterator.Splits.{YieldsList-from_slice_split}
use Rattle.std.specs.Prelude.{bytes_eq}
use Rattle.protobuf_parse_lexer.specs.Text.{Bytes}
use Rattle.protobuf_parse_locations.specs.Ignoring.{is_blank, is_empty}
use Rattle.protobuf_parse_locations.proofs.ignoring.has_behind_first.Goals as goal

pub returns : goal.returns
returns c =
    any_from_yields_List (bytes_eq c.args.word.now) _ _ _ c.any.ensures.ran
    (YieldsList-from_skip 1
    (YieldsList-at c.skip.ensures.source
    (YieldsList-from_filter _ (λ (w : Bytes). not (is_empty w))
    (YieldsList-at c.filter.ensures.source
    (YieldsList-from_slice_split _ is_blank c.args.line.now c.split.ensures.rest
    c.split.ensures.done c.split.ensures.closure (λ x b q k. search (rules, tests))))
    c.filter.ensures.closure (λ x b q k. search (rules, tests))))
    c.skip.ensures.count)
    (λ x b q k. search (rules, tests))
