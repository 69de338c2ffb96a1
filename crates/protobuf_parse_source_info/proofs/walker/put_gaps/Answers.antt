use Rattle.std.proofs.Common.{sym, refl, map, arith}
use Rattle.std.proofs.lemmas.List.{length-map}
use Rattle.protobuf_parse_source_info.specs.InnerViews.{found_view, with_gaps, gaps_view}
use Rattle.protobuf_parse_source_info.proofs.Changes.{changed_set, changed_none}
use Rattle.protobuf_parse_source_info.proofs.walker.put_gaps.Goals as goal

pub returns-then-at-len : goal.returns-then-at-len
returns-then-at-len c =
    changed_set (with_gaps (gaps_view c.args.gaps)) c.args.found.now.items c.args.at
    c.index_mut.result.now _ (omega (arith, c.len.ensures)) c.index_mut.ensures.value refl

pub returns-else-at-len : goal.returns-else-at-len
returns-else-at-len c =
    sym (changed_none (with_gaps (gaps_view c.args.gaps)) (map found_view c.args.found.now.items)
    c.args.at (omega (arith, c.len.ensures, length-map c.args.found.now.items found_view)))
