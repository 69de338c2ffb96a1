use Rattle.std.proofs.Common.{◌∙◌, ap}
use Rattle.std.proofs.lemmas.List.Elements.{same_from_all_zip}
use Rattle.protobuf_parse_source_info.specs.Parts.{next}
use Rattle.protobuf_parse_option_paths.specs.InnerViews.{counted}
use Rattle.protobuf_parse_option_paths.proofs.Counts.{counts_one}
use Rattle.protobuf_parse_option_paths.proofs.counted.push_index.Goals as goal

pub returns-clause-counts : goal.returns-clause-counts
returns-clause-counts c =
    counts_one c.args.path.now.items c.in_ok-clone.field-0 c.next.result c.args.counts.now
    c.insert.new.self
    (same_from_all_zip _ _ _ c.in_ok-clone.ensures.cases.0 (λ x y e. e))
    (c.next.ensures
    ∙ ap next (c.count_at-index.ensures
    ∙ ap (counted c.args.counts.now) c.deref.ensures.value))
    c.in_ok-insert.ensures.updates
