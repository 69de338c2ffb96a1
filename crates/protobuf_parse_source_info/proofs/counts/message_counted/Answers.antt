use Rattle.std.proofs.Common.{ℕ, sym, ap, ◌∙◌}
use Rattle.protobuf_parse_syntax.specs.Trees.{range_syntax}
use Rattle.protobuf_parse_syntax.proofs.Messages.{views_extensions}
use Rattle.protobuf_parse_source_info.proofs.Counting.{past_map}
use Rattle.protobuf_parse_source_info.proofs.counts.message_counted.Goals as goal

pub returns-in-Extensions : goal.returns-in-Extensions
returns-in-Extensions c =
    rw (c.in-Extensions.is, views_extensions c.in-Extensions.extensions)
    (ap (λ (k : ℕ). record c.args.counts { ranges = k })
    (rw c.deref-in-Extensions.ensures.value at c.past_items.ensures
    ∙ sym (past_map range_syntax c.args.counts.ranges c.in-Extensions.extensions.ranges.items)))
