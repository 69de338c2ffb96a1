use Rattle.std.proofs.Common.{sym, ◌∙◌}
use Rattle.std.specs.String.{string_bytes}
use Rattle.protobuf_parse_source_info.proofs.Counting.{past_map}
use Rattle.protobuf_parse_source_info.proofs.counts.names_past.Goals as goal

pub returns-in-Names : goal.returns-in-Names
returns-in-Names c =
    rw c.in-Names.is
    (rw c.deref.ensures.value at c.past_items.ensures
    ∙ sym (past_map string_bytes c.args.index c.in-Names.names.items))
