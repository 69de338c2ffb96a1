use Rattle.std.proofs.Common.{◌≡◌, drop}
use Rattle.protobuf_parse_source_info.specs.Declarations.{past_items}
use Rattle.protobuf_parse_source_info.proofs.counts.past_items.Given as goal

abbrev pub invariant-items : goal.invariant-items
invariant-items g l = past_items l.index (drop l._item-index l.items) ≡ past_items l.first l.items
