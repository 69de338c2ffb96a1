use Rattle.std.proofs.Common.{map}
use Rattle.protobuf_parse_model.specs.Descriptors.{file_view}
use Rattle.protobuf_parse_index.specs.Views.{standing_message}
use Rattle.protobuf_parse_wire_changes.specs.Kept.{IsKept, pairs_view}
use Rattle.protobuf_parse_wire_changes.specs.Partners.{pairs, same_names, with_itself}
use Rattle.protobuf_parse_wire_changes.proofs.Keeping.{ToGrow}
use Rattle.protobuf_parse_wire_changes.proofs.Listing.{ToList}
use Rattle.protobuf_parse_wire_changes.proofs.partners.partners_of.Given as goal

abbrev pub invariant-messages : goal.invariant-messages
invariant-messages l =
    ToList standing_message (with_itself (map file_view l.new)) (pairs_view l.pairs)
    l.message-index l.messages (same_names (map file_view l.old) (map file_view l.new))
    × IsKept l.pairs

abbrev pub invariant-pairs : goal.invariant-pairs
invariant-pairs l =
    ToGrow (map file_view l.old) (map file_view l.new) (pairs_view l.pairs) l.at l.at-end
    (pairs (map file_view l.old) (map file_view l.new))
    × IsKept l.pairs
