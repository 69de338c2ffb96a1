use Rattle.std.proofs.Common.{map}
use Rattle.protobuf_parse_model.specs.Descriptors.{file_view}
use Rattle.protobuf_parse_index.specs.Views.{standing_message}
use Rattle.protobuf_parse_wire_changes.specs.Kept.{IsKept, pair_of, pairs_view}
use Rattle.protobuf_parse_wire_changes.specs.Partners.{fields_of, with_fields}
use Rattle.protobuf_parse_wire_changes.proofs.Keeping.{ToLead}
use Rattle.protobuf_parse_wire_changes.proofs.partners.add_types_of.Given as goal

abbrev pub invariant-fields : goal.invariant-fields
invariant-fields l =
    ToLead (map file_view l.old) (map file_view l.new) (pair_of l.pair) (pairs_view l.pairs)
    l.field-index l.field-items
    (with_fields (map file_view l.old) (map file_view l.new) (pair_of l.pair)
    (fields_of (standing_message l.message)) (pairs_view l.fn.pairs))
    × IsKept l.pairs
