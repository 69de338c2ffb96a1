use Rattle.std.proofs.Common.{drop}
use Rattle.protobuf_parse_wire.specs.Encoded.{BeginsWith}
use Rattle.protobuf_parse_wire.specs.Views.{entries_view}
use Rattle.protobuf_parse_wire.proofs.Written.{Completes}
use Rattle.protobuf_parse_wire.proofs.encoder.+entry.Given as goal

-- The bytes of the entries that are left complete the list.
abbrev pub invariant-encode_into-entries : goal.invariant-encode_into-entries
invariant-encode_into-entries l = record {
  completes : Completes (entries_view (drop l.entry-index l.entries))
      (entries_view l.entries) l.fn.out.items l.out.items;
  begins : BeginsWith l.fn.out.items l.out.items;
}
