use Rattle.std.proofs.Common.{sym, append-nil}
use Rattle.std.specs.Prelude.{string_bytes}
use Rattle.protobuf_parse_proto_text.specs.Pieces.{reserved_name_line}
use Rattle.protobuf_parse_proto_text.proofs.Growing.{grown_all, grown_next}
use Rattle.protobuf_parse_proto_text.proofs.pieces.put_reserved_names.Goals as goal

pub loop-name-init : goal.loop-name-init
loop-name-init c = sym (append-nil _)

pub loop-name-preserved : goal.loop-name-preserved
loop-name-preserved c =
    grown_next (reserved_name_line c.args.level) string_bytes
    _ _ _ _ _ _ c.loop-name-test.true c.name-item.is c.loop-name.invariant
    (rw c.deref.ensures at c.in_ok-put_reserved_name.ensures)

pub returns : goal.returns
returns c =
    grown_all (reserved_name_line c.args.level) string_bytes
    _ _ _ _ c.loop-name-test.false c.loop-name.invariant
