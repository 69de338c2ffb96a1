use Rattle.std.proofs.Common.{sym, append-nil}
use Rattle.std.specs.Prelude.{string_bytes}
use Rattle.protobuf_parse_proto_text.specs.Items.{option_line}
use Rattle.protobuf_parse_proto_text.proofs.Growing.{grown_all, grown_next}
use Rattle.protobuf_parse_proto_text.proofs.items.put_statements.Goals as goal

pub loop-item-init : goal.loop-item-init
loop-item-init c = sym (append-nil _)

pub loop-item-preserved : goal.loop-item-preserved
loop-item-preserved c =
    grown_next (option_line c.args.level) string_bytes
    _ _ _ _ _ _ c.loop-item-test.true c.item-item.is c.loop-item.invariant
    (rw c.deref.ensures at c.in_ok-put_line.ensures)

pub returns : goal.returns
returns c =
    grown_all (option_line c.args.level) string_bytes
    _ _ _ _ c.loop-item-test.false c.loop-item.invariant
