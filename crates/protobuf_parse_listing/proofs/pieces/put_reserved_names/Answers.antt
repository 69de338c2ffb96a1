use Rattle.std.proofs.Common.{sym, append-nil}
use Rattle.std.specs.Prelude.{string_bytes}
use Rattle.protobuf_parse_listing.specs.Listing.{reserved_name_line}
use Rattle.protobuf_parse_listing.proofs.Appending.{appended_all, appended_next}
use Rattle.protobuf_parse_listing.proofs.pieces.put_reserved_names.Goals as goal

pub loop-name-init : goal.loop-name-init
loop-name-init c = sym (append-nil _)

pub loop-name-preserved : goal.loop-name-preserved
loop-name-preserved c =
    appended_next (reserved_name_line c.args.level) string_bytes _ _ _ _ _ _ c.loop-name-test.true
    c.name-item.is c.loop-name.invariant
    (rw c.deref.ensures at c.in_ok-put_reserved_name.ensures)

pub returns : goal.returns
returns c =
    appended_all (reserved_name_line c.args.level) string_bytes _ _ _ _ c.loop-name-test.false
    c.loop-name.invariant
