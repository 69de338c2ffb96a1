use Rattle.std.proofs.Common.{sym, append-nil}
use Rattle.protobuf_parse_model.specs.Descriptors.{oneof_view}
use Rattle.protobuf_parse_listing.specs.Listing.{oneof_lines}
use Rattle.protobuf_parse_listing.proofs.Appending.{appended_all, appended_next, appended_two}
use Rattle.protobuf_parse_listing.proofs.declarations.put_oneofs.Goals as goal

pub loop-oneof-init : goal.loop-oneof-init
loop-oneof-init c = sym (append-nil _)

pub loop-oneof-preserved : goal.loop-oneof-preserved
loop-oneof-preserved c =
    appended_next (oneof_lines c.args.level) oneof_view _ _ _ _ _ _ c.loop-oneof-test.true
    c.oneof-item.is c.loop-oneof.invariant
    (appended_two _ _ _ _ _ (rw c.deref.ensures at c.in_ok-put_line.ensures)
    c.in_ok-put_oneof_options.ensures)

pub returns : goal.returns
returns c =
    appended_all (oneof_lines c.args.level) oneof_view _ _ _ _ c.loop-oneof-test.false
    c.loop-oneof.invariant
