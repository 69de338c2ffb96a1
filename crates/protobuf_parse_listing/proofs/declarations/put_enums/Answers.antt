use Rattle.std.proofs.Common.{sym, append-nil}
use Rattle.protobuf_parse_model.specs.Descriptors.{enum_view}
use Rattle.protobuf_parse_listing.specs.Listing.{enum_lines}
use Rattle.protobuf_parse_listing.proofs.Appending.{appended_all, appended_next, appended_two}
use Rattle.protobuf_parse_listing.proofs.declarations.put_enums.Goals as goal

pub loop-each-init : goal.loop-each-init
loop-each-init c = sym (append-nil _)

pub loop-each-preserved : goal.loop-each-preserved
loop-each-preserved c =
    appended_next (enum_lines c.args.level) enum_view _ _ _ _ _ _ c.loop-each-test.true
    c.each-item.is c.loop-each.invariant
    (appended_two _ _ _ _ _ (rw c.deref.ensures at c.in_ok-put_line.ensures)
    c.in_ok-put_enum_parts.ensures)

pub returns : goal.returns
returns c =
    appended_all (enum_lines c.args.level) enum_view _ _ _ _ c.loop-each-test.false
    c.loop-each.invariant
