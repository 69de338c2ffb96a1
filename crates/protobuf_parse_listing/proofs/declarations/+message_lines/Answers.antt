use Rattle.std.proofs.Common.{◌∙◌, ap, append-nil, sym, List, ℕ, ◌++◌, string_bytes}
use Rattle.protobuf_parse_listing.proofs.Appending.{appended_all, appended_five, appended_next}
use Rattle.protobuf_parse_listing.proofs.Appending.{on_ok_then}
use Rattle.protobuf_parse_model.specs.Descriptors.{message_view}
use Rattle.protobuf_parse_listing.specs.Listing.{message_lines}
use Rattle.protobuf_parse_listing.specs.Parts.{message_lines_is}
use Rattle.protobuf_parse_listing.proofs.declarations.+message_lines.Goals as goal

pub put_message-returns : goal.put_message-returns
put_message-returns t c =
    let name = rw c.deref.ensures at c.in_ok-put_line.ensures in
    let inside = rw c.deref-2.ensures.value at c.in_ok-put_messages.ensures in
    on_ok_then c.put_message_back.result
    (λ back. back
    ∙ appended_five _ _ _ _ _ _ _ _ _ _ name c.in_ok-put_message_front.ensures inside
    c.in_ok-put_message_middle.ensures
    ∙ ap (λ (x : List ℕ). string_bytes c.args.text.now ++ x)
    (sym (message_lines_is c.args.level c.args.message.now)))
    c.put_message_back.ensures

pub put_messages-loop-message-init : goal.put_messages-loop-message-init
put_messages-loop-message-init t c = sym (append-nil _)

pub put_messages-loop-message-preserved : goal.put_messages-loop-message-preserved
put_messages-loop-message-preserved t c =
    appended_next (message_lines c.args.level) message_view _ _ _ _ _ _ c.loop-message-test.true
    c.message-item.is c.loop-message.invariant c.in_ok-put_message.ensures

pub put_messages-returns : goal.put_messages-returns
put_messages-returns t c =
    appended_all (message_lines c.args.level) message_view _ _ _ _ c.loop-message-test.false
    c.loop-message.invariant
