-- Each arm writes the text of its kind, and each turn of a list its next item.
use Rattle.std.proofs.Common.{map, ap, refl, ◌∙◌, rules}
use Rattle.std.proofs.Output.{has_written_of_eq}
use Rattle.std.proofs.lemmas.Grind.{put_three}
use Rattle.protobuf_parse_syntax.specs.Formats.{format}
use Rattle.protobuf_parse_syntax.specs.ListTexts.{list_text, message_text}
use Rattle.protobuf_parse_syntax.specs.Trees.{constant_syntax}
use Rattle.protobuf_parse_syntax.specs.InnerViews.{constant_field_syntax}
use Rattle.protobuf_parse_syntax.proofs.Formats.{join-take, is_ok-from, format-number}
use Rattle.protobuf_parse_syntax.proofs.Formats.{format-signed, format-truth, format-ident}
use Rattle.protobuf_parse_syntax.proofs.Formats.{format-text, format-list, format-message}
use Rattle.protobuf_parse_syntax.proofs.tree.constant.+display.Goals as goal

pub write_constant-returns-in-U64 : goal.write_constant-returns-in-U64
write_constant-returns-in-U64 g t c = λ plain ok.
    has_written_of_eq _ _ _ _ _ (format-number c.args.constant.now c.in-U64.number c.in-U64.is)
    (c.write.ensures.writes plain ok)

pub write_constant-returns-in-I64 : goal.write_constant-returns-in-I64
write_constant-returns-in-I64 g t c = λ plain ok.
    has_written_of_eq _ _ _ _ _ (format-signed c.args.constant.now c.in-I64.number c.in-I64.is)
    (c.write-in-I64.ensures.writes plain ok)

pub write_constant-returns-in-Bool : goal.write_constant-returns-in-Bool
write_constant-returns-in-Bool g t c = λ plain ok.
    has_written_of_eq _ _ _ _ _ (format-truth c.args.constant.now c.in-Bool.value c.in-Bool.is)
    (c.write-in-Bool.ensures.writes plain ok)

pub write_constant-returns-in-Ident : goal.write_constant-returns-in-Ident
write_constant-returns-in-Ident g t c = λ plain ok.
    has_written_of_eq _ _ _ _ _ (format-ident c.args.constant.now c.in-Ident.name c.in-Ident.is)
    (c.write-in-Ident.ensures.writes plain ok)

pub write_constant-returns-in-String : goal.write_constant-returns-in-String
write_constant-returns-in-String g t c = λ plain ok.
    has_written_of_eq _ _ _ _ _ (format-text c.args.constant.now c.in-String.string c.in-String.is)
    (c.write_string.ensures plain ok)

pub write_constant-returns-in-List : goal.write_constant-returns-in-List
write_constant-returns-in-List g t c = λ plain ok.
    has_written_of_eq _ _ _ _ _
    (ap (λ xs. list_text (map constant_syntax xs)) c.as_slice.ensures.value
    ∙ format-list c.args.constant.now c.in-List.items c.in-List.is) (c.write_list.ensures plain
    ok)

pub write_constant-returns-in-Message : goal.write_constant-returns-in-Message
write_constant-returns-in-Message g t c = λ plain ok.
    has_written_of_eq _ _ _ _ _
    (ap (λ xs. message_text (map constant_field_syntax xs)) c.as_slice-in-Message.ensures.value
    ∙ format-message c.args.constant.now c.in-Message.fields
    c.in-Message.is) (c.write_message.ensures plain ok)

pub write_items-loop-i-preserved : goal.write_items-loop-i-preserved
write_items-loop-i-preserved g t c = λ plain.
    let before = c.loop-i.invariant plain in
    let between = c.write_between.ensures before.plain
    (is_ok-from c.write_between.result _ c.in_ok-write_between.was) in
    let item = c.write_constant.ensures between.plain
    (is_ok-from c.write_constant.result _ c.in_ok-write_constant.was) in
    put_three _ _ _ _ _ _ _ _ _ before between item
    (join-take format constant_syntax 44 c.args.items.now c.loop-i.i c.index-items-i.result
    (search rules) c.index-items-i.is)

pub write_list-returns : goal.write_list-returns
write_list-returns g t c = λ plain ok.
    let before = c.write.ensures.writes plain (is_ok-from c.write.result _ c.in_ok-write.was) in
    let items = c.write_items.ensures before.plain
    (is_ok-from c.write_items.result _ c.in_ok-write_items.was) in
    let after = c.write-2.ensures.writes items.plain ok in
    put_three _ _ _ _ _ _ _ _ _ before items after refl

pub write_message-returns : goal.write_message-returns
write_message-returns g t c = λ plain ok.
    let before = c.write.ensures.writes plain (is_ok-from c.write.result _ c.in_ok-write.was) in
    let fields = c.write_fields.ensures before.plain
    (is_ok-from c.write_fields.result _ c.in_ok-write_fields.was) in
    let after = c.write-2.ensures.writes fields.plain ok in
    put_three _ _ _ _ _ _ _ _ _ before fields after refl
