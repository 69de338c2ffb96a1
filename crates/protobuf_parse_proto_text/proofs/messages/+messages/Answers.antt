use Rattle.std.proofs.Common.{◌≡◌, ◌∙◌, ◌++◌, ℕ, List, ap, map, string_bytes, subst, sym}
use Rattle.protobuf_parse_listing.proofs.Appending.{appended_three, on_ok_then}
use Rattle.protobuf_parse_model.specs.Descriptors.{Text, file_view}
use Rattle.protobuf_parse_wire.specs.Declarations.{name_within}
use Rattle.protobuf_parse_proto_text.specs.Made.{inside_text}
use Rattle.protobuf_parse_proto_text.proofs.Inside.{body_in_order}
use Rattle.protobuf_parse_proto_text.proofs.messages.+messages.Goals as goal

pub put_body-returns : goal.put_body-returns
put_body-returns t c =
    let files = map file_view c.args.index.now in
    let before = string_bytes c.args.text.now in
    let named = c.deref-2.ensures ∙ c.in_ok-scope.ensures
    ∙ ap (name_within c.args.around.now) c.deref.ensures in
    let inside = subst (λ (scope : Text). string_bytes c.put_inside.new.text
    ≡ string_bytes c.put_body_front.new.text
    ++ inside_text files c.args.proto3 c.args.level scope c.args.message.now)
    named c.in_ok-put_inside.ensures in
    on_ok_then c.put_ranges.result
    (λ last. appended_three before _ _ _ c.in_ok-put_body_front.ensures inside last
    ∙ ap (λ (x : List ℕ). before ++ x)
    (sym (body_in_order files c.args.proto3 c.args.around.now c.args.message.now c.args.level)))
    c.put_ranges.ensures
