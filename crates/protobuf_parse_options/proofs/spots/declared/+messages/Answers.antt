use Rattle.std.proofs.Common.{◌≡◌, ◌∙◌, ◌++◌, [], ◌∷◌, List, ℕ, ap, map, sym}
use Rattle.std.specs.Prelude.{string_bytes}
use Rattle.std.proofs.lemmas.List.{map-append}
use Rattle.std.proofs.lemmas.Result.{on_ok_weaker}
use Rattle.protobuf_parse_model.specs.declared.descriptor.DescriptorProto.{DescriptorProto}
use Rattle.protobuf_parse_model.specs.Descriptors.{Text, MessageDescriptor, message_view}
use Rattle.protobuf_parse_wire.specs.Declarations.{name_within}
use Rattle.protobuf_parse_options.specs.HoldingParts.{message_seen, messages_spotted, spotted_view}
use Rattle.protobuf_parse_options.specs.Spots.{SpottedView, spotted_list}
use Rattle.protobuf_parse_options.proofs.Spotting.{message_listed}
use Rattle.protobuf_parse_options.proofs.spots.declared.+messages.Goals as goal

abbrev head : Text → List ℕ → ℕ → DescriptorProto → List (SpottedView MessageDescriptor)
head name path index m = record { name = name; path = path; index = index; what = message_view m }
    ∷ []

pub add_message-returns : goal.add_message-returns
add_message-returns t c =
    let m : DescriptorProto = c.args.message.now in
    let scope = c.args.scope.now in
    let path = c.args.path.now in
    let index = c.args.index in
    let name : Text = string_bytes c.in_ok-name.name in
    let old = messages_spotted c.args.list.now.items in
    let same : string_bytes c.in_ok-name_within.field-0 ≡ name = c.in_ok-name_within.ensures
    ∙ ap (name_within scope) (c.deref.ensures ∙ sym c.deref-2.ensures)
    ∙ sym c.in_ok-name.ensures in
    let copied : c.in_ok-copied.field-0.items ≡ path = c.in_ok-copied.ensures in
    let pushed = ap messages_spotted c.in_ok-push.ensures.items
    ∙ map-append (spotted_view message_seen) c.args.list.now.items _
    ∙ ap (λ (n : Text). old ++ head n c.in_ok-copied.field-0.items index m) same
    ∙ ap (λ (p : List ℕ). old ++ head name p index m) copied in
    let named = c.in_ok-name.ensures ∙ ap (name_within scope) c.deref-2.ensures in
    let inner = c.deref-4.ensures.value ∙ c.in_ok-inner.ensures in
    on_ok_weaker c.add_messages.result
    (λ nested. message_listed scope name path index m old
    (messages_spotted c.add_messages.new.list.items) named
    (nested ∙ ap (λ (ds : List (SpottedView MessageDescriptor)). ds
    ++ spotted_list c.deref-3.result.now
    c.deref-4.result.now 0 (map message_view c.deref-5.result.now)) pushed
    ∙ ap (λ (s : Text). (old ++ head name path index m) ++ spotted_list s c.deref-4.result.now 0
    (map message_view c.deref-5.result.now)) c.deref-3.ensures
    ∙ ap (λ (p : List ℕ). (old ++ head name path index m) ++ spotted_list name p 0
    (map message_view c.deref-5.result.now)) inner
    ∙ ap (λ (ms : List DescriptorProto). (old ++ head name path index m) ++ spotted_list name
    (path ++ index ∷ []) 0 (map message_view ms)) c.deref-5.ensures.value))
    c.add_messages.ensures
