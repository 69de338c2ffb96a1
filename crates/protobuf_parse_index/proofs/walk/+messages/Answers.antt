use Rattle.std.proofs.Common.{◌≡◌, ◌++◌, [], ◌∷◌, map, refl, subst, ap, ◌∙◌, string_bytes}
use Rattle.std.specs.List.{flat_map}
use Rattle.std.proofs.lemmas.List.{map-append}
use Rattle.std.proofs.lemmas.Result.{on_ok_weaker}
use Rattle.protobuf_parse_model.specs.Descriptors.{Text, enum_view, field_view}
use Rattle.protobuf_parse_model.specs.Descriptors.{message_view}
use Rattle.protobuf_parse_index.specs.Puts.{WalkAdds}
use Rattle.protobuf_parse_index.specs.Puts.{WalkAddsMessages}
use Rattle.protobuf_parse_index.specs.Views.{standing_message}
use Rattle.protobuf_parse_index.specs.Walk.{enums_within, extensions_within}
use Rattle.protobuf_parse_index.specs.Walk.{message_within}
use Rattle.protobuf_parse_index.specs.declared.walk.Walk.{Walk}
use Rattle.protobuf_parse_index.proofs.Walked.{itself, message_pushed, message_walked}
use Rattle.protobuf_parse_index.proofs.walk.+messages.Goals as goal

pub add_message-returns : goal.add_message-returns
add_message-returns t c =
    let m = c.args.message.now in
    let path : Text = c.args.path.now in
    let name : Text = string_bytes c.in_ok-name.name in
    let old : Walk = c.args.walk.now in
    let a : Walk = record c.args.walk.now { messages = c.push.new.self } in
    let b : Walk = c.add_within.new.walk in
    let new : Walk = c.add_messages.new.walk in
    let es = map enum_view c.deref-2.result.now in
    let xs = map field_view c.deref-3.result.now in
    let pushed : map standing_message a.messages.items
    ≡ map standing_message old.messages.items ++ itself path name m ∷ [] =
    ap (map standing_message) c.in_ok-push.ensures.items
    ∙ map-append standing_message old.messages.items _
    ∙ ap (λ (s : Text). map standing_message old.messages.items
    ++ record { file = path; name = s; what = message_view m } ∷ []) c.in_ok-clone.ensures.cases in
    on_ok_weaker c.add_messages.result
    (λ nested. message_walked path c.args.scope.now name m old a b new es xs
    c.deref-5.result.now c.in_ok-name.ensures.ok (message_pushed path name m old a pushed refl refl)
    (subst (λ (s : Text). WalkAdds a b [] (enums_within path s es) (extensions_within path s xs))
    c.deref.ensures c.in_ok-add_within.ensures)
    (ap (map enum_view) c.deref-2.ensures.value) (ap (map field_view) c.deref-3.ensures.value)
    (subst (λ (s : Text). WalkAddsMessages b new
    (flat_map (message_within path s) (map message_view c.deref-5.result.now)))
    c.deref-4.ensures nested)
    c.deref-5.ensures.value)
    c.add_messages.ensures
