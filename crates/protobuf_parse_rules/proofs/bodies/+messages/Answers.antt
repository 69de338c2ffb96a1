use Rattle.std.proofs.Common.{◌≡◌, List, [], ◌∷◌, ◌++◌, map, sym, ap, ◌∙◌, arith, string_bytes}
use Rattle.std.specs.List.{flat_map}
use Rattle.std.proofs.lemmas.Result.{on_ok_weaker}
use Rattle.std.proofs.lemmas.Bool.Decides.{nat_tests}
use Rattle.std.proofs.lemmas.List.{nil_from_length}
use Rattle.protobuf_parse_model.specs.declared.descriptor.DescriptorProto.{DescriptorProto}
use Rattle.protobuf_parse_model.specs.declared.descriptor.DescriptorProto.{out-DescriptorProto}
use Rattle.protobuf_parse_model.specs.Descriptors.{Text, message_view}
use Rattle.protobuf_parse_model.specs.MessageParts.{message_parts}
use Rattle.protobuf_parse_wire.specs.Declarations.{Declaration, declared_message, name_within}
use Rattle.protobuf_parse_rules.specs.Bodies.{BodyParts, message_body}
use Rattle.protobuf_parse_rules.specs.BodyViews.{body_view}
use Rattle.protobuf_parse_rules.proofs.Lists.{joined_one_more}
use Rattle.protobuf_parse_rules.proofs.Placing.{message_declared, bodies_more}
use Rattle.protobuf_parse_rules.proofs.bodies.+messages.Goals as goal

pub add_message-returns-then-is_empty : goal.add_message-returns-then-is_empty
add_message-returns-then-is_empty t c =
    let m = c.args.message.now in
    let path : Text = c.args.path.now in
    let proto3 = c.args.proto3 in
    let name : Text = string_bytes c.in_ok-name.name in
    let old : List BodyParts = map body_view c.args.bodies.now.items in
    let d : Declaration = record { name = name; parts = message_parts m } in
    let none : (out-DescriptorProto m).nested_type.items ≡ [] =
    nil_from_length _ (grind (arith, nat_tests, c.is_empty.ensures, c.if-is_empty.true)) in
    on_ok_weaker c.add_one.result
    (λ added. added
    ∙ ap (λ (ds : List Declaration). old ++ map (message_body path proto3) ds)
    (sym (message_declared c.args.scope.now name m
    (c.in_ok-name.ensures ∙ ap (name_within c.args.scope.now) c.deref.ensures)
    ∙ ap (λ (ms : List DescriptorProto). d ∷ flat_map (declared_message name) (map message_view ms))
    none)))
    c.add_one.ensures

pub add_message-returns : goal.add_message-returns
add_message-returns t c =
    let m = c.args.message.now in
    let path : Text = c.args.path.now in
    let proto3 = c.args.proto3 in
    let name : Text = string_bytes c.in_ok-name.name in
    let old : List BodyParts = map body_view c.args.bodies.now.items in
    let mid : List BodyParts = map body_view c.add_one-2.new.bodies.items in
    let new : List BodyParts = map body_view c.add_messages.new.bodies.items in
    let d : Declaration = record { name = name; parts = message_parts m } in
    let inner = flat_map (declared_message name)
    (map message_view (out-DescriptorProto m).nested_type.items) in
    let pushed : mid ≡ old ++ map (message_body path proto3) (d ∷ []) =
    c.in_ok-add_one.ensures
    ∙ ap (λ (s : Text). old ++ map (message_body path proto3)
    (record { name = s; parts = message_parts m } ∷ [])) c.in_ok-clone.ensures.cases in
    on_ok_weaker c.add_messages.result
    (λ nested. bodies_more path proto3 old mid new (d ∷ []) inner
    (declared_message c.args.scope.now (message_view m)) pushed
    (nested ∙ ap (λ (ds : List Declaration). mid ++ map (message_body path proto3) ds)
    (ap (λ (s : Text). flat_map (declared_message s) (map message_view c.deref-3.result.now))
    c.deref-2.ensures
    ∙ ap (λ (ms : List DescriptorProto). flat_map (declared_message name) (map message_view ms))
    c.deref-3.ensures.value))
    (message_declared c.args.scope.now name m
    (c.in_ok-name.ensures ∙ ap (name_within c.args.scope.now) c.deref.ensures)))
    c.add_messages.ensures

pub add_messages-messages-preserved : goal.add_messages-messages-preserved
add_messages-messages-preserved t c =
    bodies_more c.args.path.now c.args.proto3 _ _ _ _ _ _ c.messages.invariant
    c.in_ok-add_message.ensures
    (joined_one_more (declared_message c.args.scope.now) message_view c.args.messages.now
    c.messages.message-index c.message-item.result c.messages-test.true c.message-item.is)
