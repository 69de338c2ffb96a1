use Rattle.std.proofs.Common.{◌∙◌, ◌++◌, [], ◌∷◌, List, ap, flat_map, map, string_bytes}
use Rattle.std.proofs.lemmas.Result.{on_ok_weaker}
use Rattle.protobuf_parse_model.specs.Descriptors.{Text, enum_view, message_view}
use Rattle.protobuf_parse_model.specs.declared.descriptor.DescriptorProto.{DescriptorProto}
use Rattle.protobuf_parse_model.specs.declared.descriptor.DescriptorProto.{out-DescriptorProto}
use Rattle.protobuf_parse_model.specs.declared.descriptor.EnumDescriptorProto.{EnumDescriptorProto}
use Rattle.protobuf_parse_model.specs.declared.scope.seen.TypeKind.TheVariants as kind
use Rattle.protobuf_parse_set_rules.specs.Names.{within}
use Rattle.protobuf_parse_set_rules.specs.Types.{DeclaredType, enum_declared, types_around}
use Rattle.protobuf_parse_set_rules.specs.Held.{type_view}
use Rattle.protobuf_parse_set_rules.proofs.Levels.{types_more, types_named}
use Rattle.protobuf_parse_set_rules.proofs.types.+messages.Goals as goal

pub add_message-returns : goal.add_message-returns
add_message-returns t c =
    let m = c.args.message.now in
    let n = c.args.position in
    let name : Text = string_bytes c.in_ok-name.name in
    let itself : Text → DeclaredType = λ s. record { name = s; kind = kind.Message; file = n } in
    let before : List DeclaredType = map type_view c.args.types.now.items in
    let with_one : List DeclaredType = map type_view c.add_one.new.types.items in
    let with_enums : List DeclaredType = map type_view c.add_enums.new.types.items in
    on_ok_weaker c.add_messages.result
    (λ added. types_more before with_one with_enums (map type_view c.add_messages.new.types.items)
    (map (enum_declared n name) (map enum_view (out-DescriptorProto m).enum_type.items))
    (flat_map (types_around n name) (map message_view (out-DescriptorProto m).nested_type.items))
    (types_around n c.args.scope.now (message_view m)) (itself name)
    (c.in_ok-add_one.ensures
    ∙ ap (λ (s : Text). before ++ itself s ∷ []) c.in_ok-clone.ensures.cases)
    (c.in_ok-add_enums.ensures
    ∙ ap (λ (s : Text). with_one
    ++ map (enum_declared n s) (map enum_view c.deref-3.result.now)) c.deref-2.ensures
    ∙ ap (λ (es : List EnumDescriptorProto). with_one
    ++ map (enum_declared n name) (map enum_view es)) c.deref-3.ensures.value)
    (added
    ∙ ap (λ (s : Text). with_enums
    ++ flat_map (types_around n s) (map message_view c.deref-5.result.now)) c.deref-4.ensures
    ∙ ap (λ (ms : List DescriptorProto). with_enums
    ++ flat_map (types_around n name) (map message_view ms)) c.deref-5.ensures.value)
    (types_named n c.args.scope.now name m
    (c.in_ok-name.ensures ∙ ap (within c.args.scope.now) c.deref.ensures)))
    c.add_messages.ensures
