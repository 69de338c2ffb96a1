use Rattle.std.proofs.Common.{◌∙◌, ◌++◌, List, ap, flat_map, map, string_bytes}
use Rattle.std.proofs.lemmas.Result.{on_ok_weaker}
use Rattle.protobuf_parse_base.specs.DeclaredNames.{name_bytes}
use Rattle.protobuf_parse_model.specs.Descriptors.{Text, message_view}
use Rattle.protobuf_parse_model.specs.MessageParts.{message_parts}
use Rattle.protobuf_parse_model.specs.declared.descriptor.DescriptorProto.{DescriptorProto}
use Rattle.protobuf_parse_model.specs.declared.descriptor.DescriptorProto.{out-DescriptorProto}
use Rattle.protobuf_parse_set_rules.specs.Breaches.{SetBreach}
use Rattle.protobuf_parse_set_rules.specs.Names.{within}
use Rattle.protobuf_parse_set_rules.specs.Rules.{message_breaches, name_breaches, named}
use Rattle.protobuf_parse_set_rules.specs.Rules.{parts_breaches}
use Rattle.protobuf_parse_set_rules.specs.Sights.{Sight}
use Rattle.protobuf_parse_set_rules.specs.Held.{sight_view}
use Rattle.protobuf_parse_set_rules.specs.Views.{told}
use Rattle.protobuf_parse_set_rules.proofs.Levels.{breaches_named, told_of_three}
use Rattle.protobuf_parse_set_rules.proofs.messages.+message.Goals as goal

pub check_message-returns : goal.check_message-returns
check_message-returns t c =
    let m = c.args.message.now in
    let sees : Sight = sight_view c.args.sight.now in
    let file : Text = c.args.file.now in
    let scope : Text = c.args.scope.now in
    let own : Text = name_bytes (out-DescriptorProto m).name in
    let name : Text = string_bytes c.in_ok-inside.inside in
    let before : List SetBreach = told c.args.found.now in
    let with_name : List SetBreach = told c.check_named.new.found in
    let with_parts : List SetBreach = told c.check_parts.new.found in
    on_ok_weaker c.check_messages.result
    (λ added. told_of_three before with_name with_parts (told c.check_messages.new.found)
    (name_breaches (named file scope own) own) (parts_breaches sees file name (message_parts m))
    (flat_map (message_breaches sees file name)
    (map message_view (out-DescriptorProto m).nested_type.items))
    (message_breaches sees file scope (message_view m))
    (c.in_ok-check_named.ensures
    ∙ ap (λ (s : Text). before ++ name_breaches (named file scope s) s) c.deref.ensures)
    (c.in_ok-check_parts.ensures
    ∙ ap (λ (s : Text). with_name ++ parts_breaches sees file s (message_parts m))
    c.deref-3.ensures)
    (added
    ∙ ap (λ (s : Text). with_parts
    ++ flat_map (message_breaches sees file s) (map message_view c.deref-5.result.now))
    c.deref-4.ensures
    ∙ ap (λ (ms : List DescriptorProto). with_parts
    ++ flat_map (message_breaches sees file name) (map message_view ms)) c.deref-5.ensures.value)
    (breaches_named sees file scope name m
    (c.in_ok-inside.ensures ∙ ap (within scope) c.deref-2.ensures)))
    c.check_messages.ensures
