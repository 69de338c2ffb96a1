use Rattle.std.proofs.Common.{◌≡◌, ◌∙◌, ◌+◌, ◌++◌, List, ap, arith, false, flat_map, map, sym}
use Rattle.std.proofs.Common.{string_bytes}
use Rattle.std.specs.Prelude.{nat_lt}
use Rattle.std.proofs.lemmas.Bool.Decides.{nat_tests}
use Rattle.std.proofs.lemmas.Result.{on_ok_weaker}
use Rattle.protobuf_parse_model.specs.declared.descriptor.DescriptorProto.{DescriptorProto}
use Rattle.protobuf_parse_model.specs.Descriptors.{Text, message_view}
use Rattle.protobuf_parse_wire.specs.Declarations.{name_within}
use Rattle.protobuf_parse_rules.specs.Nesting.{too_deep}
use Rattle.protobuf_parse_rules.specs.Rules.{Breach, breaches_told}
use Rattle.protobuf_parse_rules.proofs.Nested.{deep_inside}
use Rattle.protobuf_parse_rules.proofs.nesting.+nesting.Goals as goal

pub check_message-returns : goal.check_message-returns
check_message-returns t c =
    let before : List Breach = breaches_told c.args.told.now in
    let file : Text = c.args.file.now in
    let around = c.args.around in
    let name : Text = string_bytes c.in_ok-name.name in
    let few : nat_lt 30 around ≡ false = grind (arith, nat_tests, c.if-around-gt30.false) in
    on_ok_weaker c.check_messages.result
    (λ h. h
    ∙ ap (λ (s : Text). before
    ++ flat_map (too_deep file s (around + 1)) (map message_view c.deref-4.result.now))
    c.deref-3.ensures
    ∙ ap (λ (ms : List DescriptorProto). before
    ++ flat_map (too_deep file name (around + 1)) (map message_view ms)) c.deref-4.ensures.value
    ∙ ap (λ (bs : List Breach). before ++ bs)
    (sym (deep_inside file c.args.scope.now name around c.args.message.now few
    (c.in_ok-name.ensures ∙ ap (name_within c.args.scope.now) c.deref-2.ensures))))
    c.check_messages.ensures
