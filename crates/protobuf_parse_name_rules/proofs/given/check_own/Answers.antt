use Rattle.std.proofs.Common.{◌∙◌, ◌++◌, [], List, ap, flat_map, map, sym}
use Rattle.std.proofs.lemmas.Result.{on_ok_weaker}
use Rattle.protobuf_parse_syntax.specs.InnerViews.{constant_field_syntax}
use Rattle.protobuf_parse_model.specs.Descriptors.{field_view, message_view}
use Rattle.protobuf_parse_text_rules.specs.Views.{told}
use Rattle.protobuf_parse_name_rules.specs.Constants.{Given, given_twice, is_among, numbers}
use Rattle.protobuf_parse_name_rules.specs.InnerViews.{given_of, given_view, has_number}
use Rattle.protobuf_parse_name_rules.specs.InnerViews.{viewpoint_view}
use Rattle.protobuf_parse_name_rules.proofs.Twice.{fields_are, own_told}
use Rattle.protobuf_parse_name_rules.proofs.given.check_own.Goals as goal

pub returns : goal.returns
returns c =
    let place = c.args.place in
    let declared = c.args.declared.now in
    let t0 = told c.args.found.now in
    let given : List Given = flat_map (given_of (viewpoint_view c.args.at.now) c.args.message.now)
    (map constant_field_syntax c.args.fields.now) in
    on_ok_weaker c.tell_missing.result
    (λ h. own_told place (message_view declared) given (map field_view c.deref-3.result.now)
    (has_number c.in_ok-numbers.numbers) t0 (told c.tell_twice.new.found)
    (told c.tell_missing.new.found)
    (c.in_ok-tell_twice.ensures
    ∙ ap (λ (gs : List Given). t0 ++ given_twice place [] gs)
    (ap (map given_view) c.deref.ensures.value ∙ c.in_ok-given.ensures))
    (λ n. c.in_ok-numbers.ensures n
    ∙ ap (λ (gs : List Given). is_among n (numbers gs))
    (ap (map given_view) c.deref-2.ensures.value ∙ c.in_ok-given.ensures))
    (ap (map field_view) c.deref-3.ensures.value ∙ sym (fields_are declared)) h)
    c.tell_missing.ensures
