use Rattle.std.proofs.Common.{◌++◌, flat_map, map, ap, ◌∙◌, string_bytes}
use Rattle.std.proofs.lemmas.Result.{on_ok_weaker}
use Rattle.protobuf_parse_model.specs.Descriptors.{field_view}
use Rattle.protobuf_parse_rules.specs.Keys.{extension_keys, field_key, text_key}
use Rattle.protobuf_parse_rules.specs.BodyViews.{body_view}
use Rattle.protobuf_parse_rules.proofs.Keying.{number_keys}
use Rattle.protobuf_parse_rules.proofs.number_keys.add_keys.Goals as goal

pub returns : goal.returns
returns c =
    let keys = c.args.keys.now.items in
    on_ok_weaker c.add_extension_keys.result
    (λ more. number_keys (body_view c.args.body.now) keys c.add_field_keys.new.keys.items
    c.add_extension_keys.new.keys.items
    (c.in_ok-add_field_keys.ensures
    ∙ ap (λ front. keys ++ map (field_key front) (map field_view c.fields.result.now))
    (c.text_key-front.ensures ∙ ap text_key c.deref.ensures)
    ∙ ap (λ fs. keys ++ map (field_key (text_key (string_bytes c.args.body.now.scope))) fs)
    c.fields.ensures)
    (more ∙ ap (λ es. c.add_field_keys.new.keys.items ++ flat_map extension_keys es)
    c.extensions.ensures))
    c.add_extension_keys.ensures
