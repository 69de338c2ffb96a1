use Rattle.std.proofs.Common.{◌∙◌, ◌||◌, ap, sym}
use Rattle.std.specs.Prelude.{option_to_list}
use Rattle.std.proofs.lemmas.Result.{on_ok_weaker}
use Rattle.protobuf_parse_base.specs.Names.{fronts}
use Rattle.protobuf_parse_model.specs.Descriptors.{field_view}
use Rattle.protobuf_parse_option_paths.specs.InnerViews.{field_found}
use Rattle.protobuf_parse_text_rules.specs.Options.{stands_in}
use Rattle.protobuf_parse_name_rules.specs.InnerViews.{custom_view, fields_view, has_path}
use Rattle.protobuf_parse_name_rules.specs.InnerViews.{viewpoint_view}
use Rattle.protobuf_parse_name_rules.specs.Options.{last_of, path_of}
use Rattle.protobuf_parse_name_rules.proofs.Paths.{set_told}
use Rattle.protobuf_parse_name_rules.proofs.again.add_paths.Goals as goal

pub returns : goal.returns
returns c =
    let old = has_path c.args.paths.now in
    on_ok_weaker c.add_paths_in.result
    (λ h p. set_told (viewpoint_view c.args.at.now) (custom_view c.args.custom.now)
    (field_view c.in-Some.field.now) p c.deref-4.result.now _ _ _
    (sym (ap (λ o. option_to_list (field_found o)) c.in-Some.is) ∙ c.last_field.ensures
    ∙ ap (λ xs. last_of (fields_view xs)) c.deref-2.ensures.value)
    (c.deref-4.ensures.value ∙ c.in_ok-path.ensures
    ∙ ap (λ xs. path_of (fields_view xs)) c.deref-3.ensures.value)
    (c.in_ok-add_fronts.ensures p
    ∙ ap (λ xs. old p || stands_in p (fronts (path_of (fields_view xs)))) c.deref.ensures.value)
    (h p))
    c.add_paths_in.ensures
