use Rattle.std.proofs.Common.{◌∙◌, ◌+◌, ◌||◌, List, ap, flat_map, map, sym, take}
use Rattle.std.specs.Prelude.{bytes_eq}
use Rattle.std.proofs.lemmas.Result.{on_ok_weaker}
use Rattle.protobuf_parse_model.specs.Descriptors.{Text, field_view}
use Rattle.protobuf_parse_option_paths.specs.InnerViews.{field_found}
use Rattle.protobuf_parse_option_paths.specs.Names.{type_name_of}
use Rattle.protobuf_parse_syntax.specs.InnerViews.{constant_field_syntax}
use Rattle.protobuf_parse_syntax.specs.Trees.{constant_syntax}
use Rattle.protobuf_parse_syntax.proofs.Views.{views_fields}
use Rattle.protobuf_parse_text_rules.specs.Options.{stands_in}
use Rattle.protobuf_parse_name_rules.specs.InnerViews.{has_path, paths_by, viewpoint_view}
use Rattle.protobuf_parse_name_rules.specs.Options.{Path, paths_in}
use Rattle.protobuf_parse_name_rules.proofs.Levels.{paths_listed}
use Rattle.protobuf_parse_name_rules.proofs.Paths.{paths_told}
use Rattle.protobuf_parse_name_rules.proofs.Sets.{any_next_behind, map_item}
use Rattle.protobuf_parse_name_rules.proofs.again.+constant.Goals as goal

pub add_paths_in-returns-in-Message : goal.add_paths_in-returns-in-Message
add_paths_in-returns-in-Message t c =
    let v = viewpoint_view c.args.at.now in
    let f = field_view c.args.field.now in
    let path = c.args.path.now in
    let fields = c.in-Message.fields in
    let old = has_path c.args.paths.now in
    on_ok_weaker c.add_paths_among.result
    (λ h p. h p
    ∙ ap (λ xs. old p || stands_in p
    (flat_map (paths_by v path c.type_name_of.result.now) (map constant_field_syntax xs)))
    c.deref.ensures.value
    ∙ ap (λ (m : Text). old p || stands_in p
    (flat_map (paths_by v path m) (map constant_field_syntax fields.items)))
    c.type_name_of.ensures
    ∙ ap (λ (ps : List Path). old p || stands_in p ps)
    (paths_listed v path (type_name_of f) (map constant_field_syntax fields.items)
    ∙ ap (paths_in v path f) (sym (ap constant_syntax c.in-Message.is ∙ views_fields fields))))
    c.add_paths_among.ensures

pub add_paths_among-fields-preserved : goal.add_paths_among-fields-preserved
add_paths_among-fields-preserved t c = λ p.
    let fields = c.args.fields.now in
    let i = c.fields.field-index in
    let x = c.field-item.result in
    any_next_behind (λ (y : Path). bytes_eq y p)
    (paths_by (viewpoint_view c.args.at.now) c.args.path.now c.args.message.now)
    (map constant_field_syntax (take i fields)) (map constant_field_syntax (take (i + 1) fields))
    (constant_field_syntax x) _ _ _ (c.in_ok-add_paths_by.ensures p) (c.fields.invariant p)
    (map_item constant_field_syntax fields i x c.fields-test.true c.field-item.is)

pub add_paths_by-returns : goal.add_paths_by-returns
add_paths_by-returns t c =
    on_ok_weaker c.add_paths_in.result
    (λ h p. paths_told (viewpoint_view c.args.at.now) c.args.path.now c.args.message.now
    (constant_field_syntax c.args.field.now) (field_view c.in-Some.meant.now) p
    c.in_ok-inner.inner.items c.deref.result.now _ _ _
    (sym (ap field_found c.in-Some.is) ∙ c.in_ok-meant.ensures) c.in_ok-inner.ensures
    c.deref.ensures.value (c.in_ok-add_path.ensures p) (h p))
    c.add_paths_in.ensures
