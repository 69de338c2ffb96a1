use Rattle.std.proofs.Common.{◌≡◌, ◌++◌, flat_map, map, take}
use Rattle.protobuf_parse_syntax.specs.InnerViews.{constant_field_syntax}
use Rattle.protobuf_parse_syntax.specs.Trees.{constant_syntax}
use Rattle.protobuf_parse_model.specs.Descriptors.{field_view}
use Rattle.protobuf_parse_text_rules.specs.Views.{told}
use Rattle.protobuf_parse_name_rules.specs.Constants.{value_breaches}
use Rattle.protobuf_parse_name_rules.specs.InnerViews.{member_breaches, viewpoint_view}
use Rattle.protobuf_parse_name_rules.proofs.constants.+constant.Given as goal

abbrev pub invariant-check_items-items : goal.invariant-check_items-items
invariant-check_items-items l = told l.found ≡ told l.fn.found
    ++ flat_map (value_breaches (viewpoint_view l.at) l.place (field_view l.field))
    (map constant_syntax (take l.item-index l.items))

abbrev pub invariant-check_members-fields : goal.invariant-check_members-fields
invariant-check_members-fields l = told l.found ≡ told l.fn.found
    ++ flat_map (member_breaches (viewpoint_view l.at) l.place l.message)
    (map constant_field_syntax (take l.field-index l.fields))
