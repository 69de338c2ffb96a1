use Rattle.std.proofs.Common.{◌≡◌, flat_map, map, take}
use Rattle.std.specs.Prelude.{◌||◌}
use Rattle.protobuf_parse_syntax.specs.InnerViews.{constant_field_syntax}
use Rattle.protobuf_parse_text_rules.specs.Options.{stands_in}
use Rattle.protobuf_parse_name_rules.specs.InnerViews.{has_path, paths_by, viewpoint_view}
use Rattle.protobuf_parse_name_rules.specs.Options.{Path}
use Rattle.protobuf_parse_name_rules.proofs.again.+constant.Given as goal

abbrev pub invariant-add_paths_among-fields : goal.invariant-add_paths_among-fields
invariant-add_paths_among-fields l = (p : Path) → has_path l.paths p ≡ (has_path l.fn.paths p
    || stands_in p (flat_map (paths_by (viewpoint_view l.at) l.path l.message)
    (map constant_field_syntax (take l.field-index l.fields))))
