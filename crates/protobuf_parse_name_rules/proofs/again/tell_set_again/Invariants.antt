use Rattle.std.proofs.Common.{◌≡◌, ◌++◌, [], flat_map, map, take}
use Rattle.protobuf_parse_text_rules.specs.Views.{told}
use Rattle.protobuf_parse_text_rules.specs.Options.{stands_in}
use Rattle.protobuf_parse_name_rules.specs.InnerViews.{custom_view, has_path, viewpoint_view}
use Rattle.protobuf_parse_name_rules.specs.Options.{Path, paths_set, set_again}
use Rattle.protobuf_parse_name_rules.proofs.again.tell_set_again.Given as goal

abbrev pub invariant-customs : goal.invariant-customs
invariant-customs l =
    let at = viewpoint_view l.at in
    let before = map custom_view (take l.custom-index l.customs) in
    record {
      told : told l.found ≡ told l.fn.found ++ set_again at [] before;
      paths : (p : Path) → has_path l.paths p ≡ stands_in p (flat_map (paths_set at) before);
    }
