use Rattle.std.proofs.Common.{◌+◌, map, take}
use Rattle.std.specs.Prelude.{bytes_eq}
use Rattle.protobuf_parse_text_rules.specs.Views.{told}
use Rattle.protobuf_parse_name_rules.specs.InnerViews.{custom_view, has_path, viewpoint_view}
use Rattle.protobuf_parse_name_rules.specs.Options.{Path, path_of, paths_set}
use Rattle.protobuf_parse_name_rules.proofs.Sets.{any_next, map_item}
use Rattle.protobuf_parse_name_rules.proofs.Twice.{again_told}
use Rattle.protobuf_parse_name_rules.proofs.again.tell_set_again.Goals as goal

pub customs-preserved : goal.customs-preserved
customs-preserved c =
    let at = viewpoint_view c.args.at.now in
    let customs = c.args.customs.now in
    let i = c.customs.custom-index in
    let x = c.custom-item.result in
    let o = custom_view x in
    let before = map custom_view (take i customs) in
    let after = map custom_view (take (i + 1) customs) in
    let more = map_item custom_view customs i x c.customs-test.true c.custom-item.is in
    record {
      told = again_told at (told c.args.found.now) (told c.customs.found)
          (told c.tell_again.new.found) before after o (has_path c.customs.paths)
          c.customs.invariant.told c.in_ok-tell_again.ensures
          (c.customs.invariant.paths (path_of o.fields)) more;
      paths = λ p.
          any_next (λ (y : Path). bytes_eq y p) (paths_set at) before after o _ _
          (c.in_ok-add_paths.ensures p) (c.customs.invariant.paths p) more;
    }
