use Rattle.std.proofs.Common.{◌≡◌, take}
use Rattle.std.specs.Prelude.{◌||◌}
use Rattle.protobuf_parse_base.specs.Names.{fronts}
use Rattle.protobuf_parse_text_rules.specs.Options.{stands_in}
use Rattle.protobuf_parse_name_rules.specs.InnerViews.{fields_view, has_path}
use Rattle.protobuf_parse_name_rules.specs.Options.{Path, path_of}
use Rattle.protobuf_parse_name_rules.proofs.again.add_fronts.Given as goal

abbrev pub invariant-fields : goal.invariant-fields
invariant-fields l = record {
  front : l.front.items ≡ path_of (fields_view (take l.field-index l.fields));
  paths : (p : Path) → has_path l.paths p ≡ (has_path l.fn.paths p
      || stands_in p (fronts (path_of (fields_view (take l.field-index l.fields)))));
}
