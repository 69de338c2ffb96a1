use Rattle.std.proofs.Common.{◌≡◌, take}
use Rattle.protobuf_parse_name_rules.specs.InnerViews.{fields_view}
use Rattle.protobuf_parse_name_rules.specs.Options.{path_of}
use Rattle.protobuf_parse_name_rules.proofs.again.path_of.Given as goal

abbrev pub invariant-fields : goal.invariant-fields
invariant-fields l = l.path.items ≡ path_of (fields_view (take l.field-index l.fields))
