use Rattle.std.proofs.Common.{◌≡◌, false, map, take}
use Rattle.std.specs.List.{list_any}
use Rattle.protobuf_parse_model.specs.Descriptors.{field_view}
use Rattle.protobuf_parse_rules.specs.Customs.{field_sets}
use Rattle.protobuf_parse_rules.proofs.customs.any_field_sets.Given as goal

abbrev pub invariant-fields : goal.invariant-fields
invariant-fields l = list_any field_sets (map field_view (take l.field-index l.fields)) ≡ false
