use Rattle.std.proofs.Common.{◌≡◌, false, map, take}
use Rattle.std.specs.List.{list_any}
use Rattle.protobuf_parse_model.specs.Descriptors.{field_view}
use Rattle.protobuf_parse_rules.specs.Wanted.{is_wanted_field}
use Rattle.protobuf_parse_rules.proofs.number_keys.has_wanted_field.Given as goal

abbrev pub invariant-fields : goal.invariant-fields
invariant-fields l = list_any (is_wanted_field l.wanted.sorted.items l.front)
    (map field_view (take l.field-index l.fields)) ≡ false
