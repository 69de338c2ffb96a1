use Rattle.std.proofs.Common.{◌≡◌, false, map, take}
use Rattle.std.specs.List.{list_any}
use Rattle.protobuf_parse_model.specs.Descriptors.{field_view}
use Rattle.protobuf_parse_rules.specs.Asking.{field_asks}
use Rattle.protobuf_parse_rules.specs.BodyViews.{content_view}
use Rattle.protobuf_parse_rules.proofs.asking.any_field_asks.Given as goal

abbrev pub invariant-fields : goal.invariant-fields
invariant-fields l = list_any (field_asks l.proto3 (content_view l.holds))
    (map field_view (take l.field-index l.fields)) ≡ false
