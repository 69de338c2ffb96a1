use Rattle.std.proofs.Common.{◌≡◌, ◌++◌, map, take}
use Rattle.protobuf_parse_model.specs.Descriptors.{field_view}
use Rattle.protobuf_parse_rules.specs.Keys.{field_key}
use Rattle.protobuf_parse_rules.proofs.number_keys.add_field_keys.Given as goal

abbrev pub invariant-fields : goal.invariant-fields
invariant-fields l = l.keys.items ≡ l.fn.keys.items
    ++ map (field_key l.front) (map field_view (take l.field-index l.fields))
